use Rattle.std.proofs.Common.{◌≡◌, ◌++◌}
use Rattle.store.specs.Slots.{entries_of}
use Rattle.store.specs.Emptying.{filled_within}
use Rattle.store.proofs.places.slots.Slots.rows_within.Given as goal

abbrev pub invariant-loop-place : goal.invariant-loop-place
invariant-loop-place l = l.places.items ++ filled_within l.oids (entries_of l.place-iterator) ≡ filled_within l.oids l.self
