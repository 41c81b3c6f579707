use Rattle.std.proofs.Common.{◌≡◌}
use Rattle.store.specs.Slots.{entries_of}
use Rattle.store.specs.Emptying.{is_other_within}
use Rattle.store.proofs.places.slots.Slots.is_held_within.Given as goal

abbrev pub invariant-loop-place : goal.invariant-loop-place
invariant-loop-place l = is_other_within l.top l.oids (entries_of l.place-iterator) ≡ is_other_within l.top l.oids l.self
