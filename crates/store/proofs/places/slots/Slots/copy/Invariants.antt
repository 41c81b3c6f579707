use Rattle.std.proofs.Common.{◌≡◌, ◌++◌}
use Rattle.store.specs.Slots.{entries_of}
use Rattle.store.specs.Snapshots.{AreOnce}
use Rattle.store.proofs.places.slots.Slots.copy.Given as goal

abbrev pub invariant-loop-place : goal.invariant-loop-place
invariant-loop-place l = AreOnce l.self × (entries_of l.by_place.entries ++ entries_of l.place-iterator ≡ l.self)
