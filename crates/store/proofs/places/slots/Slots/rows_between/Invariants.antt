use Rattle.std.proofs.Common.{◌≡◌, ◌++◌, map, slice_range}
use Rattle.store.specs.Slots.{entries_of}
use Rattle.store.specs.Snapshots.{standing_of, standing_within}
use Rattle.store.proofs.places.slots.Slots.rows_between.Given as goal

abbrev pub invariant-loop-place : goal.invariant-loop-place
invariant-loop-place l =
    l.rows.items ++ map (λ s. s.1) (standing_within l.oid (standing_of (entries_of l.place-iterator)))
    ≡ map (λ s. s.1) (standing_within l.oid (standing_of (slice_range l.self l.start l.end)))
