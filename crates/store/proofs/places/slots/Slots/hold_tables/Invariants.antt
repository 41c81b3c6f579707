use Rattle.std.proofs.Common.{◌≡◌, ℕ, List, Some, drop}
use Rattle.store.specs.Slots.{Entries, slot_at}
use Rattle.store.specs.Keeping.{all_emptied, put_at}
use Rattle.store.specs.Emptying.{AreNoted}
use Rattle.store.proofs.places.slots.Slots.hold_tables.Given as goal

abbrev pub invariant-loop-oid : goal.invariant-loop-oid
invariant-loop-oid l = ((place : List ℕ) → put_at (Some l.top) (all_emptied (drop l.oid-index l.oids)) place (slot_at l.self place) ≡ put_at (Some l.top) (all_emptied l.oids) place (slot_at l.fn.self place))
    × ((start : Entries) → AreNoted l.oids start l.fn.self l.fn.undos.items → AreNoted l.oids start l.self l.undos.items)
