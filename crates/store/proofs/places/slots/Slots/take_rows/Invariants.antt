use Rattle.std.proofs.Common.{◌≡◌, ℕ, List, drop}
use Rattle.std.specs.List.{AllByRecursion}
use Rattle.store.specs.Slots.{Entries, slot_at}
use Rattle.store.specs.Emptying.{AreNoted, IsOf, taken_at}
use Rattle.store.proofs.places.slots.Slots.take_rows.Given as goal

abbrev pub invariant-loop-row : goal.invariant-loop-row
invariant-loop-row l = ((place : List ℕ) → taken_at l.top (drop l.row-index l.rows) place (slot_at l.self place) ≡ taken_at l.top l.rows place (slot_at l.fn.self place))
    × ((oids : List ℕ) (start : Entries) → AllByRecursion (IsOf oids start) l.rows → AreNoted oids start l.fn.self l.fn.undos.items → AreNoted oids start l.self l.undos.items)
