use Rattle.std.proofs.Common.{◌≡◌, ℕ, List, length, cond}
use Rattle.store.specs.Slots.{slot_at}
use Rattle.store.specs.Keeping.{AreShort, is_in_journal, slot_after_end}
use Rattle.store.proofs.places.slots.Slots.free_all.Given as goal

abbrev pub invariant-loop-undos : goal.invariant-loop-undos
invariant-loop-undos l = ((place : List ℕ) →
    cond (is_in_journal place l.journal) (slot_after_end l.top (slot_at l.self place)) (slot_at l.self place) ≡ cond (is_in_journal place l.fn.journal) (slot_after_end l.top (slot_at l.fn.self place)) (slot_at l.fn.self place))
    × (AreShort l.fn.self → AreShort l.self)

abbrev pub decreases-loop-undos : goal.decreases-loop-undos
decreases-loop-undos l = length l.journal
