use Rattle.std.proofs.Common.{◌≡◌, ℕ, List, length, cond}
use Rattle.store.specs.Slots.{slot_at}
use Rattle.store.specs.Keeping.{AreShort, is_noted, slot_after_end}
use Rattle.store.proofs.places.slots.Slots.free.Given as goal

abbrev pub invariant-loop-undo : goal.invariant-loop-undo
invariant-loop-undo l = ((place : List ℕ) →
    cond (is_noted place l.undos.items) (slot_after_end l.top (slot_at l.self place)) (slot_at l.self place) ≡ cond (is_noted place l.fn.undos) (slot_after_end l.top (slot_at l.fn.self place)) (slot_at l.fn.self place))
    × (AreShort l.fn.self → AreShort l.self)

abbrev pub decreases-loop-undo : goal.decreases-loop-undo
decreases-loop-undo l = length l.undos.items
