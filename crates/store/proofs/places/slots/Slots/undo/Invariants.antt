use Rattle.std.proofs.Common.{length}
use Rattle.store.specs.Slots.{CanUndo, slot_at}
use Rattle.store.proofs.Undoing.{Undone}
use Rattle.store.proofs.places.slots.Slots.undo.Given as goal

abbrev pub invariant-loop-undo : goal.invariant-loop-undo
invariant-loop-undo l = CanUndo l.fn.undos (slot_at l.fn.self) → Undone l.undos.items l.fn.undos l.self l.fn.self

abbrev pub decreases-loop-undo : goal.decreases-loop-undo
decreases-loop-undo l = length l.undos.items
