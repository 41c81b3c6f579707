use Rattle.std.proofs.Common.{◌≡◌, ◌++◌, map, take, drop}
use Rattle.slots.specs.Keeping.{slot_with_noted_position}
use Rattle.slots.proofs.by_name.naming.note.Given as goal

abbrev pub invariant-loop-slot : goal.invariant-loop-slot
invariant-loop-slot l = l.slot-items ≡ map (slot_with_noted_position l.place l.confirmed) (take l.slot-index l.fn.slots.items) ++ drop l.slot-index l.fn.slots.items
