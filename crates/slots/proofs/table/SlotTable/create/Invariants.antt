use Rattle.slots.proofs.Creating.{Passed}
use Rattle.slots.proofs.table.SlotTable.create.Given as goal

abbrev pub invariant-loop-place : goal.invariant-loop-place
invariant-loop-place g l = Passed l.initial.seat l.place l.seat
