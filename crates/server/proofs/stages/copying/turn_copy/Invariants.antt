use Rattle.std.proofs.Common.{◌-◌, ◌<◌, length}
use Rattle.server.specs.Conversation.{Gave}
use Rattle.server.specs.Copies.{CopiesFrom}
use Rattle.server.specs.Segment.{rows_left}
use Rattle.server.proofs.stages.copying.turn_copy.Given as goal

abbrev pub invariant-loop-out : goal.invariant-loop-out
invariant-loop-out g l = record {
  so_far : Gave g.D.Backend.told (λ asked said. CopiesFrom l.fn.stage asked said l.place) l.fn.backend l.fn.out.items l.backend l.out.items;
  less : rows_left l.place < rows_left l.fn.stage;
}

abbrev pub decreases-loop-out : goal.decreases-loop-out
decreases-loop-out g l = l.until - length l.out.items
