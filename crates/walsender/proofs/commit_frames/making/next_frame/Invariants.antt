use Rattle.std.proofs.Common.{◌≡◌, ◌-◌, [], length, reverse, vec_capacity}
use Rattle.walsender.specs.Waiting.{AreSelected, Makes, left_of}
use Rattle.walsender.proofs.commit_frames.making.next_frame.Given as goal

abbrev pub invariant-loop-waiting : goal.invariant-loop-waiting
invariant-loop-waiting l = record {
  makes : Makes l.selection l.fn.waiting.clock (left_of l.selection l.reorder.strands.pool l.fn.waiting) (left_of l.selection l.reorder.strands.pool l.waiting) (reverse l.fn.relations_sent.items) (reverse l.relations_sent.items) [];
  waiting : l.waiting ≡ record l.fn.waiting { next = l.waiting.next };
  same : length l.out ≡ length l.fn.out;
  sent : AreSelected l.selection (reverse l.relations_sent.items);
  capacity : vec_capacity l.relations_sent ≡ vec_capacity l.fn.relations_sent;
}

abbrev pub decreases-loop-waiting : goal.decreases-loop-waiting
decreases-loop-waiting l = length l.waiting.ready.places - l.waiting.next
