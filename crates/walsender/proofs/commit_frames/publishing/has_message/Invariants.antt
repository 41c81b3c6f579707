use Rattle.std.proofs.Common.{◌≡◌, drop}
use Rattle.reorder.specs.Ready.{ready_entries}
use Rattle.walsender.specs.Published.{published_changes}
use Rattle.walsender.proofs.commit_frames.publishing.has_message.Given as goal

abbrev pub invariant-loop-k : goal.invariant-loop-k
invariant-loop-k l = record {
  none : published_changes l.selection (drop l.k (ready_entries l.reorder.strands.pool l.fn.ready)) ≡ published_changes l.selection (ready_entries l.reorder.strands.pool l.fn.ready);
  ready : l.ready ≡ l.fn.ready;
}
