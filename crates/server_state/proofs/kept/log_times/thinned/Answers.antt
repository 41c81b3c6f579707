use Rattle.server_state.proofs.Marks.{tell_next}
use Rattle.server_state.proofs.kept.log_times.thinned.Goals as goal

pub loop-mark-preserved : goal.loop-mark-preserved
loop-mark-preserved c = tell_next _ _ _ _ _ c.loop-mark-test.true c.loop-mark.invariant c.in_ok-add.ensures
