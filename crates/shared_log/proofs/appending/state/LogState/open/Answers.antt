use Rattle.shared_log.proofs.Writing.{stands_empty}
use Rattle.shared_log.proofs.appending.state.LogState.open.Goals as goal

pub invariant_of-result : goal.invariant_of-result
invariant_of-result g c = stands_empty _ _ _ c.named-history.ensures c.again.ensures c.in_ok-openings.ensures
