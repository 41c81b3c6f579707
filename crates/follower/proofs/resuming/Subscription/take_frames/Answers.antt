use Rattle.follower.proofs.Going.{goes_nowhere, goes_then}
use Rattle.follower.proofs.resuming.Subscription.take_frames.Goals as goal

pub loop-init : goal.loop-init
loop-init g c = goes_nowhere _

pub loop-preserved : goal.loop-preserved
loop-preserved g c = goes_then _ _ _ c.loop.invariant (rw c.tell_time.ensures at c.take_next.ensures.goes)

pub returns-in_err-take_next-clause-goes : goal.returns-in_err-take_next-clause-goes
returns-in_err-take_next-clause-goes g c = goes_then _ _ _ c.loop.invariant (rw c.tell_time.ensures at c.take_next.ensures.goes)
