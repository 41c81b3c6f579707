use Rattle.follower.proofs.Going.{goes_nowhere, goes_then}
use Rattle.follower.proofs.resuming.Subscription.take_made.Goals as goal

pub loop-init : goal.loop-init
loop-init g c = goes_nowhere _

pub loop-preserved : goal.loop-preserved
loop-preserved g c = goes_then _ _ _ c.loop.invariant c.take_whole.ensures.goes

pub returns-in_err-take_whole : goal.returns-in_err-take_whole
returns-in_err-take_whole g c = record { goes = goes_then _ _ _ c.loop.invariant c.take_whole.ensures.goes }

pub returns-then-not-branch : goal.returns-then-not-branch
returns-then-not-branch g c = record { goes = goes_then _ _ _ c.loop.invariant c.take_whole.ensures.goes }
