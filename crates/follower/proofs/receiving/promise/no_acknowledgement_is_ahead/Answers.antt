use Rattle.follower.proofs.Lived.{none_ahead}
use Rattle.follower.proofs.receiving.promise.no_acknowledgement_is_ahead.Goals as goal

pub returns : goal.returns
returns c = none_ahead
