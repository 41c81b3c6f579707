use Rattle.follower.proofs.Deeds.{none_lost}
use Rattle.follower.proofs.receiving.promise.no_transaction_is_lost.Goals as goal

pub returns : goal.returns
returns c = none_lost
