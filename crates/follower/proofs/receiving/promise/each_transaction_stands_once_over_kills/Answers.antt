use Rattle.follower.proofs.Lived.{over_lives}
use Rattle.follower.proofs.receiving.promise.each_transaction_stands_once_over_kills.Goals as goal

pub returns : goal.returns
returns c = over_lives
