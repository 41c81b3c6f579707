use Rattle.follower.proofs.Deeds.{each_once}
use Rattle.follower.proofs.receiving.promise.each_transaction_is_printed_once.Goals as goal

pub returns : goal.returns
returns c = each_once
