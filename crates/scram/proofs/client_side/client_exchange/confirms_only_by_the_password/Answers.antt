use Rattle.scram.proofs.Confirming.{confirmed_by_the_password}
use Rattle.scram.proofs.client_side.client_exchange.confirms_only_by_the_password.Goals as goal

pub returns : goal.returns
returns c password challenge said exchange answer is right = confirmed_by_the_password password exchange challenge said answer is right
