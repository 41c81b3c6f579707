use Rattle.follower.proofs.Found.{finds}
use Rattle.follower.proofs.receiving.promise.a_run_goes_on_after_the_last_whole_one.Goals as goal

pub returns : goal.returns
returns c = finds
