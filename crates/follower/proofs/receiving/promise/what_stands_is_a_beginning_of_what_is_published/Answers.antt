use Rattle.follower.proofs.Served.{begins_published}
use Rattle.follower.proofs.receiving.promise.what_stands_is_a_beginning_of_what_is_published.Goals as goal

pub returns : goal.returns
returns c = begins_published
