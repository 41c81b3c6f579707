use Rattle.world.proofs.Naming.{place_is}
use Rattle.world.proofs.subscriber.place_of.Goals as goal

pub returns : goal.returns
returns c = λ subscribers named. place_is c.args.names.now c.args.connection.now c.get_index_of.result subscribers (rw c.as_str.ensures.value at c.get_index_of.ensures.index) named
