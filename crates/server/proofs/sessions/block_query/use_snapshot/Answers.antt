use Rattle.std.proofs.Common.{refl}
use Rattle.server.proofs.sessions.block_query.use_snapshot.Goals as goal

pub returns-in-Used : goal.returns-in-Used
returns-in-Used g c = rw c.in-Used.is (c.refuse.ensures c.args.block.now refl)

pub returns-in-Failed : goal.returns-in-Failed
returns-in-Failed g c = rw c.in-Failed.is (c.refuse-in-Failed.ensures c.args.block.now refl)
