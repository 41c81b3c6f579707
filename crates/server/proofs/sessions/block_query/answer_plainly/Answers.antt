use Rattle.std.proofs.Common.{refl}
use Rattle.server.proofs.sessions.block_query.answer_plainly.Goals as goal

pub returns-in-Failed : goal.returns-in-Failed
returns-in-Failed g c = rw c.in-Failed.is (c.refuse.ensures c.args.block.now refl)
