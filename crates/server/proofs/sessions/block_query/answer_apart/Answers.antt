use Rattle.std.proofs.Common.{refl}
use Rattle.server.proofs.sessions.block_query.answer_apart.Goals as goal

pub returns-in-Export : goal.returns-in-Export
returns-in-Export g c = rw c.in-Export.is (c.refuse.ensures c.args.block.now refl)

pub returns-in-Start : goal.returns-in-Start
returns-in-Start g c = rw c.in-Start.is (c.refuse-in-Start.ensures c.args.block.now refl)
