use Rattle.server.proofs.Blocks.{goes}
use Rattle.server.proofs.sessions.block_query.go_on.Goals as goal

pub returns : goal.returns
returns g c =
    let answered = rw c.new-plain.ensures.items at c.answer_plainly-answered.ensures in
    let says = rw c.as_slice.ensures at c.settle-settled.ensures in
    goes g.D.Backend.told c.args.block c.args.query.now c.answer_plainly-answered.result c.answer_plainly-answered.new.plain.items c.settle-settled.result c.args.backend.now c.args.out.now.items c.answer_plainly-answered.new.backend c.settle-settled.new.out.items
    answered says
