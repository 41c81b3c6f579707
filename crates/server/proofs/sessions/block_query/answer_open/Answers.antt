use Rattle.std.proofs.Common.{true, false, [], refl, sym}
use Rattle.std.specs.Prelude.{codes}
use Rattle.server.specs.Blocks.{Answers, Begins, completed}
use Rattle.server.proofs.Blocks.{gave_given}
use Rattle.server.proofs.Steps.{answered_as}
use Rattle.server.proofs.sessions.block_query.answer_open.Goals as goal

pub returns-then-begins_block : goal.returns-then-begins_block
returns-then-begins_block g c =
    rw (sym c.if-begins_block.ensures, c.held.ensures)
    (gave_given g.D.Backend.told (λ held. Begins true c.args.block.now c.args.query.now held) c.args.block.now.holds [] (completed (codes "BEGIN")) c.say_completed_ready-said.result
    c.args.backend.now c.args.plain.now.items c.args.backend.now c.say_completed_ready-said.new.out.items refl (refl, refl, refl) c.say_completed_ready-said.ensures)

pub returns : goal.returns
returns g c =
    rw (sym c.if-begins_block.ensures)
    (answered_as g.D.Backend.told c.answer_read-answered.result (λ held. Answers c.in_ok-apart.apart c.args.block.now c.args.query.now held) (λ held. Begins false c.args.block.now c.args.query.now held)
    c.args.backend.now c.args.plain.now.items c.answer_read-answered.new.backend c.answer_read-answered.new.plain.items
    (λ held asked text fact. (c.in_ok-apart.apart, c.in_ok-apart.ensures.read, fact)) c.answer_read-answered.ensures)
