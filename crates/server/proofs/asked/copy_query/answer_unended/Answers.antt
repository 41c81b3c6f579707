use Rattle.std.specs.Prelude.{Some, None}
use Rattle.server.specs.Blocks.{AnswersUnended, Goes}
use Rattle.server.specs.Copies.{AnswersCopy, SpellsCopy}
use Rattle.server.specs.declared.asked.copy_command.CopyCommand.{CopyCommand}
use Rattle.server.proofs.Steps.{answered_as}
use Rattle.server.proofs.asked.copy_query.answer_unended.Goals as goal

pub returns-in_default : goal.returns-in_default
returns-in_default g c =
    let none : (copy : CopyCommand) → SpellsCopy c.args.query.now copy → ⊥ = rw c.in_default.is at c.in_ok-copy.ensures in
    answered_as g.D.Backend.told c.go_on.result (λ next asked said. Goes c.args.block c.args.query.now asked said next) (λ next asked said. AnswersUnended c.args.block c.args.query.now asked said next)
    c.args.backend.now c.args.out.now.items c.go_on.new.backend c.go_on.new.out.items (λ next asked said part. (None, none, part)) c.go_on.ensures

pub returns : goal.returns
returns g c =
    let spells : SpellsCopy c.args.query.now c.in-Some.copy = rw c.in-Some.is at c.in_ok-copy.ensures in
    answered_as g.D.Backend.told c.answer_copy-answered.result (λ next asked said. AnswersCopy c.args.block.state c.args.block c.in-Some.copy asked said next) (λ next asked said. AnswersUnended c.args.block c.args.query.now asked said next)
    c.args.backend.now c.args.out.now.items c.answer_copy-answered.new.backend c.answer_copy-answered.new.out.items (λ next asked said part. (Some c.in-Some.copy, spells, part)) c.answer_copy-answered.ensures
