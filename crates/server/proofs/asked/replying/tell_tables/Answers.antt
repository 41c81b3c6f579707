use Rattle.std.proofs.Common.{[], ◌∷◌, refl}
use Rattle.server.specs.declared.asked.question.Question.TheVariants as questions
use Rattle.server.specs.Answers.{tables_told}
use Rattle.server.specs.Calls as calls
use Rattle.server.specs.Conversation.{AnswersQuestion}
use Rattle.server.proofs.Steps.{gave}
use Rattle.server.proofs.asked.replying.tell_tables.Goals as goal

pub returns : goal.returns
returns g c =
    gave g.D.Backend.told (AnswersQuestion (questions.Tables c.args.names.now)) (calls.Tables c.args.names.now c.tables-answer.result ∷ []) (tables_told c.tables-answer.result) c.say_found_tables.result
    c.args.backend.now c.args.out.now.items c.tables-answer.new.self c.say_found_tables.new.out.items (c.tables-answer.new.self, c.tables-answer.ensures.told, refl) (c.tables-answer.result, refl, refl) c.say_found_tables.ensures
