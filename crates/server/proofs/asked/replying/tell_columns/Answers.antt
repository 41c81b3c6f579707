use Rattle.std.proofs.Common.{[], ◌∷◌, refl}
use Rattle.server.specs.declared.asked.question.Question.TheVariants as questions
use Rattle.server.specs.Answers.{columns_told}
use Rattle.server.specs.Calls as calls
use Rattle.server.specs.Conversation.{AnswersQuestion}
use Rattle.server.proofs.Steps.{gave}
use Rattle.server.proofs.asked.replying.tell_columns.Goals as goal

pub returns : goal.returns
returns g c =
    gave g.D.Backend.told (AnswersQuestion (questions.Columns c.args.names.now)) (calls.Columns c.args.names.now c.columns-answer.result ∷ []) (columns_told c.columns-answer.result) c.say_found_columns.result
    c.args.backend.now c.args.out.now.items c.columns-answer.new.self c.say_found_columns.new.out.items (c.columns-answer.new.self, c.columns-answer.ensures.told, refl) (c.columns-answer.result, refl, refl) c.say_found_columns.ensures
