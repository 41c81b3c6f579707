use Rattle.std.proofs.Common.{[], ◌∷◌, refl}
use Rattle.server.specs.declared.asked.question.Question.TheVariants as questions
use Rattle.server.specs.TableAnswers.{table_told}
use Rattle.server.specs.Calls as calls
use Rattle.server.specs.Conversation.{AnswersQuestion}
use Rattle.server.proofs.Steps.{gave}
use Rattle.server.proofs.asked.telling_table.tell_table.Goals as goal

pub returns : goal.returns
returns g c =
    let told = rw (c.as_str.ensures.value, c.as_str-2.ensures.value) at c.table-answer.ensures in
    gave g.D.Backend.told (AnswersQuestion (questions.Table c.args.table.now)) (calls.Table c.args.table.now.schema c.args.table.now.name c.table-answer.result ∷ []) (table_told c.table-answer.result) c.say_found_table.result
    c.args.backend.now c.args.out.now.items c.table-answer.new.self c.say_found_table.new.out.items (c.table-answer.new.self, told, refl) (c.table-answer.result, refl, refl) c.say_found_table.ensures
