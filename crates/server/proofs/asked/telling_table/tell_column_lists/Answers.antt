use Rattle.std.proofs.Common.{[], ◌∷◌, refl}
use Rattle.server.specs.declared.asked.question.Question.TheVariants as questions
use Rattle.server.specs.TableAnswers.{lists_told}
use Rattle.server.specs.Calls as calls
use Rattle.server.specs.Conversation.{AnswersQuestion}
use Rattle.server.proofs.Steps.{gave}
use Rattle.server.proofs.asked.telling_table.tell_column_lists.Goals as goal

pub returns : goal.returns
returns g c =
    gave g.D.Backend.told (AnswersQuestion (questions.ColumnLists c.args.oid c.args.names.now)) (calls.ColumnLists c.args.oid c.args.names.now c.column_lists-answer.result ∷ []) (lists_told c.column_lists-answer.result) c.say_column_lists.result
    c.args.backend.now c.args.out.now.items c.column_lists-answer.new.self c.say_column_lists.new.out.items (c.column_lists-answer.new.self, c.column_lists-answer.ensures.told, refl) (c.column_lists-answer.result, refl, refl) c.say_column_lists.ensures
