use Rattle.std.proofs.Common.{[], ◌∷◌, refl}
use Rattle.server.specs.declared.asked.question.Question.TheVariants as questions
use Rattle.server.specs.TableAnswers.{filters_told}
use Rattle.server.specs.Calls as calls
use Rattle.server.specs.Conversation.{AnswersQuestion}
use Rattle.server.proofs.Steps.{gave}
use Rattle.server.proofs.asked.telling_table.tell_row_filters.Goals as goal

pub returns : goal.returns
returns g c =
    gave g.D.Backend.told (AnswersQuestion (questions.RowFilters c.args.oid c.args.names.now)) (calls.RowFilters c.args.oid c.args.names.now c.row_filters-answer.result ∷ []) (filters_told c.row_filters-answer.result) c.say_row_filters.result
    c.args.backend.now c.args.out.now.items c.row_filters-answer.new.self c.say_row_filters.new.out.items (c.row_filters-answer.new.self, c.row_filters-answer.ensures.told, refl) (c.row_filters-answer.result, refl, refl) c.say_row_filters.ensures
