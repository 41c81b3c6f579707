use Rattle.std.proofs.Common.{[], refl}
use Rattle.server.specs.declared.asked.question.Question.TheVariants.{SearchPath}
use Rattle.server.specs.Answers.{path_set}
use Rattle.server.specs.Conversation.{AnswersQuestion}
use Rattle.server.proofs.Steps.{gave}
use Rattle.server.proofs.asked.replying.answer_question.Goals as goal

pub returns-in-SearchPath : goal.returns-in-SearchPath
returns-in-SearchPath g c =
    rw c.in-SearchPath.is (gave g.D.Backend.told (AnswersQuestion SearchPath) [] path_set c.say_path_set.result c.args.backend.now c.args.out.now.items c.args.backend.now c.say_path_set.new.out.items refl (refl, refl) c.say_path_set.ensures)

pub returns-in-InitialCopy : goal.returns-in-InitialCopy
returns-in-InitialCopy g c = rw c.in-InitialCopy.is c.refuse_copy.ensures

pub returns-in-ColumnLists : goal.returns-in-ColumnLists
returns-in-ColumnLists g c = rw c.in-ColumnLists.is c.tell_column_lists.ensures

pub returns-in-RowFilters : goal.returns-in-RowFilters
returns-in-RowFilters g c = rw c.in-RowFilters.is c.tell_row_filters.ensures
