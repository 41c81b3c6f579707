use Rattle.server.proofs.TableReads.{number_after}
use Rattle.server.proofs.asked.table_question.number_behind.Goals as goal

pub returns-in-Some : goal.returns-in-Some
returns-in-Some c = number_after c.args.text.now c.args.front.now c.in-Some.numbered.now c.number_of.result c.in-Some.ensures c.number_of.ensures
