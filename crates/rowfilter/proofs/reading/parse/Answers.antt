use Rattle.rowfilter.proofs.Answering.{answered}
use Rattle.rowfilter.proofs.Filters.{only_given}
use Rattle.rowfilter.proofs.reading.parse.Goals as goal

-- src/reading.rt:33:1
pub returns-clause-only : goal.returns-clause-only
returns-clause-only c = only_given c.args.table.now c.args.text.now c.filter_of.result c.filter_of.ensures

pub returns-clause-answer : goal.returns-clause-answer
returns-clause-answer c = answered c.args.table.now c.args.text.now c.filter_of.result c.filter_of.ensures
