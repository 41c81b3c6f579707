use Rattle.publication.proofs.Judged.{selects}
use Rattle.publication.proofs.publications.Publications.select.Goals as goal

pub returns-in_err-publications-clause-memory : goal.returns-in_err-publications-clause-memory
returns-in_err-publications-clause-memory c = λ _. selects c.args.self.now c.args.names.now c.in_ok-judge.ensures

pub returns-in_err-tables-clause-memory : goal.returns-in_err-tables-clause-memory
returns-in_err-tables-clause-memory c = λ _. selects c.args.self.now c.args.names.now c.in_ok-judge.ensures

pub returns-in_err-new-clause-memory : goal.returns-in_err-new-clause-memory
returns-in_err-new-clause-memory c = λ _. selects c.args.self.now c.args.names.now c.in_ok-judge.ensures

pub returns-clause-known : goal.returns-clause-known
returns-clause-known c = (selects c.args.self.now c.args.names.now c.in_ok-judge.ensures).0
