use Rattle.server_state.proofs.Refused.{told_insert}
use Rattle.server_state.proofs.sessions.transaction.Transaction.insert.Goals as goal

pub returns-in-Err-clause-refused : goal.returns-in-Err-clause-refused
returns-in-Err-clause-refused g c = told_insert c.args.table.now c.args.fields.now c.args.self.now c.in_ok-oid.oid c.in_ok-oid.row c.in-Err.fault c.in_ok-oid.ensures.ok c.in-Err.ensures.refused
