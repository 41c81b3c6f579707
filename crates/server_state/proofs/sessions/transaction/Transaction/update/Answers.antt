use Rattle.server_state.proofs.Refused.{told_update}
use Rattle.server_state.proofs.sessions.transaction.Transaction.update.Goals as goal

pub returns-clause-refused : goal.returns-clause-refused
returns-clause-refused g c = told_update c.args.table.now c.args.key.now c.args.fields.now c.args.self.now c.in_ok-key.field-0-0 c.in_ok-oid.oid c.in_ok-key.key c.in_ok-oid.row c.in-Err.fault c.in_ok-key.ensures.ok c.in_ok-oid.ensures.ok c.in-Err.ensures.refused
