use Rattle.server_state.proofs.Refused.{told_delete}
use Rattle.server_state.proofs.sessions.transaction.Transaction.delete.Goals as goal

pub returns-clause-refused : goal.returns-clause-refused
returns-clause-refused g c = told_delete c.args.table.now c.args.key.now c.args.self.now c.in_ok-oid.oid c.in_ok-oid.key c.in-Err.fault c.in_ok-oid.ensures.ok c.in-Err.ensures.refused
