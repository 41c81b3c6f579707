use Rattle.server_state.proofs.sessions.transaction.Transaction.insert_row.Goals as goal

pub returns-clause-refused : goal.returns-clause-refused
returns-clause-refused g c = rw (← c.self.view_is, ← c.deref_mut.ensures.value) c.insert.ensures.refused
