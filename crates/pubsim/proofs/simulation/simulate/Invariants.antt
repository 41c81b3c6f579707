use Rattle.pubsim.proofs.simulation.simulate.Given as goal

abbrev pub ghosts-report_run-L-LogName : goal.ghosts-report_run-L-LogName
ghosts-report_run-L-LogName g a = record { book = a.history.seen.book }

abbrev pub ghosts-report_run-L-SlotName : goal.ghosts-report_run-L-SlotName
ghosts-report_run-L-SlotName g a = record { table = a.slots.first.table_id }
