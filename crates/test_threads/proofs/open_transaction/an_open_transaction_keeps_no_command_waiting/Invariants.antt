use Rattle.test_threads.proofs.open_transaction.an_open_transaction_keeps_no_command_waiting.Given as goal

abbrev pub ghosts-serve_one-L-LogName : goal.ghosts-serve_one-L-LogName
ghosts-serve_one-L-LogName g a = record { book = a.opened.log.history.seen.book }

abbrev pub ghosts-serve_one-L-SlotName : goal.ghosts-serve_one-L-SlotName
ghosts-serve_one-L-SlotName g a = record { table = a.opened.slots.first.table_id }
