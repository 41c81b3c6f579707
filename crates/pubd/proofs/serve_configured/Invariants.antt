use Rattle.pubd.proofs.serve_configured.Given as goal

abbrev pub ghosts-served-L-LogName : goal.ghosts-served-L-LogName
ghosts-served-L-LogName g a = record { book = a.opened.log.history.seen.book }

abbrev pub ghosts-served-L-SlotName : goal.ghosts-served-L-SlotName
ghosts-served-L-SlotName g a = record { table = a.opened.slots.first.table_id }
