use Rattle.hub.proofs.service_hub.with_hub.Given as goal

abbrev pub ghosts-run_named-L-LogName : goal.ghosts-run_named-L-LogName
ghosts-run_named-L-LogName g a = record { book = a.builder.log.history.seen.book }

abbrev pub ghosts-run_named-L-SlotName : goal.ghosts-run_named-L-SlotName
ghosts-run_named-L-SlotName g a = record { table = a.builder.slots.first.table_id }
