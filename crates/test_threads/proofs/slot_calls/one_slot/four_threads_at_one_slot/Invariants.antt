use Rattle.test_threads.proofs.slot_calls.one_slot.four_threads_at_one_slot.Given as goal

abbrev pub ghosts-race : goal.ghosts-race
ghosts-race g a = record { table = a.opened.first.table_id }
