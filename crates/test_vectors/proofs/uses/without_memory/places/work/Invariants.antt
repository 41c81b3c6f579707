use Rattle.test_vectors.proofs.uses.without_memory.places.work.Given as goal

abbrev pub ghosts-over_table : goal.ghosts-over_table
ghosts-over_table a = record { table = a.opened.first.table_id }
