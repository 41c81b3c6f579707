use Rattle.test_vectors.proofs.uses.claims.on_slots.Given as goal

abbrev pub ghosts-over_table : goal.ghosts-over_table
ghosts-over_table g a = record { table = a.opened.first.table_id }
