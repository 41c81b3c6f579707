use Rattle.test_vectors.proofs.uses.own_log.work_on_log.Given as goal

abbrev pub ghosts-over_log : goal.ghosts-over_log
ghosts-over_log g a = record { book = a.opened.history.seen.book }
