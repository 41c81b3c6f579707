use Rattle.test_vectors.proofs.uses.recovering.live.Given as goal

abbrev pub ghosts-over_log : goal.ghosts-over_log
ghosts-over_log g a = record { book = a.opened.history.seen.book }
