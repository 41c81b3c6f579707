use Rattle.std.proofs.Common.{◌≡◌, ◌++◌, drop}
use Rattle.publication_config.proofs.publication.copies.Given as goal

abbrev pub invariant-loop-table : goal.invariant-loop-table
invariant-loop-table l = l.copies.items ++ drop l.table-index l.tables ≡ l.tables
