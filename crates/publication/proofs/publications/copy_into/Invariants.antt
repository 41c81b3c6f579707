use Rattle.std.proofs.Common.{◌≡◌, ◌++◌, drop}
use Rattle.publication.proofs.publications.copy_into.Given as goal

abbrev pub invariant-loop-table : goal.invariant-loop-table
invariant-loop-table l = l.copies.items ++ drop l.table-index l.tables ≡ l.fn.copies.items ++ l.tables
