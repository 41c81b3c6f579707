use Rattle.std.proofs.Common.{◌≡◌, ◌++◌, drop}
use Rattle.tables.proofs.table.copy_of.Given as goal

abbrev pub invariant-loop-column : goal.invariant-loop-column
invariant-loop-column l = l.copies.items ++ drop l.column-index l.columns ≡ l.columns
