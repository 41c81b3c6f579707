use Rattle.std.proofs.Common.{◌≡◌, ◌++◌, drop}
use Rattle.tables.proofs.rows.row.Row.copy.Given as goal

abbrev pub invariant-loop-value : goal.invariant-loop-value
invariant-loop-value l = l.copies.items ++ drop l.value-index l.value-items ≡ l.self
