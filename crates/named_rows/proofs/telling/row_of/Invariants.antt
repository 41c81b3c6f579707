use Rattle.std.proofs.Common.{◌≡◌, ◌++◌, drop, map}
use Rattle.named_rows.specs.Fields.{row_told}
use Rattle.named_rows.proofs.telling.row_of.Given as goal

abbrev pub invariant-loop-column : goal.invariant-loop-column
invariant-loop-column l =
    (l.column-items ≡ l.fn.table.columns) × (l.values.items ++ row_told (drop l.column-index l.column-items) l.fields ≡ row_told l.fn.table.columns l.fields)
