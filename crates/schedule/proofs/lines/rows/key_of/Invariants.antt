use Rattle.std.proofs.Common.{◌≡◌, ◌++◌, drop}
use Rattle.schedule.specs.Rows.{row_in, key_columns}
use Rattle.schedule.proofs.lines.rows.key_of.Given as goal

abbrev pub invariant-loop-literal : goal.invariant-loop-literal
invariant-loop-literal l = l.values.items ++ row_in (key_columns l.left) (drop l.literal-index l.literals) ≡ row_in (key_columns l.columns) l.literals
