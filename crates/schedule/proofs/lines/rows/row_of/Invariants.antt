use Rattle.std.proofs.Common.{◌≡◌, ◌++◌, drop}
use Rattle.schedule.specs.Rows.{row_in}
use Rattle.schedule.proofs.lines.rows.row_of.Given as goal

abbrev pub invariant-loop-literal : goal.invariant-loop-literal
invariant-loop-literal l = l.values.items ++ row_in l.left (drop l.literal-index l.literals) ≡ row_in l.columns l.literals
