use Rattle.std.proofs.Common.{◌≡◌, length}
use Rattle.schedule.specs.Rows.{key_columns}
use Rattle.schedule.proofs.lines.rows.first_key_of.Given as goal

abbrev pub invariant-loop-left : goal.invariant-loop-left
invariant-loop-left l = key_columns l.left ≡ key_columns l.columns

abbrev pub decreases-loop-left : goal.decreases-loop-left
decreases-loop-left l = length l.left
