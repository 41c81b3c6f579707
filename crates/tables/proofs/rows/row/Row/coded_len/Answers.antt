use Rattle.std.proofs.Common.{arith}
use Rattle.tables.proofs.Lengths.{row_length_is}
use Rattle.tables.proofs.rows.row.Row.coded_len.Goals as goal

pub loop-value-init : goal.loop-value-init
loop-value-init c = rw c.values-value-items.ensures (omega arith, omega (arith, row_length_is c.args.self.now), λ all. all)
