use Rattle.std.proofs.Common.{arith}
use Rattle.tables.proofs.Lengths.{count_le_row_length}
use Rattle.tables.proofs.rows.row_body.put_row.Goals as goal

pub overflow_cast-values : goal.overflow_cast-values
overflow_cast-values c = rw c.values-values.ensures (omega (arith, count_le_row_length c.args.row.now, c.requires))
