use Rattle.std.proofs.Common.{arith}
use Rattle.wal.proofs.Laws.{last_at}
use Rattle.reorder.proofs.strands.last_or.Goals as goal

pub returns-in-len1-up : goal.returns-in-len1-up
returns-in-len1-up c = last_at c.args.xid c.args.xids.now (omega (arith, c.in-len1-up.len_at_least))
