use Rattle.std.proofs.Common.{arith}
use Rattle.txlog.proofs.LiveList.{last_savepoint}
use Rattle.txlog.proofs.transactions.live.last_or.Goals as goal

pub returns-in-len1-up : goal.returns-in-len1-up
returns-in-len1-up c = last_savepoint c.args.xid c.args.savepoints.now (record { xid = 0; mark = 0 }) (omega (arith, c.in-len1-up.len_at_least))
