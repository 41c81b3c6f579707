use Rattle.std.proofs.Common.{length}
use Rattle.txlog.specs.Replaying.{IsBeside, OnlyAborts}
use Rattle.txlog.proofs.publisher.Publisher.abort_all.Given as goal

-- only Aborts were written so far
abbrev pub invariant-loop-xid : goal.invariant-loop-xid
invariant-loop-xid g l = OnlyAborts l.fn.self.log l.self.log × IsBeside l.fn.self l.self

abbrev pub decreases-loop-xid : goal.decreases-loop-xid
decreases-loop-xid g l = length l.self.live
