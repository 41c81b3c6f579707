use Rattle.std.proofs.Common.{◌≡◌, drop}
use Rattle.txlog.specs.Publishing.{savepoints_of}
use Rattle.txlog.proofs.transactions.live.Live.savepoints.Given as goal

abbrev pub invariant-loop-running : goal.invariant-loop-running
invariant-loop-running l = savepoints_of l.xid (drop l.running-index l.running-items) ≡ savepoints_of l.xid l.self
