use Rattle.std.proofs.Common.{◌≡◌, drop}
use Rattle.wal.specs.Log.{follows}
use Rattle.wal.specs.Records.{shared_records}
use Rattle.walsender.proofs.sender.do_follow.Given as goal

abbrev pub invariant-loop-record : goal.invariant-loop-record
invariant-loop-record l = follows l.next (shared_records (drop l.record-index l.records)) ≡ follows l.position (shared_records l.records)
