use Rattle.std.proofs.Common.{◌≡◌, ◌++◌, drop, take}
use Rattle.std.specs.VecDeque.Iter.{deque_iter_rest}
use Rattle.wal.specs.Records.{shared_records}
use Rattle.shared_log.specs.Kept.{records_in}
use Rattle.shared_log.proofs.following.reader.shares.Given as goal

abbrev pub invariant-loop-logged : goal.invariant-loop-logged
invariant-loop-logged l = shared_records l.copies.items ++ records_in (deque_iter_rest l.logged-iterator) ≡ take l.fn.max (drop l.fn.skipped (records_in l.fn.records.items))
