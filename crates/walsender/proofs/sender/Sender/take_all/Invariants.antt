use Rattle.std.proofs.Common.{◌≡◌, ℕ, take, false}
use Rattle.wal.specs.Records.{shared_records}
use Rattle.walsender.specs.Sending.{HasChunks, HasSize, ReadAll}
use Rattle.walsender.proofs.sender.Sender.take_all.Given as goal

abbrev pub invariant-loop-record : goal.invariant-loop-record
invariant-loop-record l = record {
  read : ReadAll l.clock l.fn.self l.self (shared_records (take l.record-index l.records));
  running : l.self.failed ≡ false;
  chunks : (count : ℕ) → HasChunks l.fn.self count → HasChunks l.self count;
  size : (count : ℕ) → HasSize l.fn.self count → HasSize l.self count;
}
