use Rattle.std.proofs.Common.{◌≡◌, ◌++◌, List, take}
use Rattle.wal.specs.Records.{shared_records}
use Rattle.wal.specs.declared.record.Record.{Record}
use Rattle.segments.specs.Keeping.{HasLogged}
use Rattle.segments.proofs.keeping.write_all.Given as goal

-- so many of the records were written
abbrev pub invariant-loop-record : goal.invariant-loop-record
invariant-loop-record g l = (l.written ≡ l.record-index)
    × ((log : List Record) → HasLogged g.D.Disk.seen l.fn.segment log → HasLogged g.D.Disk.seen l.segment (log ++ take l.written (shared_records l.fn.records)))
