-- Records as they are made and kept: which one comes next, and the list that shares of them come to.
use Rattle.std.specs.Prelude.{◌+◌, List, map}
use Rattle.std.specs.declared.sync.Arc.{Arc}
use Rattle.wal.specs.declared.record.TheConstants.{FIRST_POSITION}
use Rattle.wal.specs.declared.record.Record.{Record}
use Rattle.wal.specs.declared.record.Body.{Body}
use Rattle.wal.specs.Log.{end_of, size_of}

-- the record that comes next in a log
abbrev pub record_after : List Record → Body → Record
record_after log body = record { start = end_of FIRST_POSITION log; end = end_of FIRST_POSITION log + size_of body; body = body }

-- the records of a list of shares
abbrev pub shared_records : {A : Type 0} → List (Arc Record A) → List Record
shared_records records = map (λ r. r.value) records
