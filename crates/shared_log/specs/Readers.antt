-- What a reader has seen of the log.
use Rattle.std.specs.Prelude.{◌≡◌, ◌+◌, ◌<◌, ℕ, List, length}
use mathlib.Core.List.{IsPrefix}
use Rattle.left_right.specs.Sides.{view}
use Rattle.wal.specs.declared.record.Record.{Record}
use Rattle.wal.specs.Log.{IsWellFormedLog}
use Rattle.shared_log.specs.declared.histories.entry.Entry.{Entry}
use Rattle.shared_log.specs.declared.fault.ReadFault.{ReadFault}
use Rattle.shared_log.specs.declared.fault.ReadFault.TheVariants as reads
use Rattle.shared_log.specs.declared.following.reader.LogReader.{LogReader}
use Rattle.shared_log.specs.SeenPrefixes.{settled_records, shown_records}

-- the log as its last entry found it
abbrev pub seen_of : {L : Type 0} → LogReader L → List Record
seen_of r = (view r.reader.place).seen

-- the place of the first record that lay in memory then
abbrev pub edge_of : {L : Type 0} → LogReader L → ℕ
edge_of r = (view r.reader.place).edge

-- The log was seen as it stood before the last record that the reader was told of: after what shows it there is more than that
-- record's confirmation.
abbrev pub IsBehind : List Entry → List Record → Type 0
IsBehind told seen = (front : List Entry) × (seen ≡ shown_records front) × IsPrefix front told × (length front + 1 < length told)

-- What a fetch that gave no records has seen: nothing more where its entry was refused; a log that lacks what the reader
-- had been told; and, where memory was refused or records were removed, one with all of that.
abbrev pub HasSeen : {L : Type 0} → ReadFault → LogReader L → LogReader L → Type 0
HasSeen reads.NoEntry old new = seen_of new ≡ seen_of old
HasSeen reads.Stale old new = IsPrefix (seen_of old) (seen_of new) × IsBehind new.told (seen_of new)
HasSeen reads.Memory old new = IsPrefix (settled_records new.told) (seen_of new) × IsWellFormedLog (seen_of new)
HasSeen reads.Removed old new = IsPrefix (settled_records new.told) (seen_of new) × IsWellFormedLog (seen_of new)
