-- A walsender between its calls: what was written of its stream, what is held of it, and which records it has read.
use Rattle.std.specs.Prelude.{◌≡◌, ◌≤◌, ℕ, ℤ, false, List, ◌++◌, length, take, drop, Option, Result, Ok, Err}
use mathlib.Core.List.{IsPrefix}
use Rattle.std.specs.Io.KnownBytes.{Appends}
use Rattle.wal.specs.declared.record.TheConstants.{FIRST_POSITION}
use Rattle.wal.specs.declared.record.Record.{Record}
use Rattle.wal.specs.Log.{IsWellFormedLog, end_of}
use Rattle.wal.specs.Restart.{restart_place}
use Rattle.publication.specs.Selection.{relation}
use Rattle.pgoutput.specs.Stream.{IsStream}
use Rattle.shared_log.specs.Readers.{seen_of}
use Rattle.walsender.specs.declared.fault.SendFault.{SendFault}
use Rattle.walsender.specs.Published.{published_transactions}
use Rattle.walsender.specs.Sending.{SenderState, HasRead, ReadAll}
use Rattle.walsender.specs.Turning.{IsRefused, ReadAndGave}
use Rattle.walsender.specs.declared.walsender.Walsender.{Walsender}

-- So many records of a log were read; what was written since the start, followed by what is held, is a stream encoding of
-- exactly what they publish from the start position on, with safe keepalives.
pub record IsStreaming (log : List Record) (count : ℕ) (written : List ℕ) (s : SenderState) : Type 0 where
  pub within : count ≤ length log
  pub at : s.position ≡ end_of FIRST_POSITION (take count log)
  pub stream : IsStream (relation s.selection) (written ++ s.held) (published_transactions s.selection (take count log) s.start) s.position

-- Records are read from this place on: the restart place of the log as it stood when the stream began.
pub record ReadsFrom (log : List Record) (start from : ℕ) : Type 0 where
  pub known : List Record
  pub begins : IsPrefix known log
  pub place : from ≡ restart_place start known

-- a stream that starts at a position begins there, and this is the position of that place
pub record BeginsAt (log : List Record) (start first from : ℕ) : Type 0 where
  pub reads_from : ReadsFrom log start from
  pub good : IsWellFormedLog log
  pub position : first ≡ end_of FIRST_POSITION (take from log)

-- Unless it has failed, its reader stands after those records, and it is as those that it read leave a sender.
pub record IsServing (log : List Record) (place : ℕ) (written : List ℕ) (s : SenderState) : Type 0 where
  pub from : ℕ
  pub reads_from : ReadsFrom log s.start from
  pub count : ℕ
  pub since : from ≤ count
  pub streaming : IsStreaming log count written s
  pub running : s.failed ≡ false → (count ≡ place) × HasRead s (drop from (take place log))

abbrev pub Serves : {L : Type 0} → List Record → List ℕ → Walsender L → Type 0
Serves log written w = IsServing log w.reader.place written w.sender

-- ---- What calls do to it.

-- it gave nothing, and read nothing
abbrev pub StaysOn : {L : Type 0} → Walsender L → Walsender L → Type 0
StaysOn old new = (log : List Record) (written : List ℕ) → Serves log written old → Serves log written new

-- it gave these bytes, and read nothing
abbrev pub Gives : {L : Type 0} → List ℕ → Walsender L → Walsender L → Type 0
Gives given old new = (log : List Record) (written : List ℕ) → Serves log written old → Serves log (written ++ given) new

-- it gave these bytes, and read on in what its reader sees of the log
abbrev pub GoesOn : {L : Type 0} → List ℕ → Walsender L → Walsender L → Type 0
GoesOn given old new = (written : List ℕ) → Serves (seen_of old.reader) written old → Serves (seen_of new.reader) (written ++ given) new

-- a writer took these bytes of it before all others
abbrev pub WritesFirst : {L : Type 0} → List ℕ → Walsender L → Option (List ℕ) → Option (List ℕ) → Type 0
WritesFirst bytes old before after = (written : List ℕ) → Serves (seen_of old.reader) written old → (more : List ℕ) × Appends before after (bytes ++ more)

-- it read these records, and a writer took what it gave away then
abbrev pub ReadsAndWrites : ℤ → SenderState → SenderState → List Record → Option (List ℕ) → Option (List ℕ) → Type 0
ReadsAndWrites clock old new records before after = (given : List ℕ) × ReadAndGave clock old new records given × Appends before after given

-- the records from a place on, so many at most
abbrev pub next_records : ℕ → ℕ → List Record → List Record
next_records max place log = take max (drop place log)

-- it read these records, of whichever log they are the next
abbrev pub ReadsOn : {L : Type 0} → List Record → Walsender L → Walsender L → Type 0
ReadsOn records old new =
    (log : List Record) (written : List ℕ) (max : ℕ) → IsWellFormedLog log → records ≡ next_records max old.reader.place log → Serves log written old → Serves log written new

-- what a sender made of the records that it was fed
abbrev pub Reads : ℤ → SenderState → SenderState → List Record → Result (Unit {0}) SendFault → Type 0
Reads clock old new records (Ok done) = (old.failed ≡ false) × ReadAll clock old new records × (new.failed ≡ false)
Reads clock old new records (Err fault) = IsRefused clock old new records fault
