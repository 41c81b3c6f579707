-- How a record is read from what tells it.
use Rattle.std.specs.Prelude.{◌≡◌, ℕ, ◌==◌, List, length, Result, Ok, Err, if◌then◌else◌}
use Rattle.std.specs.Int.{w32, w64}
use Rattle.pqformat.specs.Fields.{byte_at, number_at}
use Rattle.pqformat.specs.Steps.{◌>>=◌, signed_at}
use Rattle.tables.specs.Reading.{body_at}
use Rattle.tables.specs.declared.fault.BodyFault.{BodyFault}
use Rattle.tables.specs.declared.changes.change.Change.{Change}
use Rattle.tables.specs.declared.changes.change.Change.TheVariants as changes
use Rattle.wal.specs.declared.record.Body.{Body}
use Rattle.wal.specs.declared.record.Body.TheVariants as bodies
use Rattle.segments.specs.Entries.{there}
use Rattle.segments.specs.declared.records.fault.RecordFault.{RecordFault}
use Rattle.segments.specs.declared.records.fault.RecordFault.TheVariants.{Memory, NoRecord}
use Rattle.segments.specs.declared.records.record_body.RecordBody.{RecordBody}
use Rattle.segments.specs.declared.records.record_body.RecordBody.TheVariants as read
use Rattle.segments.specs.declared.records.writing.TheConstants.{ASSIGN_TAG, CHANGE_TAG, ABORT_SUB_TAG, ABORT_TAG, COMMIT_TAG, NOTE_TAG}

-- and nothing follows
abbrev pub alone : {A : Type 0} → A × List ℕ → Result A (Unit {0})
alone p = if length p.1 == 0 then Ok p.0 else Err tt

abbrev pub xid_in : List ℕ → Result ℕ (Unit {0})
xid_in bytes = there (number_at w32 bytes) >>= alone

abbrev pub assign_in : List ℕ → Result Body (Unit {0})
assign_in bytes = there (number_at w32 bytes) >>= λ sub. xid_in sub.1 >>= λ parent. Ok (bodies.Assign sub.0 parent)

abbrev pub told_change : Result (Change × List ℕ) BodyFault → Result Change (Unit {0})
told_change (Ok change) = alone change
told_change (Err fault) = Err tt

abbrev pub change_in : List ℕ → Result Body (Unit {0})
change_in bytes = there (number_at w32 bytes) >>= λ xid. told_change (body_at xid.1) >>= λ change. Ok (bodies.Change xid.0 change)

abbrev pub commit_in : List ℕ → Result Body (Unit {0})
commit_in bytes = there (number_at w32 bytes) >>= λ xid. signed_at tt w64 xid.1 >>= alone >>= λ time. Ok (bodies.Commit xid.0 time)

-- only a message may be a note
abbrev pub note_of : Change → Result Body (Unit {0})
note_of (changes.Message message) = Ok (bodies.Note (changes.Message message))
note_of change = Err tt

abbrev pub note_in : List ℕ → Result Body (Unit {0})
note_in bytes = told_change (body_at bytes) >>= note_of

abbrev pub record_tagged : ℕ → List ℕ → Result Body (Unit {0})
record_tagged tag bytes =
    if tag == ASSIGN_TAG then assign_in bytes
    else if tag == CHANGE_TAG then change_in bytes
    else if tag == ABORT_SUB_TAG then xid_in bytes >>= (λ xid. Ok (bodies.AbortSub xid))
    else if tag == ABORT_TAG then xid_in bytes >>= (λ xid. Ok (bodies.Abort xid))
    else if tag == COMMIT_TAG then commit_in bytes
    else if tag == NOTE_TAG then note_in bytes
    else Err tt

abbrev pub record_in : List ℕ → Result Body (Unit {0})
record_in bytes = there (byte_at bytes) >>= λ tag. record_tagged tag.0 tag.1

-- what a reader's answer says
abbrev pub body_of : RecordBody → Body
body_of (read.Assign sub parent) = bodies.Assign sub parent
body_of (read.Change xid change) = bodies.Change xid change
body_of (read.AbortSub xid) = bodies.AbortSub xid
body_of (read.Abort xid) = bodies.Abort xid
body_of (read.Commit xid time) = bodies.Commit xid time
body_of (read.Note message) = bodies.Note (changes.Message message)

-- A reader answers what is read, or that there is nothing; or memory was refused.
abbrev pub Answers : {A B : Type 0} → (A → B) → Result A RecordFault → Result B (Unit {0}) → Type 0
Answers view (Ok x) read = read ≡ Ok (view x)
Answers view (Err Memory) read = Unit {0}
Answers view (Err NoRecord) read = read ≡ Err tt

abbrev pub Reads : Result RecordBody RecordFault → Result Body (Unit {0}) → Type 0
Reads result read = Answers body_of result read
