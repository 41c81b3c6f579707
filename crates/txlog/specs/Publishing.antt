-- What sessions do to a publisher: each call as a function of its state, and the refusal that a call meets, if any. Want of
-- memory apart, a call is refused exactly where there is such a refusal, and with the first one.
use Rattle.std.specs.Prelude.{◌≡◌, ℕ, ◌+◌, ◌-◌, ◌==◌, ℤ, Bool, ◌||◌, not, List, [], ◌∷◌, ◌++◌, length, take, map, filter, min, slice_index, codes, nat_le, nat_lt, Option, Some, None, Result, Ok, Err, if◌then◌else◌}
use Rattle.std.specs.List.{list_any}
use Rattle.store.specs.declared.store_fault.StoreFault.{StoreFault}
use Rattle.store.specs.declared.store_fault.StoreFault.TheVariants as store_faults
use Rattle.tables.specs.declared.kinds.Value.{Value}
use Rattle.tables.specs.declared.table.Table.{Table}
use Rattle.tables.specs.declared.changes.change.Change.{Change}
use Rattle.tables.specs.declared.changes.change.Change.TheVariants as changes
use Rattle.store.specs.Rows.{Key}
use Rattle.store.specs.History as history
use Rattle.store.specs.History.{count_of}
use Rattle.txlog.specs.declared.limits.TheConstants.{MAX_LIVE, MAX_DEPTH, MAX_READERS, MOST_RECORDS}
use Rattle.wal.specs.declared.record.TheConstants.{FIRST_POSITION, FIRST_XID}
use Rattle.wal.specs.declared.record.Record.{Record}
use Rattle.wal.specs.declared.record.Body.{Body}
use Rattle.wal.specs.declared.record.Body.TheVariants.{Assign, Change as Changed, AbortSub, Abort, Commit, Note}
use Rattle.txlog.specs.declared.answers.fault.SessionFault.{SessionFault}
use Rattle.txlog.specs.declared.answers.fault.SessionFault.TheVariants as faults
use Rattle.txlog.specs.declared.transactions.savepoint.Savepoint.{Savepoint}
use Rattle.wal.specs.Log.{end_of, last_of, size_of}
use Rattle.wal.specs.Records.{record_after}
use Rattle.shared_log.specs.Kept.{given_after}
use Rattle.txlog.specs.Receipts.{Committed}
use Rattle.txlog.specs.Rows.{history_of, rows_of}
use Rattle.txlog.specs.Snapshots.{Snapshots, no_snapshots}

-- THE STATE

-- a live transaction: its xid, and its open savepoints, the outermost first
pub record LiveTransaction : Type 0 where
  pub xid : ℕ
  pub savepoints : List Savepoint

abbrev pub xids : List Savepoint → List ℕ
xids savepoints = map (λ s. s.xid) savepoints

-- the tables, the greatest number of records that the log may have so far, the log, the place up to which its records may be given
-- back, the xid that comes next, the live transactions in the order of their xids, and the snapshots, which only calls on them change
pub record PublisherState : Type 0 where
  pub tables : List Table
  pub capacity : ℕ
  pub log : List Record
  pub given : ℕ
  pub next_xid : ℕ
  pub live : List LiveTransaction
  pub snapshots : Snapshots

abbrev pub with_snapshots : Snapshots → PublisherState → PublisherState
with_snapshots snapshots s = record s { snapshots = snapshots }

abbrev pub new_publisher : List Table → ℕ → PublisherState
new_publisher tables records = record { tables = tables; capacity = records; log = []; given = 0; next_xid = FIRST_XID; live = []; snapshots = no_snapshots }

abbrev pub log_end : PublisherState → ℕ
log_end s = end_of FIRST_POSITION s.log

-- the records that may still be written: a place is kept for the end of each live transaction
abbrev pub room : PublisherState → ℕ
room s = s.capacity - (length s.log + length s.live)

abbrev pub is_live : ℕ → List LiveTransaction → Bool
is_live xid live = list_any (λ o. o.xid == xid) live

abbrev pub savepoints_of : ℕ → List LiveTransaction → List Savepoint
savepoints_of xid [] = []
savepoints_of xid (o ∷ live) = if o.xid == xid then o.savepoints else savepoints_of xid live

-- the innermost open subtransaction, or the transaction
abbrev pub innermost : ℕ → List LiveTransaction → ℕ
innermost xid live = last_of xid (xids (savepoints_of xid live))

-- the live transactions, one of them with other savepoints
abbrev pub with_savepoints : ℕ → List Savepoint → List LiveTransaction → List LiveTransaction
with_savepoints xid savepoints [] = []
with_savepoints xid savepoints (o ∷ live) =
    if o.xid == xid then record { xid = o.xid; savepoints = savepoints } ∷ live else o ∷ with_savepoints xid savepoints live

abbrev pub without : ℕ → List LiveTransaction → List LiveTransaction
without xid live = filter (λ o. not (o.xid == xid)) live

-- CALLS

abbrev pub with_record : Body → PublisherState → PublisherState
with_record body s = record s { log = s.log ++ record_after s.log body ∷ [] }

-- a transaction begins: it takes the next xid, and no record is written
abbrev pub after_begin : PublisherState → PublisherState
after_begin s = record s { next_xid = s.next_xid + 1; live = s.live ++ record { xid = s.next_xid; savepoints = [] } ∷ [] }

-- a change carries the xid of the innermost open subtransaction
abbrev pub after_change : ℕ → Change → PublisherState → PublisherState
after_change xid change s = with_record (Changed (innermost xid s.live) change) s

-- the row with this key is taken for another, or taken away; the change holds the row that was there
abbrev pub with_old : Option (List Value) → (List Value → PublisherState) → PublisherState → PublisherState
with_old None change s = s
with_old (Some old) change s = change old

abbrev pub after_update : ℕ → Key → List Value → PublisherState → PublisherState
after_update xid key row s = with_old (rows_of s.tables s.log key) (λ old. after_change xid (changes.Update key.oid old row) s) s

abbrev pub after_delete : ℕ → Key → PublisherState → PublisherState
after_delete xid key s = with_old (rows_of s.tables s.log key) (λ old. after_change xid (changes.Delete key.oid old) s) s

-- a message, of a transaction where a change would stand, or of none
abbrev pub message_with : List ℕ → List ℕ → Change
message_with prefix content = changes.Message (record { prefix = prefix; content = content })

abbrev pub after_note : List ℕ → List ℕ → PublisherState → PublisherState
after_note prefix content s = with_record (Note (message_with prefix content)) s

-- a new savepoint has the next xid, and marks how many changes of its transaction stand
abbrev pub next_savepoint : ℕ → PublisherState → Savepoint
next_savepoint xid s = record { xid = s.next_xid; mark = count_of xid (history_of s.log) }

-- it goes under the innermost open one
abbrev pub after_savepoint : ℕ → PublisherState → PublisherState
after_savepoint xid s = record (with_record (Assign s.next_xid (innermost xid s.live)) s) {
  next_xid = s.next_xid + 1;
  live = with_savepoints xid (savepoints_of xid s.live ++ next_savepoint xid s ∷ []) s.live;
}

-- the savepoints of this depth and above are closed, and no record is written
abbrev pub after_release : ℕ → ℕ → PublisherState → PublisherState
after_release xid depth s = record s { live = with_savepoints xid (take (depth - 1) (savepoints_of xid s.live)) s.live }

-- the savepoint of this depth is rolled back, and it and those above are closed
abbrev pub after_rollback : ℕ → ℕ → PublisherState → PublisherState
after_rollback xid depth s = after_release xid depth (with_record (AbortSub (slice_index (xids (savepoints_of xid s.live)) (depth - 1))) s)

-- a transaction ends by this record
abbrev pub after_end : ℕ → Body → PublisherState → PublisherState
after_end xid body s = record (with_record body s) { live = without xid s.live }

abbrev pub after_commit : ℕ → ℤ → PublisherState → PublisherState
after_commit xid time s = after_end xid (Commit xid time) s

abbrev pub after_abort : ℕ → PublisherState → PublisherState
after_abort xid s = after_end xid (Abort xid) s

-- The records before a place may be given back, but for those from the oldest of a transaction in progress on. The log may have as many
-- more, up to the limit of places and xids.
abbrev pub after_give_back : ℕ → PublisherState → PublisherState
after_give_back up_to s = record s {
  given = given_after up_to s.log s.given;
  capacity = min MOST_RECORDS (s.capacity + (given_after up_to s.log s.given - s.given));
}

-- what a commit tells: the place of its record in the log, where it starts and ends, and the transaction's xid
abbrev pub receipt_of : ℕ → ℤ → PublisherState → Committed
receipt_of xid time s = record {
  place = length s.log;
  start = log_end s;
  end = log_end s + size_of (Commit xid time);
  xid = xid;
}

-- REFUSALS

-- a call that writes a record is refused last for room
abbrev pub room_refusal : PublisherState → Option SessionFault
room_refusal s = if room s == 0 then Some faults.LogFull else None

-- a publisher has from one to so many readers
abbrev pub new_refusal : ℕ → Option SessionFault
new_refusal readers = if (readers == 0) || nat_lt MAX_READERS readers then Some faults.NoReader else None

abbrev pub begin_refusal : PublisherState → Option SessionFault
begin_refusal s = if nat_le MAX_LIVE (length s.live) then Some faults.TooManyLive else room_refusal s

-- every call on a transaction asks first whether its xid is live
abbrev pub live_refusal : ℕ → PublisherState → Option SessionFault → Option SessionFault
live_refusal xid s other = if is_live xid s.live then other else Some faults.NoTransaction

-- what the tables refuse, as a refusal of the publisher
abbrev pub fault_of : StoreFault → SessionFault
fault_of store_faults.UnknownTable = faults.UnknownTable
fault_of store_faults.RowShape = faults.RowShape
fault_of store_faults.DuplicateKey = faults.DuplicateKey
fault_of store_faults.NoSuchRow = faults.NoSuchRow
fault_of store_faults.KeyHeld = faults.KeyHeld
fault_of store_faults.TooLarge = faults.TooLarge
fault_of store_faults.BadPrefix = faults.BadPrefix
fault_of store_faults.Memory = faults.Memory

-- want of memory comes after want of room
abbrev pub fault_at : ℕ → StoreFault → SessionFault
fault_at room store_faults.Memory = if room == 0 then faults.LogFull else faults.Memory
fault_at room fault = fault_of fault

-- what the tables refuse goes before the room
abbrev pub tables_refusal : Option StoreFault → Option SessionFault → Option SessionFault
tables_refusal None other = other
tables_refusal (Some fault) other = Some (fault_of fault)

abbrev pub change_refusal : ℕ → PublisherState → Option StoreFault → Option SessionFault
change_refusal xid s refusal = live_refusal xid s (tables_refusal refusal (room_refusal s))

abbrev pub insert_refusal : ℕ → ℕ → List Value → PublisherState → Option SessionFault
insert_refusal xid oid row s = change_refusal xid s (history.insert_refusal s.tables (history_of s.log) xid oid row)

abbrev pub update_refusal : ℕ → Key → List Value → PublisherState → Option SessionFault
update_refusal xid key row s = change_refusal xid s (history.update_refusal s.tables (history_of s.log) xid key row)

abbrev pub delete_refusal : ℕ → Key → PublisherState → Option SessionFault
delete_refusal xid key s = change_refusal xid s (history.delete_refusal s.tables (history_of s.log) xid key)

abbrev pub truncate_refusal : ℕ → List ℕ → PublisherState → Option SessionFault
truncate_refusal xid oids s = change_refusal xid s (history.truncate_refusal s.tables (history_of s.log) xid oids)

abbrev pub message_refusal : ℕ → List ℕ → List ℕ → PublisherState → Option SessionFault
message_refusal xid prefix content s = change_refusal xid s (history.message_fault prefix content)

abbrev pub note_refusal : List ℕ → List ℕ → PublisherState → Option SessionFault
note_refusal prefix content s = tables_refusal (history.message_fault prefix content) (room_refusal s)

abbrev pub savepoint_refusal : ℕ → PublisherState → Option SessionFault
savepoint_refusal xid s =
    live_refusal xid s (if nat_le MAX_DEPTH (length (savepoints_of xid s.live)) then Some faults.TooDeep else room_refusal s)

-- there is no savepoint of depth 0
abbrev pub depth_refusal : ℕ → ℕ → PublisherState → Option SessionFault → Option SessionFault
depth_refusal xid depth s other =
    if (depth == 0) || nat_lt (length (savepoints_of xid s.live)) depth then Some faults.NoSavepoint else other

abbrev pub rollback_refusal : ℕ → ℕ → PublisherState → Option SessionFault
rollback_refusal xid depth s = live_refusal xid s (depth_refusal xid depth s (room_refusal s))

abbrev pub release_refusal : ℕ → ℕ → PublisherState → Option SessionFault
release_refusal xid depth s = live_refusal xid s (depth_refusal xid depth s None)

-- a transaction ends whatever the room
abbrev pub end_refusal : ℕ → PublisherState → Option SessionFault
end_refusal xid s = live_refusal xid s None

abbrev pub IsRefusalOrMemory : Option SessionFault → SessionFault → Type 0
IsRefusalOrMemory refusal faults.Memory = refusal ≡ None
IsRefusalOrMemory refusal fault = refusal ≡ Some fault

-- A call answers its refusal; without one it is Ok, or memory was refused.
abbrev pub RefusedOrMemory : {A : Type 0} → Option SessionFault → Result A SessionFault → Type 0
RefusedOrMemory refusal (Ok x) = refusal ≡ None
RefusedOrMemory refusal (Err fault) = IsRefusalOrMemory refusal fault

-- the same of a call that gives its transaction back
abbrev pub RefusedOrMemoryBack : {A T : Type 0} → Option SessionFault → Result A (T × SessionFault) → Type 0
RefusedOrMemoryBack refusal (Ok x) = refusal ≡ None
RefusedOrMemoryBack refusal (Err back) = IsRefusalOrMemory refusal back.1

-- a test of a call: it is Ok exactly where there is no refusal
abbrev pub RefusedExactly : {A : Type 0} → Option SessionFault → Result A SessionFault → Type 0
RefusedExactly refusal (Ok x) = refusal ≡ None
RefusedExactly refusal (Err fault) = refusal ≡ Some fault

-- the text of a fault's code
abbrev pub code_of : SessionFault → List ℕ
code_of faults.UnknownTable = codes "S1"
code_of faults.RowShape = codes "S2"
code_of faults.DuplicateKey = codes "S3"
code_of faults.NoSuchRow = codes "S4"
code_of faults.KeyHeld = codes "S5"
code_of faults.TooLarge = codes "S6"
code_of faults.LogFull = codes "S7"
code_of faults.NoSavepoint = codes "S8"
code_of faults.TooDeep = codes "S9"
code_of faults.TooManyLive = codes "S10"
code_of faults.Memory = codes "S11"
code_of faults.NoReader = codes "S12"
code_of faults.BadPrefix = codes "S13"
code_of faults.NoTransaction = codes "S14"
