-- The log record by record: which lists of records are a log, what each transaction of it keeps, and which of them
-- committed. Places.antt says the last two of the whole log, and is read first.
-- Where a definition judges a record by the records before it, those are an argument, so that a longer log is judged
-- record by record as a shorter one was.
use Rattle.std.specs.Prelude.{◌≡◌, ℕ, ◌+◌, ◌*◌, ◌/◌, ◌^◌, ◌<◌, ◌==◌, ℤ, pos, Bool, true, false, ◌&&◌, ◌||◌, not, List, [], ◌∷◌, ◌++◌, reverse, filter, nat_le, FitsSigned, if◌then◌else◌}
use Rattle.std.specs.List.{list_any, flat_map, AllByRecursion}
use Rattle.std.specs.Int.{w64}
use Rattle.tables.specs.declared.table.Table.{Table}
use Rattle.tables.specs.declared.changes.change.Change.{Change}
use Rattle.tables.specs.declared.changes.change.Change.TheVariants as changes
use Rattle.tables.specs.Spelling.{body_length}
use Rattle.tables.specs.Tables.{FitsChange}
use Rattle.wal.specs.declared.record.TheConstants.{FIRST_POSITION}
use Rattle.wal.specs.declared.record.Record.{Record}
use Rattle.wal.specs.declared.record.Body.{Body}
use Rattle.wal.specs.declared.record.Body.TheVariants.{Assign, Change as Changed, AbortSub, Abort, Commit, Note}

-- POSITIONS

-- the bytes of a record's payload: xids have 4, a time has 8
abbrev pub payload_length : Body → ℕ
payload_length (Assign sub parent) = 8
payload_length (Changed xid change) = 4 + body_length change
payload_length (AbortSub xid) = 4
payload_length (Abort xid) = 4
payload_length (Commit xid time) = 12
payload_length (Note change) = 4 + body_length change

-- 16, and the payload rounded up to a multiple of 8
abbrev pub size_of : Body → ℕ
size_of body = 16 + (payload_length body + 7) / 8 * 8

-- the first starts at the position, and each other where the one before it ends
abbrev pub follows : ℕ → List Record → Bool
follows at [] = true
follows at (r ∷ rs) = if r.start == at then follows r.end rs else false

-- where the last record ends, or the position where there is none
abbrev pub end_of : ℕ → List Record → ℕ
end_of at [] = at
end_of at (r ∷ rs) = end_of r.end rs

-- TRANSACTIONS AND SUBTRANSACTIONS

-- a message outside of all transactions
abbrev pub is_note : Body → Bool
is_note (Note change) = true
is_note body = false

-- the xid that a record is about: of an Assign it is the subtransaction's, of a note 0, which is no transaction's
abbrev pub xid_in : Body → ℕ
xid_in (Assign sub parent) = sub
xid_in (Changed xid change) = xid
xid_in (AbortSub xid) = xid
xid_in (Abort xid) = xid
xid_in (Commit xid time) = xid
xid_in (Note change) = 0

-- whether the record names the xid; an Assign names the parent too, a note none
abbrev pub names : ℕ → Body → Bool
names x (Assign sub parent) = (x == sub) || (x == parent)
names x (Changed xid change) = x == xid
names x (AbortSub xid) = x == xid
names x (Abort xid) = x == xid
names x (Commit xid time) = x == xid
names x (Note change) = false

abbrev pub is_named : List Record → ℕ → Bool
is_named log x = list_any (λ r. names x r.body) log

-- whether the record makes the xid a subtransaction
abbrev pub assigns : ℕ → Body → Bool
assigns x (Assign sub parent) = sub == x
assigns x body = false

abbrev pub is_assigned : List Record → ℕ → Bool
is_assigned log x = list_any (λ r. assigns x r.body) log

-- The chain of an xid leads from it up to its transaction (`IsChain` in Places.antt). It is found from the newest record
-- back: in a well-formed log the Assign of a parent stands before that of its child, so going back from the Assign of an
-- xid meets the Assigns of all that are above it.
abbrev pub chain_step : (ℕ → List ℕ) → Body → ℕ → List ℕ
chain_step above (Assign sub parent) x = if sub == x then x ∷ above parent else above x
chain_step above body x = above x

abbrev pub chain_back : List Record → ℕ → List ℕ
chain_back [] x = x ∷ []
chain_back (r ∷ older) x = chain_step (chain_back older) r.body x

abbrev pub chain : List Record → ℕ → List ℕ
chain log x = chain_back (reverse log) x

abbrev pub last_of : ℕ → List ℕ → ℕ
last_of x [] = x
last_of x (y ∷ ys) = last_of y ys

-- the transaction that the xid belongs to: the last of its chain
abbrev pub top_of : List Record → ℕ → ℕ
top_of log x = last_of x (chain log x)

abbrev pub undoes : ℕ → Body → Bool
undoes x (AbortSub xid) = xid == x
undoes x body = false

-- an AbortSub names the xid
abbrev pub is_undone : List Record → ℕ → Bool
is_undone log x = list_any (λ r. undoes x r.body) log

-- an AbortSub names a member of the xid's chain
abbrev pub is_dropped : List Record → ℕ → Bool
is_dropped log x = list_any (is_undone log) (chain log x)

abbrev pub ends : ℕ → Body → Bool
ends x (Abort xid) = xid == x
ends x (Commit xid time) = xid == x
ends x body = false

-- a Commit or an Abort names the xid
abbrev pub has_ended : List Record → ℕ → Bool
has_ended log x = list_any (λ r. ends x r.body) log

-- CHANGES

-- a change, the position at which its record starts, and the xid that made it
pub record Entry : Type 0 where
  pub position : ℕ
  pub xid : ℕ
  pub change : Change

abbrev pub entry_at : ℕ → Body → List Entry
entry_at start (Changed xid change) = record { position = start; xid = xid; change = change } ∷ []
entry_at start body = []

-- the changes of a log, in order
abbrev pub entries : List Record → List Entry
entries log = flat_map (λ r. entry_at r.start r.body) log

-- whether a change belongs to this transaction and is not dropped
abbrev pub is_kept : List Record → ℕ → Entry → Bool
is_kept log top e = (top_of log e.xid == top) && not (is_dropped log e.xid)

-- The changes that a transaction keeps, in order, by the records so far. Of a transaction that commits they are judged by
-- the records before its Commit.
abbrev pub kept_changes : List Record → ℕ → List Entry
kept_changes log top = filter (is_kept log top) (entries log)

-- COMMITTED TRANSACTIONS

-- a transaction: where its Commit record starts and ends, its time and xid, and the changes that it keeps; or a note, a message
-- outside of all transactions, which has neither time nor xid
pub record Transaction : Type 0 where
  pub is_note : Bool
  pub start : ℕ
  pub end : ℕ
  pub time : ℤ
  pub xid : ℕ
  pub changes : List Entry

-- a note: its record's message, at its own start
abbrev pub note_as_transaction : (start end : ℕ) → Change → Transaction
note_as_transaction start end change =
    record { is_note = true; start = start; end = end; time = pos 0; xid = 0; changes = record { position = start; xid = 0; change = change } ∷ [] }

-- what a record commits, if it is a Commit, or a note, that starts at the start position s or later
abbrev pub committed_at : ℕ → List Record → ℕ → ℕ → Body → List Transaction
committed_at s before start end (Commit xid time) =
    if nat_le s start then record { is_note = false; start = start; end = end; time = time; xid = xid; changes = kept_changes before xid } ∷ [] else []
committed_at s before start end (Note change) = if nat_le s start then note_as_transaction start end change ∷ [] else []
committed_at s before start end body = []

abbrev pub committed_by : ℕ → List Record → Record → List Transaction
committed_by s before r = committed_at s before r.start r.end r.body

-- the transactions that the records commit, and the notes, in order, given those before them
abbrev pub committed_from : ℕ → List Record → List Record → List Transaction
committed_from s before [] = []
committed_from s before (r ∷ rs) = committed_by s before r ++ committed_from s (before ++ r ∷ []) rs

-- the transactions of a log that commit at the start position or later, and the notes from there on
abbrev pub committed_transactions : List Record → ℕ → List Transaction
committed_transactions log s = committed_from s [] log

-- WELL-FORMED LOGS

-- an xid may still be named: its transaction has not ended, and no member of its chain has an AbortSub
pub record IsOpen (before : List Record) (x : ℕ) : Type 0 where
  pub running : has_ended before (top_of before x) ≡ false
  pub undropped : is_dropped before x ≡ false

-- What may come next after these records. A savepoint begins with an Assign: its xid stands in no record yet, and it goes
-- under another one, which is open. Changes are made under an open xid. Only savepoints are rolled back by an AbortSub,
-- only whole transactions end, by Abort or Commit, and all of them were open until then. A note may stand anywhere.
abbrev pub IsNext : List Record → Body → Type 0
IsNext before (Assign sub parent) = (is_named before sub ≡ false) × ((sub == parent) ≡ false) × IsOpen before parent
IsNext before (Changed xid change) = IsOpen before xid
IsNext before (AbortSub xid) = (is_assigned before xid ≡ true) × IsOpen before xid
IsNext before (Abort xid) = (is_assigned before xid ≡ false) × IsOpen before xid
IsNext before (Commit xid time) = (is_assigned before xid ≡ false) × IsOpen before xid
IsNext before (Note change) = Unit {0}

-- each record may follow those before it
abbrev pub WellFormedAfter : List Record → List Record → Type 0
WellFormedAfter before [] = Unit {0}
WellFormedAfter before (r ∷ rs) = IsNext before r.body × WellFormedAfter (before ++ r ∷ []) rs

abbrev pub IsSized : Record → Type 0
IsSized r = r.end ≡ r.start + size_of r.body

pub record IsWellFormedLog (log : List Record) : Type 0 where
  pub follows : follows FIRST_POSITION log ≡ true
  pub sizes : AllByRecursion IsSized log
  pub order : WellFormedAfter [] log

-- RANGES

abbrev pub IsMessage : Change → Type 0
IsMessage (changes.Message message) = Unit {0}
IsMessage change = ⊥

-- xids are of 32 bits, times are signed and of 64 bits, changes fit the tables, and a note is a message
abbrev pub FitsBody : List Table → Body → Type 0
FitsBody tables (Assign sub parent) = (sub < 2 ^ 32) × (parent < 2 ^ 32)
FitsBody tables (Changed xid change) = (xid < 2 ^ 32) × FitsChange tables change
FitsBody tables (AbortSub xid) = xid < 2 ^ 32
FitsBody tables (Abort xid) = xid < 2 ^ 32
FitsBody tables (Commit xid time) = (xid < 2 ^ 32) × FitsSigned w64 time
FitsBody tables (Note change) = IsMessage change × FitsChange tables change

-- positions are of 64 bits
pub record FitsRecord (tables : List Table) (r : Record) : Type 0 where
  pub start : r.start < 2 ^ 64
  pub end : r.end < 2 ^ 64
  pub body : FitsBody tables r.body

abbrev pub IsLogInRange : List Table → List Record → Type 0
IsLogInRange tables log = AllByRecursion (FitsRecord tables) log
