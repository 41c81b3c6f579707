-- What a log says, told of the whole of it. Read this first. A place is an index into the log, from 0.
-- Log.antt says the same record by record, each judged by those before it, as the code reads them. Of a well-formed log
-- both say the same: that is the law `a_log_has_one_reading` of src/reading.rt.
use Rattle.std.specs.Prelude.{◌≡◌, ℕ, ◌+◌, ◌==◌, Bool, true, false, ◌&&◌, not, List, [], ◌∷◌, ◌++◌, filter, take, nat_le, if◌then◌else◌}
use Rattle.std.specs.List.{list_any, AllByRecursion}
use Rattle.wal.specs.declared.record.Record.{Record}
use Rattle.wal.specs.declared.record.Body.{Body}
use Rattle.wal.specs.declared.record.Body.TheVariants.{Assign, Commit, Note}
use Rattle.wal.specs.Log.{Entry, Transaction, note_as_transaction, entries, is_note, xid_in, is_assigned, is_undone, chain, top_of}

-- CHAINS

-- whether a record makes x a subtransaction of y
abbrev pub puts_under : ℕ → ℕ → Body → Bool
puts_under x y (Assign sub parent) = (sub == x) && (parent == y)
puts_under x y body = false

abbrev pub is_parent : List Record → ℕ → ℕ → Bool
is_parent log x y = list_any (λ r. puts_under x y r.body) log

-- The way up from x: x, its parent, the parent of that one, up to an xid that has none. By the law there is one way up from
-- each xid, `chain log x`.
abbrev pub IsChain : List Record → ℕ → List ℕ → Type 0
IsChain log x [] = ⊥
IsChain log x (y ∷ []) = (y ≡ x) × (is_assigned log x ≡ false)
IsChain log x (y ∷ z ∷ above) = (y ≡ x) × (is_parent log x z ≡ true) × IsChain log z (z ∷ above)

-- CHANGES

-- whether x, or what it is under, was rolled back to a savepoint before place n
abbrev pub is_dropped_at : List Record → ℕ → ℕ → Bool
is_dropped_at log n x = list_any (is_undone (take n log)) (chain log x)

-- what a transaction has changed up to place n and not rolled back there
abbrev pub kept_changes_at : List Record → ℕ → ℕ → List Entry
kept_changes_at log top n = filter (λ e. (top_of log e.xid == top) && not (is_dropped_at log n e.xid)) (entries (take n log))

-- COMMITTED TRANSACTIONS

-- what the record at place n commits, if it is a Commit that starts at s or later
abbrev pub placed_at : ℕ → List Record → ℕ → ℕ → ℕ → Body → List Transaction
placed_at s log n start end (Commit xid time) =
    if nat_le s start then record { is_note = false; start = start; end = end; time = time; xid = xid; changes = kept_changes_at log xid n } ∷ [] else []
placed_at s log n start end (Note change) = if nat_le s start then note_as_transaction start end change ∷ [] else []
placed_at s log n start end body = []

-- what the records from place n on commit
abbrev pub placed_from : ℕ → List Record → ℕ → List Record → List Transaction
placed_from s log n [] = []
placed_from s log n (r ∷ rs) = placed_at s log n r.start r.end r.body ++ placed_from s log (n + 1) rs

-- the transactions of the log that commit at s or later, and the notes from there on, in the order of their records
abbrev pub committed_by_places : List Record → ℕ → List Transaction
committed_by_places log s = placed_from s log 0 log

-- SECTIONS

-- whether the record commits the transaction, at s or later
abbrev pub commits_at : ℕ → ℕ → ℕ → Body → Bool
commits_at s top start (Commit xid time) = (xid == top) && nat_le s start
commits_at s top start body = false

-- whether the transaction commits at s or later
abbrev pub commits_from : List Record → ℕ → ℕ → Bool
commits_from log s top = list_any (λ r. commits_at s top r.start r.body) log

-- Whether a stream that starts at s needs the record: a note that starts at s or later, or a record of a transaction that commits
-- there or later. A record is of the transaction that its xid belongs to in the whole log.
abbrev pub is_needed : List Record → ℕ → Record → Bool
is_needed log s r = if is_note r.body then nat_le s r.start else commits_from log s (top_of log (xid_in r.body))

-- none of these records of the log is needed
abbrev pub SkipsNone : List Record → ℕ → List Record → Type 0
SkipsNone log s skipped = AllByRecursion (λ r. is_needed log s r ≡ false) skipped
