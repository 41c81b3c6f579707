-- What is true of a publisher between its calls.
use Rattle.std.specs.Prelude.{◌≡◌, ℕ, zero, suc, ◌+◌, ◌*◌, ◌^◌, ◌<◌, ◌≤◌, ◌==◌, Bool, true, false, List, [], ◌∷◌, length, if◌then◌else◌}
use Rattle.std.specs.List.{list_any, AllByRecursion}
use Rattle.store.specs.Keeping.{StoreState, Keeps}
use Rattle.tables.specs.declared.table.Table.{Table}
use Rattle.txlog.specs.declared.limits.TheConstants.{MAX_LIVE, MAX_DEPTH, MOST_RECORDS}
use Rattle.wal.specs.declared.record.TheConstants.{FIRST_POSITION, FIRST_XID}
use Rattle.wal.specs.declared.record.Record.{Record}
use Rattle.wal.specs.Log.{Entry, IsWellFormedLog, IsLogInRange, end_of, chain, top_of, is_named, is_assigned, is_undone, has_ended}
use Rattle.txlog.specs.Rows.{standing_changes, history_of}
use Rattle.txlog.specs.Publishing.{LiveTransaction, PublisherState, xids}

-- the log is one, in range, and so short that its positions are far from their limit
pub record IsLog (tables : List Table) (log : List Record) : Type 0 where
  pub good : IsWellFormedLog log
  pub in_range : IsLogInRange tables log
  pub near : end_of FIRST_POSITION log ≤ FIRST_POSITION + 2 ^ 14 * length log

-- each savepoint's chain is the savepoints below it, down to the transaction, whose xids are smaller
abbrev pub IsNested : List Record → List ℕ → List ℕ → Type 0
IsNested log below [] = Unit {0}
IsNested log below (x ∷ above) = (chain log x ≡ x ∷ below) × AllByRecursion (λ y. y < x) below × IsNested log (x ∷ below) above

-- a transaction that has not ended, and its savepoints, none of which is rolled back
pub record IsInProgress (log : List Record) (next_xid xid : ℕ) (savepoints : List ℕ) : Type 0 where
  pub below : AllByRecursion (λ x. x < next_xid) (xid ∷ savepoints)
  pub top : is_assigned log xid ≡ false
  pub running : has_ended log xid ≡ false
  pub subs : AllByRecursion (λ x. is_assigned log x ≡ true) savepoints
  pub undropped : AllByRecursion (λ x. is_undone log x ≡ false) (xid ∷ savepoints)
  pub nested : IsNested log (xid ∷ []) savepoints
  pub deep : length savepoints ≤ MAX_DEPTH

abbrev pub IsRunning : List Record → ℕ → LiveTransaction → Type 0
IsRunning log next_xid o = IsInProgress log next_xid o.xid (xids o.savepoints)

-- the xids rise
abbrev pub IsRising : List LiveTransaction → Type 0
IsRising [] = Unit {0}
IsRising (o ∷ live) = AllByRecursion (λ p. o.xid < p.xid) live × IsRising live

-- Each live transaction has a place in reserve, and each xid a record or such a place.
pub record IsPublisher (s : PublisherState) : Type 0 where
  pub log : IsLog s.tables s.log
  pub limit : s.capacity ≤ MOST_RECORDS
  pub reserve : length s.log + length s.live ≤ s.capacity
  pub xids : s.next_xid ≤ FIRST_XID + (length s.log + length s.live)
  pub few : length s.live ≤ MAX_LIVE
  pub fresh : (x : ℕ) → s.next_xid ≤ x → is_named s.log x ≡ false
  pub rising : IsRising s.live
  pub live : AllByRecursion (IsRunning s.log s.next_xid) s.live

-- MARKS

-- whether a change is the transaction's, and whether it was made under a savepoint
abbrev pub is_own : List Record → ℕ → Entry → Bool
is_own log xid e = top_of log e.xid == xid

abbrev pub is_under : List Record → ℕ → Entry → Bool
is_under log x e = list_any (λ y. x == y) (chain log e.xid)

-- Of a transaction's own changes the first n are not under the savepoint, and all later ones are; of the others' none is.
abbrev pub IsBehind : (Entry → Bool) → (Entry → Bool) → ℕ → List Entry → Type 0
IsBehind own under n [] = n ≡ 0
IsBehind own under zero (e ∷ es) = (under e ≡ own e) × IsBehind own under zero es
IsBehind own under (suc n) (e ∷ es) = (under e ≡ false) × IsBehind own under (if own e then n else suc n) es

-- the mark of each savepoint parts the changes of its transaction that stand
abbrev pub IsMarked : List Record → LiveTransaction → Type 0
IsMarked log o = AllByRecursion (λ s. IsBehind (is_own log o.xid) (is_under log s.xid) s.mark (standing_changes log)) o.savepoints

-- THE PUBLISHER

-- the store keeps the rows of the log, and what its transactions in progress hold
pub record KeepsLog (store : StoreState) (s : PublisherState) : Type 0 where
  pub publisher : IsPublisher s
  pub marked : AllByRecursion (IsMarked s.log) s.live
  pub rows : Keeps store (history_of s.log)
