-- Snapshots that are open over a publisher's rows: what each call does to them.
use Rattle.std.specs.Prelude.{◌≡◌, ℕ, ◌+◌, ◌-◌, ◌≤◌, ◌==◌, Bool, not, List, [], ◌∷◌, ◌++◌, length, filter, Option, Some, None, IsSome, if◌then◌else◌}
use Rattle.tables.specs.declared.kinds.Value.{Value}
use Rattle.tables.specs.declared.table.Table.{Table}
use Rattle.store.specs.History.{Made}
use Rattle.store.specs.Snapshots.{AreCommitted, Gives, SnapshotState, Standing, standing_within}
use Rattle.txlog.specs.declared.snapshots.OpenSnapshot.{OpenSnapshot}
use Rattle.txlog.specs.declared.answers.snapshot_fault.SnapshotFault.{SnapshotFault}
use Rattle.txlog.specs.declared.answers.snapshot_fault.SnapshotFault.TheVariants as faults

-- how many have been opened so far, and those that are open, each under its number
pub record Snapshots : Type 0 where
  pub count : ℕ
  pub opened : List OpenSnapshot

abbrev pub no_snapshots : Snapshots
no_snapshots = record { count = 0; opened = [] }

abbrev pub snapshot_of : ℕ → List OpenSnapshot → Option SnapshotState
snapshot_of id [] = None
snapshot_of id (o ∷ opened) = if o.id == id then Some o.snapshot else snapshot_of id opened

abbrev pub with_snapshot : ℕ → SnapshotState → List OpenSnapshot → List OpenSnapshot
with_snapshot id one [] = []
with_snapshot id one (o ∷ opened) = if o.id == id then record { id = o.id; snapshot = one } ∷ opened else o ∷ with_snapshot id one opened

-- one more, under a number that no other one had
abbrev pub with_opened : SnapshotState → Snapshots → Snapshots
with_opened one s = record { count = s.count + 1; opened = s.opened ++ record { id = s.count; snapshot = one } ∷ [] }

abbrev pub without_snapshot : ℕ → Snapshots → Snapshots
without_snapshot id s = record s { opened = filter (λ o. not (o.id == id)) s.opened }

-- a snapshot is opened: its rows are the committed ones
pub record Opens (tables : List Table) (history : List Made) (id : ℕ) (old new : Snapshots) : Type 0 where
  pub rows : List Standing
  pub committed : AreCommitted tables history rows
  pub number : id ≡ old.count
  pub made : new ≡ with_opened (record { rows = rows; left = []; ahead = 0 }) old

-- a scan of one table begins: all rows of the table are left
pub record Scans (id oid : ℕ) (old new : Snapshots) : Type 0 where
  pub one : SnapshotState
  pub ahead : ℕ
  pub there : snapshot_of id old.opened ≡ Some one
  pub made : new ≡ record old { opened = with_snapshot id (record { rows = one.rows; left = standing_within oid one.rows; ahead = ahead }) old.opened }

-- A scan goes on by this many places: it gives the first of the rows that were left. At its end none is left.
pub record Reads (id most : ℕ) (rows : List (List Value)) (is_last : Bool) (old new : Snapshots) : Type 0 where
  pub one : SnapshotState
  pub rest : SnapshotState
  pub there : snapshot_of id old.opened ≡ Some one
  pub gives : Gives one.left rows rest.left
  pub few : length rows ≤ most
  pub same : rest.rows ≡ one.rows
  pub ahead : rest.ahead ≡ one.ahead - most
  pub last : is_last ≡ (rest.ahead == 0)
  pub end : rest.ahead ≡ 0 → rest.left ≡ []
  pub made : new ≡ record old { opened = with_snapshot id rest old.opened }

-- a call on a snapshot is refused where it isn't open, and else for want of memory
abbrev pub IsRefusedBy : Option SnapshotState → SnapshotFault → Type 0
IsRefusedBy one faults.NotOpen = one ≡ None
IsRefusedBy one faults.Memory = IsSome one
