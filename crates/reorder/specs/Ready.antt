-- What is ready: where each of its changes lies, in their order.
use Rattle.std.specs.Prelude.{◌≡◌, ℕ, ◌<◌, ◌==◌, true, List, [], get_or, length, map, slice_get, Option, Some, IsSome}
use Rattle.std.specs.List.{All, list_any}
use Rattle.tables.specs.Reading.{SpellsBody}
use Rattle.wal.specs.Log.{Entry}
use Rattle.reorder.specs.Entries.{entry_in}
use Rattle.reorder.specs.Pool.{IsLent, PoolState, entries_at, strand_of}

-- where a change lies: its xid, and its place among the entries of that xid
pub record PlaceState : Type 0 where
  pub xid : ℕ
  pub place : ℕ

-- the xids whose changes they are, the strand of each that has one, and the places of the changes
pub record ReadyState : Type 0 where
  pub xids : List ℕ
  pub strands : List (ℕ × Option ℕ)
  pub places : List PlaceState

abbrev pub bytes_at : PoolState → PlaceState → List ℕ
bytes_at pool at = get_or (entries_at pool at.xid) at.place []

-- the change that lies there
abbrev pub entry_at : PoolState → PlaceState → Entry
entry_at pool at = entry_in at.xid (bytes_at pool at)

-- the arena, with the strands of what is ready in the place of the pool's
abbrev pub lent_from : PoolState → ReadyState → PoolState
lent_from pool ready = record { arena = pool.arena; strands = ready.strands }

-- the changes that are ready
abbrev pub ready_entries : PoolState → ReadyState → List Entry
ready_entries pool ready = map (entry_at (lent_from pool ready)) ready.places

-- an entry lies there
abbrev pub IsPlace : PoolState → PlaceState → Type 0
IsPlace pool at = at.place < length (entries_at pool at.xid)

-- the arena has what is ready, apart from what the pool has
pub record IsReadyIn (pool : PoolState) (ready : ReadyState) : Type 0 where
  pub lent : IsLent pool ready.strands
  pub places : All (IsPlace (lent_from pool ready)) ready.places
  pub known : (x : ℕ) → IsSome (strand_of ready.strands x) → list_any (λ y. x == y) ready.xids ≡ true

-- the k-th of the entries has this position, and its change this body
abbrev pub IsEntryAt : List Entry → ℕ → ℕ → List ℕ → Type 0
IsEntryAt entries k position body = (e : Entry) → slice_get entries k ≡ Some e → (position ≡ e.position) × SpellsBody body e.change
