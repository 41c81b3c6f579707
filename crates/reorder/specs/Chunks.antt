-- How many chunks of its arena a regrouping has taken, by the records alone.
use Rattle.std.specs.Prelude.{◌≡◌, ◌⊎◌, ℕ, ◌+◌, ◌<◌, ◌==◌, Bool, false, ◌&&◌, not, List, [], ◌∷◌, filter, get_or, length, map, nat_le, Option, Some, None, if◌then◌else◌, sum_by}
use Rattle.std.specs.Map.{lookup}
use Rattle.chgarena.specs.Fill.{fill, filled}
use Rattle.chgarena.specs.Strands.{fills, has_room}
use Rattle.tables.specs.declared.changes.change.Change.{Change}
use Rattle.tables.specs.Spelling.{body_length}
use Rattle.wal.specs.declared.record.Record.{Record}
use Rattle.wal.specs.declared.record.Body.TheVariants.{Change as Changed}
use Rattle.wal.specs.Log.{Entry, entries, has_ended, is_dropped, top_of}
use Rattle.reorder.specs.Pool.{HoldEntries, IsPool, PoolState, entries_at, strand_of}
use Rattle.reorder.specs.Ready.{ReadyState}
use Rattle.reorder.specs.Strands.{StrandsState, is_in}
use Rattle.reorder.specs.Bookkeeping.{changes_of}
use Rattle.reorder.specs.declared.ready.RecordOutcome.{RecordOutcome}
use Rattle.reorder.specs.declared.ready.RecordOutcome.TheVariants as steps

-- THE CHUNKS THAT ARE DUE

-- an entry is a position of 8 bytes and a body
abbrev pub entry_length : Entry → ℕ
entry_length e = 8 + body_length e.change

abbrev pub chunks_for : List Entry → ℕ
chunks_for changes = fill (map entry_length changes)

-- the xid isn't dropped, and its transaction is in progress
abbrev pub is_live : List Record → ℕ → Bool
is_live rs x = not (is_dropped rs x) && not (has_ended rs (top_of rs x))

-- the xids of changes, each once
abbrev pub xids_of : List Entry → List ℕ
xids_of [] = []
xids_of (e ∷ es) = if is_in e.xid (xids_of es) then xids_of es else e.xid ∷ xids_of es

-- the chunks of all live xids, of each those that its changes fill
abbrev pub live_chunks : List Record → ℕ
live_chunks rs = sum_by (λ x. if is_live rs x then chunks_for (changes_of rs x) else 0) (xids_of (entries rs))

-- the chunks that a transaction's changes fill, xid by xid
abbrev pub transaction_chunks : List Entry → ℕ
transaction_chunks changes = sum_by (λ x. chunks_for (filter (λ e. e.xid == x) changes)) (xids_of changes)

-- THOSE THAT ARE TAKEN

pub record IsOwned (p : PoolState) (head : ℕ) : Type 0 where
  pub xid : ℕ
  pub is : strand_of p.strands xid ≡ Some (Some head)

-- the strand is one of what is ready
abbrev pub IsHeldBy : List ReadyState → ℕ → Type 0
IsHeldBy [] head = ⊥
IsHeldBy (ready ∷ held) head = ((x : ℕ) × (strand_of ready.strands x ≡ Some (Some head))) ⊎ IsHeldBy held head

-- strands of which no places are known
abbrev pub strands_alone : List (ℕ × Option ℕ) → ReadyState
strands_alone strands = record { xids = []; strands = strands; places = [] }

-- each strand of the arena is an xid's, or one of what is held
abbrev pub IsWhole : List ReadyState → PoolState → Type 0
IsWhole held p = (head : ℕ) → head < length p.arena → (entries : List (List ℕ)) → get_or p.arena head None ≡ Some entries → IsOwned p head ⊎ IsHeldBy held head

-- the arena has as many chunks, and if each of its strands was an xid's or held, each still is
pub record StaysWhole (old new : PoolState) : Type 0 where
  pub chunks : length new.arena ≡ length old.arena
  pub whole : (held : List ReadyState) → IsWhole held old → IsWhole held new

-- Each strand of the arena, which has this count of chunks, is an xid's or one of what is held, and only xids that are in progress have
-- entries.
pub record IsTidy (count : ℕ) (held : List ReadyState) (s : StrandsState) : Type 0 where
  pub chunks : length s.pool.arena ≡ count
  pub owned : IsWhole held s.pool
  pub only : (x : ℕ) → lookup (λ k. x == k) s.strands ≡ None → entries_at s.pool x ≡ []

-- it was tidy before, so it is now, of as many chunks
abbrev pub StaysTidy : StrandsState → StrandsState → Type 0
StaysTidy old new = (count : ℕ) (held : List ReadyState) → IsTidy count held old → IsTidy count held new

-- the pool has no room for an entry of this size of the xid: no chunk is free, and its last one has too little left
pub record HasNoRoom (p : PoolState) (xid size : ℕ) : Type 0 where
  pub pool : IsPool p.arena p.strands
  pub hold : HoldEntries p.arena p.strands
  pub room : has_room (entries_at p xid) size ≡ false
  pub fills : fills p.arena ≡ length p.arena

-- By these records all of so many chunks are taken, and the last one of the change's xid has too little left for it.
pub record LeavesNoRoom (count : ℕ) (rs : List Record) (r : Record) : Type 0 where
  pub xid : ℕ
  pub change : Change
  pub is : r.body ≡ Changed xid change
  pub all : live_chunks rs ≡ count
  pub room : nat_le ((filled (map entry_length (changes_of rs xid))).1 + ((8 + body_length change) + 4)) 16384 ≡ false

-- what is held, with what is ready
abbrev pub held_with : List ReadyState → RecordOutcome → List ReadyState
held_with held steps.Quiet = held
held_with held (steps.Ready ready) = ready ∷ held
