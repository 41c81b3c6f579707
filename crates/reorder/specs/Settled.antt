-- A regrouping of which some transactions are still ready, as if what is ready had been given back already.
use Rattle.std.specs.Prelude.{◌≡◌, ℕ, ◌+◌, List, [], ◌∷◌, ◌++◌, Option, Some, None, sum_by}
use Rattle.std.specs.List.{AllByRecursion}
use Rattle.chgarena.specs.Fill.{fill, sizes}
use Rattle.chgarena.specs.Strands.{Strands as Arena, arena_without, entries_of}
use Rattle.wal.specs.declared.record.Record.{Record}
use Rattle.reorder.specs.Pool.{AreApart, PoolState, map_with, strand_of}
use Rattle.reorder.specs.Ready.{IsReadyIn, ReadyState, ready_entries}
use Rattle.reorder.specs.Strands.{StrandsState}
use Rattle.reorder.specs.Chunks.{LeavesNoRoom, transaction_chunks}
use Rattle.reorder.specs.Taking.{ReorderState}
use Rattle.reorder.specs.declared.ready.RecordOutcome.{RecordOutcome}
use Rattle.reorder.specs.declared.ready.RecordOutcome.TheVariants as steps

-- the first chunk of a strand that has one
abbrev pub head_in : Option (Option ℕ) → List ℕ
head_in None = []
head_in (Some None) = []
head_in (Some (Some head)) = head ∷ []

-- the first chunks of the strands that these xids have, each xid's once
abbrev pub heads_of : (ℕ → Option (Option ℕ)) → List ℕ → List ℕ
heads_of strand [] = []
heads_of strand (x ∷ xs) = head_in (strand x) ++ heads_of (map_with x None strand) xs

-- those of what is ready
abbrev pub ready_heads : ReadyState → List ℕ
ready_heads ready = heads_of (strand_of ready.strands) ready.xids

-- the arena without the strands that begin there
abbrev pub without_all : Arena → List ℕ → Arena
without_all arena [] = arena
without_all arena (head ∷ heads) = without_all (arena_without arena (Some head)) heads

abbrev pub pool_without : PoolState → ReadyState → PoolState
pool_without pool ready = record pool { arena = without_all pool.arena (ready_heads ready) }

abbrev pub strands_without : StrandsState → ReadyState → StrandsState
strands_without s ready = record s { pool = pool_without s.pool ready }

-- what was ready is given back: its strands are gone from the arena, and all else stays
abbrev pub after_giving_back : ReorderState → ReadyState → ReorderState
after_giving_back s ready = record s { strands = strands_without s.strands ready }

-- all of these are given back
abbrev pub after_giving_all_back : ReorderState → List ReadyState → ReorderState
after_giving_all_back s [] = s
after_giving_all_back s (ready ∷ later) = after_giving_all_back (after_giving_back s ready) later

-- each lies in the arena, apart from what the regrouping keeps, and no two have a strand in common
abbrev pub AreLentIn : ReorderState → List ReadyState → Type 0
AreLentIn s [] = Unit {0}
AreLentIn s (ready ∷ later) = IsReadyIn s.strands.pool ready × AllByRecursion (λ (other : ReadyState). AreApart ready.strands other.strands) later × AreLentIn s later

-- THE CHUNKS OF WHAT IS READY

-- those that the entries of its strands fill
abbrev pub ready_chunks : Arena → ReadyState → ℕ
ready_chunks arena ready = sum_by (λ head. fill (sizes (entries_of arena (Some head)))) (ready_heads ready)

-- those of all that is ready
abbrev pub lent_chunks : ReorderState → List ReadyState → ℕ
lent_chunks s ws = sum_by (λ ready. ready_chunks s.strands.pool.arena ready) ws

-- what a record makes ready takes the chunks that its changes fill
abbrev pub FillsReady : ReorderState → RecordOutcome → Type 0
FillsReady s steps.Quiet = Unit {0}
FillsReady s (steps.Ready ready) = ready_chunks s.strands.pool.arena ready ≡ transaction_chunks (ready_entries s.strands.pool ready)

-- By these records all of so many chunks are taken but for those of what is ready, and the last one of the change's xid has too little
-- left for it.
pub record LeavesNoRoomBeside (lent count : ℕ) (rs : List Record) (r : Record) : Type 0 where
  pub left : ℕ
  pub split : left + lent ≡ count
  pub full : LeavesNoRoom left rs r
