-- What is kept between two records, xid by xid, and what each record does to it.
use Rattle.std.specs.Prelude.{◌≡◌, ◌⊎◌, ℕ, ◌==◌, Bool, false, ◌&&◌, ◌||◌, List, [], ◌∷◌, ◌++◌, map, reverse, Option, Some, None, if◌then◌else◌}
use Rattle.std.specs.List.{list_any, flat_map}
use Rattle.std.specs.List.Sorted.{IsNonDecreasingBy, IsStableByKey}
use Rattle.std.specs.Map.{lookup}
use Rattle.std.specs.Ordering.{nat_cmp}
use Rattle.std.specs.Option.{option_map}
use Rattle.reorder.specs.Entries.{entry_in}
use Rattle.reorder.specs.Pool.{PoolState, entries_at, map_with}
use Rattle.reorder.specs.Spots.{SpotState, spots_from}
use Rattle.wal.specs.Log.{Entry, last_of}

-- of an xid: those above it, from its parent to its transaction, and its changes, unless it or one above it is rolled back
pub record StrandState : Type 0 where
  pub above : List ℕ
  pub changes : List Entry

-- the same without its changes
pub record Standing : Type 0 where
  pub above : List ℕ

-- the strands by their xids, the xids of each transaction, and where the changes of each xid lie
pub record StrandsState : Type 0 where
  pub strands : List (ℕ × Standing)
  pub members : List (ℕ × List ℕ)
  pub pool : PoolState

-- with the changes that lie in the pool
abbrev pub changes_at : PoolState → ℕ → List Entry
changes_at pool x = map (entry_in x) (entries_at pool x)

abbrev pub with_changes : PoolState → ℕ → Standing → StrandState
with_changes pool x s = record { above = s.above; changes = changes_at pool x }

abbrev pub strand_at : List (ℕ × Standing) → PoolState → ℕ → Option StrandState
strand_at strands pool x = option_map (with_changes pool x) (lookup (λ k. x == k) strands)

-- the same as functions of an xid
pub record ByXid : Type 0 where
  pub strand : ℕ → Option StrandState
  pub members : ℕ → Option (List ℕ)

-- the strand of an xid, and the xids of a transaction; none where nothing is kept
abbrev pub by_xid : StrandsState → ByXid
by_xid s = record { strand = strand_at s.strands s.pool; members = λ t. lookup (λ k. t == k) s.members }

-- the same at every xid
pub record IsSame (a b : ByXid) : Type 0 where
  pub strand : (x : ℕ) → a.strand x ≡ b.strand x
  pub members : (t : ℕ) → a.members t ≡ b.members t

-- a strand without changes, under these xids
abbrev pub fresh : List ℕ → StrandState
fresh above = record { above = above; changes = [] }

abbrev pub above_in : Option StrandState → List ℕ
above_in None = []
above_in (Some s) = s.above

abbrev pub all_in : Option (List ℕ) → List ℕ
all_in None = []
all_in (Some xs) = xs

-- whether the xid is one of these
abbrev pub is_in : ℕ → List ℕ → Bool
is_in x xs = list_any (λ y. x == y) xs

-- no xid stands twice
abbrev pub AreDistinct : List ℕ → Type 0
AreDistinct [] = Unit {0}
AreDistinct (x ∷ xs) = (is_in x xs ≡ false) × AreDistinct xs

-- WHAT HAPPENS TO THEM

-- the xid becomes a transaction
abbrev pub with_transaction : ℕ → ByXid → ByXid
with_transaction x l = record { strand = map_with x (Some (fresh [])) l.strand; members = map_with x (Some (x ∷ [])) l.members }

abbrev pub above_of : ByXid → ℕ → List ℕ
above_of l x = above_in (l.strand x)

abbrev pub with_member : ℕ → List ℕ → List ℕ
with_member sub xs = xs ++ sub ∷ []

-- a subtransaction comes under its parent, and so under all that are above it, into their transaction
abbrev pub with_subtransaction : ℕ → ℕ → ByXid → ByXid
with_subtransaction sub parent l = record {
  strand = map_with sub (Some (fresh (parent ∷ above_of l parent))) l.strand;
  members = map_with (last_of parent (above_of l parent)) (option_map (with_member sub) (l.members (last_of parent (above_of l parent)))) l.members;
}

abbrev pub with_change : Entry → StrandState → StrandState
with_change e s = record s { changes = s.changes ++ e ∷ [] }

-- a change more of the xid
abbrev pub with_change_of : ℕ → Entry → ByXid → ByXid
with_change_of x e l = record l { strand = map_with x (option_map (with_change e) (l.strand x)) l.strand }

-- those after the xid in a list that is told from its end
abbrev pub behind : ℕ → List ℕ → List ℕ
behind x [] = []
behind x (y ∷ ys) = if y == x then [] else y ∷ behind x ys

-- the xids of the transaction of this one, the last first
abbrev pub back_from_last : ByXid → ℕ → List ℕ
back_from_last l x = reverse (all_in (l.members (last_of x (above_of l x))))

-- it and all under it are rolled back: their changes are given up
abbrev pub strand_after_rollback : ℕ → List ℕ → ℕ → StrandState → StrandState
strand_after_rollback x xs q s = record { above = s.above; changes = if (x == q) || (is_in q (behind x xs) && is_in x s.above) then [] else s.changes }

abbrev pub after_rollback_of : ℕ → ByXid → ByXid
after_rollback_of x l = record l { strand = λ q. option_map (strand_after_rollback x (back_from_last l x) q) (l.strand q) }

-- nothing is left of the transaction's xids
abbrev pub without_transaction : ℕ → ByXid → ByXid
without_transaction t l = record {
  strand = λ x. if is_in x (all_in (l.members t)) then None else l.strand x;
  members = map_with t None l.members;
}

-- WHAT IS KEPT OF THEM

abbrev pub changes_in : Option StrandState → List Entry
changes_in None = []
changes_in (Some s) = s.changes

-- the changes that a transaction keeps, xid after xid
abbrev pub changes_by_xid : ByXid → ℕ → List Entry
changes_by_xid l t = flat_map (λ x. changes_in (l.strand x)) (all_in (l.members t))

-- In the order of their positions these are the changes that a transaction keeps. Those of one xid are in order already.
abbrev pub AreMerged : ByXid → ℕ → List Entry → Type 0
AreMerged l t es =
    (IsNonDecreasingBy (λ (e : Entry). e.position) es × IsStableByKey (λ (e : Entry). e.position) nat_cmp (changes_by_xid l t) es)
    ⊎ ((x : ℕ) × (l.members t ≡ Some (x ∷ [])) × (es ≡ changes_by_xid l t))

-- WHERE IT LIES

abbrev pub above_standing : Option Standing → List ℕ
above_standing None = []
above_standing (Some s) = s.above

-- the xids of the transaction of this one, the last first
abbrev pub back_in : StrandsState → ℕ → List ℕ
back_in s x = reverse (all_in (lookup (λ k. last_of x (above_standing (lookup (λ k. x == k) s.strands)) == k) s.members))

-- the spots of the changes of an xid
abbrev pub spots_in : PoolState → ℕ → Option Standing → List SpotState
spots_in pool x None = []
spots_in pool x (Some s) = spots_from x 0 (entries_at pool x)

abbrev pub kept_spots : PoolState → (ℕ → Option Standing) → ℕ → List SpotState
kept_spots pool strand x = spots_in pool x (strand x)

-- those of a transaction, xid after xid
abbrev pub spots_of : StrandsState → ℕ → List SpotState
spots_of s t = flat_map (kept_spots s.pool (λ x. lookup (λ k. x == k) s.strands)) (all_in (lookup (λ k. t == k) s.members))
