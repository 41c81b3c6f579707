-- What each xid has in an arena: by a strand of the arena for each of them.
use Rattle.std.specs.Prelude.{◌≡◌, ℕ, ◌==◌, List, [], Option, Some, None, if◌then◌else◌}
use Rattle.std.specs.List.{AllByRecursion}
use Rattle.std.specs.Map.{lookup}
use Rattle.chgarena.specs.Strands.{Strands as Arena, IsOf, IsPushed, entries_of}
use Rattle.reorder.specs.Entries.{IsEntry}

-- f with w at k
abbrev pub map_with : {A : Type 0} → ℕ → Option A → (ℕ → Option A) → ℕ → Option A
map_with k w f x = if k == x then w else f x

-- the arena, and of each xid its strand, by the strand's first chunk
pub record PoolState : Type 0 where
  pub arena : Arena
  pub strands : List (ℕ × Option ℕ)

abbrev pub strand_of : List (ℕ × Option ℕ) → ℕ → Option (Option ℕ)
strand_of strands x = lookup (λ k. x == k) strands

abbrev pub entries_by : Arena → Option (Option ℕ) → List (List ℕ)
entries_by arena None = []
entries_by arena (Some head) = entries_of arena head

-- the entries of an xid
abbrev pub entries_at : PoolState → ℕ → List (List ℕ)
entries_at p x = entries_by p.arena (strand_of p.strands x)

-- the same with other entries of one xid
abbrev pub with_entries : PoolState → ℕ → List (List ℕ) → ℕ → List (List ℕ)
with_entries p xid entries x = if xid == x then entries else entries_at p x

-- the strands are the arena's, and no two xids have one
pub record IsPool (arena : Arena) (strands : List (ℕ × Option ℕ)) : Type 0 where
  pub made : (x : ℕ) (head : Option ℕ) → strand_of strands x ≡ Some head → IsOf arena head
  pub apart : (x y head : ℕ) → strand_of strands x ≡ Some (Some head) → strand_of strands y ≡ Some (Some head) → x ≡ y

-- each entry is that of a change
abbrev pub HoldEntries : Arena → List (ℕ × Option ℕ) → Type 0
HoldEntries arena strands = (x : ℕ) → AllByRecursion IsEntry (entries_by arena (strand_of strands x))

-- entries that are lent, or none
abbrev pub entries_in : Option (List (List ℕ)) → List (List ℕ)
entries_in None = []
entries_in (Some entries) = entries

-- an xid's strand has one entry more, and every other strand stays
pub record PushesAt (xid : ℕ) (entry : List ℕ) (arena : Arena) (strands : List (ℕ × Option ℕ)) (arena' : Arena) (strands' : List (ℕ × Option ℕ)) : Type 0 where
  pub head : Option ℕ
  pub was : strand_of strands xid ≡ Some head
  pub head' : Option ℕ
  pub pushed : IsPushed arena head entry arena' head'
  pub others : (x : ℕ) → strand_of strands' x ≡ map_with xid (Some head') (strand_of strands) x

-- Strands that the arena has and the pool hasn't: no two are the same, none is one of the pool's, and each entry is that of a change.
pub record IsLent (p : PoolState) (lent : List (ℕ × Option ℕ)) : Type 0 where
  pub own : IsPool p.arena lent
  pub hold : HoldEntries p.arena lent
  pub apart : (x y head : ℕ) → strand_of p.strands x ≡ Some (Some head) → strand_of lent y ≡ Some (Some head) → ⊥

-- such strands stay, with the entries that they have
pub record Lasts (old new : PoolState) (lent : List (ℕ × Option ℕ)) : Type 0 where
  pub still : IsLent new lent
  pub same : (x : ℕ) → entries_by new.arena (strand_of lent x) ≡ entries_by old.arena (strand_of lent x)

-- whatever is lent stays
pub record StaysLent (old new : PoolState) : Type 0 where
  pub each : (lent : List (ℕ × Option ℕ)) → IsLent old lent → Lasts old new lent

-- no strand stands in both
abbrev pub AreApart : List (ℕ × Option ℕ) → List (ℕ × Option ℕ) → Type 0
AreApart lent others = (x y head : ℕ) → strand_of lent x ≡ Some (Some head) → strand_of others y ≡ Some (Some head) → ⊥

-- every strand stays, that of the xid too
pub record IsSameAt (xid : ℕ) (strands strands' : List (ℕ × Option ℕ)) : Type 0 where
  pub head : Option ℕ
  pub was : strand_of strands xid ≡ Some head
  pub all : (x : ℕ) → strand_of strands' x ≡ map_with xid (Some head) (strand_of strands) x
