-- What an arena holds: for each of its chunks the entries of the strand whose first chunk it is, if there is one. An entry is a list of bytes.
use Rattle.std.specs.Prelude.{◌≡◌, ℕ, ◌+◌, ◌<◌, Bool, Option, Some, None, List, [], ◌∷◌, ◌++◌, length, get_or, nat_le, set, sum_by}
use Rattle.chgarena.specs.Fill.{filled, fill, sizes}

abbrev pub Strands : Type 0
Strands = List (Option (List (List ℕ)))

-- no entries where there is no strand
abbrev pub entries_at : Option (List (List ℕ)) → List (List ℕ)
entries_at None = []
entries_at (Some entries) = entries

-- the entries of a strand, which goes by its first chunk, and has none before its first entry
abbrev pub entries_of : Strands → Option ℕ → List (List ℕ)
entries_of arena None = []
entries_of arena (Some head) = entries_at (get_or arena head None)

-- the arena made the strand
abbrev pub IsOf : Strands → Option ℕ → Type 0
IsOf arena None = Unit {0}
IsOf arena (Some head) = (head < length arena) × (entries : List (List ℕ)) × (get_or arena head None ≡ Some entries)

-- the chunks that all strands have
abbrev pub fills : Strands → ℕ
fills arena = sum_by (λ strand. fill (sizes (entries_at strand))) arena

-- whether the last chunk of these entries has room for one of this length
abbrev pub has_room : List (List ℕ) → ℕ → Bool
has_room entries size = nat_le ((filled (sizes entries)).1 + (size + 4)) 16384

-- a strand keeps its first chunk, and one without a chunk gets one at which no strand begins
abbrev pub IsHead : Strands → Option ℕ → ℕ → Type 0
IsHead arena None head = get_or arena head None ≡ None
IsHead arena (Some first) head = head ≡ first

-- the strand has one entry more, and every other strand stays
pub record IsPushed (old : Strands) (strand : Option ℕ) (entry : List ℕ) (new : Strands) (strand' : Option ℕ) : Type 0 where
  pub head : ℕ
  pub begins : strand' ≡ Some head
  pub within : head < length old
  pub kept : IsHead old strand head
  pub strands : new ≡ set old head (Some (entries_of old strand ++ entry ∷ []))

-- the strand is gone, and every other strand stays
abbrev pub arena_without : Strands → Option ℕ → Strands
arena_without arena None = arena
arena_without arena (Some head) = set arena head None
