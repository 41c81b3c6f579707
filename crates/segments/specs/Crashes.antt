-- What outlives a crash.
use Rattle.std.specs.Prelude.{◌≡◌, ℕ, ◌<◌, ◌≤◌, List, [], ◌∷◌, ◌++◌, length, slice_index}
use mathlib.Core.List.{IsPrefix}
use Rattle.segments.specs.Entries.{Written}

-- the content begins with these bytes
pub record Begins (front content : List ℕ) : Type 0 where
  pub whole : length front ≤ length content
  pub each : (i : ℕ) → i < length front → slice_index content i ≡ slice_index front i

-- whatever a crash leaves begins with these bytes
abbrev pub Outlives : List ℕ → (List ℕ → Type 0) → Type 0
Outlives front outcomes = (c : List ℕ) → outcomes c → Begins front c

-- bytes that nobody has written there carry a digest that fits them
pub record IsForged (es found : List Written) : Type 0 where
  pub front : List Written
  pub other : Written
  pub rest : List Written
  pub parts : found ≡ front ++ other ∷ rest
  pub begins : IsPrefix front es
  pub differs : IsPrefix (front ++ other ∷ []) es → ⊥
