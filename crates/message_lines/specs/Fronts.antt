-- What lines begin with, by what they tell.
use Rattle.std.specs.Prelude.{◌≡◌, ℕ, ◌||◌, Bool, List, nat_eq, codes}
use Rattle.std.specs.List.{starts_with}

-- the line begins so, as far as it is there
abbrev pub begins : List ℕ → List ℕ → Bool
begins line front = starts_with nat_eq line front || starts_with nat_eq front line

-- the first line of a transaction, a note, or the last line of all
unfoldable pub begins_one : List ℕ → Bool
begins_one line = begins line (codes "{\"action\":\"B\",") || (begins line (codes "{\"action\":\"M\",\"transactional\":false,") || begins line (codes "{\"summary\":{"))

unfoldable pub is_note_line : List ℕ → Bool
is_note_line line = starts_with nat_eq line (codes "{\"action\":\"M\",\"transactional\":false,")

unfoldable pub is_change_line : List ℕ → Bool
is_change_line line =
    starts_with nat_eq line (codes "{\"action\":\"I\",")
    || (starts_with nat_eq line (codes "{\"action\":\"U\",") || (starts_with nat_eq line (codes "{\"action\":\"D\",") || starts_with nat_eq line (codes "{\"action\":\"T\",")))

-- what a line begins with tells this of it
pub record Tells (line : List ℕ) (is_first is_note is_change : Bool) : Type 0 where
  pub first : begins_one line ≡ is_first
  pub note : is_note_line line ≡ is_note
  pub change : is_change_line line ≡ is_change
