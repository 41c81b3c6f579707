-- Sets of code points, by the numbers at which they begin and end, in turn.
use Rattle.std.specs.Prelude.{ℕ, nat_lt, Bool, true, false, not, List, [], ◌∷◌, if◌then◌else◌}

abbrev pub is_in : List ℕ → ℕ → Bool
is_in [] code = false
is_in (bound ∷ bounds) code = if nat_lt code bound then false else not (is_in bounds code)

abbrev pub has_any : List ℕ → List ℕ → Bool
has_any set [] = false
has_any set (code ∷ codes) = if is_in set code then true else has_any set codes
