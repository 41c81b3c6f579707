-- The names of a TOML table's members.
use Rattle.std.proofs.Common.{◌≡◌, Bool, List, [], ◌∷◌, String, Global, refl, ap}
use Rattle.std.specs.Prelude.{◌||◌, not, string_bytes, ℕ}
use Rattle.std.specs.List.{list_any}
use Rattle.std.specs.Map.{keys_of}
use Rattle.toml.specs.View.{members_view}
use Rattle.toml.specs.declared.value.Value.{Value}
use Rattle.configuration.specs.Config.{has_another}

pub another_among : (is_known : List ℕ → Bool) (es : List (String Global × Value)) →
    has_another is_known (members_view es) ≡ list_any (λ name. not (is_known (string_bytes name))) (keys_of es)
another_among is_known [] = refl
another_among is_known (e ∷ es) = ap (λ (rest : Bool). not (is_known (string_bytes e.0)) || rest) (another_among is_known es)
