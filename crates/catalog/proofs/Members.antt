-- The members of a TOML table, counted.
use Rattle.std.proofs.Common.{◌≡◌, List, [], ◌∷◌, length, String, Global, refl, arith}
use Rattle.toml.specs.View.{members_view}
use Rattle.toml.specs.declared.value.Value.{Value}
use Rattle.catalog.specs.Config.{count_of}

pub counted : (es : List (String Global × Value)) → count_of (members_view es) ≡ length es
counted [] = refl
counted (e ∷ es) = omega (arith, counted es)
