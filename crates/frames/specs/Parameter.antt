-- A parameter of a session (PostgreSQL 15, 55.7 StartupMessage): its name, which isn't empty, and its value.
use Rattle.std.specs.Prelude.{◌≡◌, ℕ, Bool, true, false, ◌&&◌, List, [], ◌∷◌, ◌++◌, Result, Ok}
use Rattle.std.specs.Str.{is_utf8}
use Rattle.frames.specs.declared.frontend.parameter.Parameter.{Parameter}
use Rattle.pqformat.specs.Fields.{string, string_at, has_zero}
use Rattle.pqformat.specs.Steps.{◌>>=◌}
use Rattle.frames.specs.Body.{there}

abbrev pub parameter : Parameter → List ℕ
parameter p = string p.name ++ string p.value

abbrev pub is_empty : List ℕ → Bool
is_empty [] = true
is_empty (b ∷ bytes) = false

abbrev pub FitsParameter : Parameter → Type 0
FitsParameter p = (is_empty p.name ≡ false) × (has_zero p.name ≡ false) × (has_zero p.value ≡ false)

abbrev pub is_parameter_text : Parameter → Bool
is_parameter_text p = is_utf8 p.name && is_utf8 p.value

unfoldable pub parameter_at : List ℕ → Result (Parameter × List ℕ) (Unit {0})
parameter_at bytes = do
  name ← there (string_at bytes)
  value ← there (string_at name.1)
  Ok (record { name = name.0; value = value.0 }, value.1)
