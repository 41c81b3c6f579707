-- ErrorResponse (PostgreSQL 15, 55.7 and 55.8): fields, each a code byte and a text, and a zero byte after them.
use Rattle.std.specs.Prelude.{◌≡◌, ℕ, ◌<◌, ◌==◌, Bool, true, false, not, List, [], ◌∷◌, ◌++◌, Result, Ok}
use Rattle.std.specs.Str.{is_utf8}
use Rattle.frames.specs.declared.backend.error_response.ErrorField.{ErrorField}
use Rattle.pqformat.specs.Fields.{string, string_at, byte_at, has_zero}
use Rattle.pqformat.specs.Steps.{◌>>=◌}
use Rattle.frames.specs.Body.{there}

abbrev pub error_field : ErrorField → List ℕ
error_field f = f.code ∷ [] ++ string f.text

-- a code that isn't taken for the end
abbrev pub FitsErrorField : ErrorField → Type 0
FitsErrorField f = ((f.code < 256) × (has_zero f.text ≡ false)) × (not (f.code == 0) ≡ true)

abbrev pub is_error_text : ErrorField → Bool
is_error_text f = is_utf8 f.text

unfoldable pub error_field_at : List ℕ → Result (ErrorField × List ℕ) (Unit {0})
error_field_at bytes = do
  code ← there (byte_at bytes)
  text ← there (string_at code.1)
  Ok (record { code = code.0; text = text.0 }, text.1)
