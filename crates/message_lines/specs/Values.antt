-- What is told of a value of which a text was sent: a number or a truth where the type is one and the text says one, null of what JSON
-- has no number for, of bytes their digits, and else the text itself, as wal2json tells them.
use Rattle.std.specs.Prelude.{ℕ, ◌==◌, ◌&&◌, ◌||◌, Bool, true, false, List, [], ◌∷◌, Option, Some, None, codes, if◌then◌else◌}
use Rattle.std.specs.Str.{bytes_eq}
use Rattle.json.specs.Json.{Json, boolean, null, number, string}
use Rattle.json.specs.Word.{after_number}
use Rattle.message_lines.specs.Kinds.{is_number}
use Rattle.message_lines.specs.declared.telling.kinds.TheConstants.{BOOL_OID, BYTEA_OID, NUMERIC_OID}

-- whether what follows a number is there and is nothing
abbrev pub is_end : Option (List ℕ) → Bool
is_end None = false
is_end (Some []) = true
is_end (Some (b ∷ bytes)) = false

-- the whole text is a number of JSON
abbrev pub is_numeral : List ℕ → Bool
is_numeral text = is_end (after_number text)

unfoldable pub is_told_number : ℕ → List ℕ → Bool
is_told_number kind text = is_number kind && is_numeral text

abbrev pub is_beyond_numbers : List ℕ → Bool
is_beyond_numbers text = bytes_eq text (codes "NaN") || (bytes_eq text (codes "Infinity") || bytes_eq text (codes "-Infinity"))

unfoldable pub is_no_number : ℕ → List ℕ → Bool
is_no_number kind text = kind == NUMERIC_OID && is_beyond_numbers text

-- the digits behind the mark of the hex format
abbrev pub without_mark : List ℕ → List ℕ
without_mark [] = []
without_mark (a ∷ []) = a ∷ []
without_mark (a ∷ b ∷ text) = if a == 92 && b == 120 then text else a ∷ b ∷ text

unfoldable pub told_text : ℕ → List ℕ → List ℕ
told_text kind text = if kind == BYTEA_OID then without_mark text else text

abbrev pub truth : List ℕ → Option Bool
truth text = if bytes_eq text (codes "t") then Some true else if bytes_eq text (codes "f") then Some false else None

unfoldable pub truth_of : ℕ → List ℕ → Option Bool
truth_of kind text = if kind == BOOL_OID then truth text else None

abbrev pub truth_or_text : Option Bool → List ℕ → Json
truth_or_text (Some b) text = boolean b
truth_or_text None text = string text

unfoldable pub value_json : ℕ → List ℕ → Json
value_json kind text = if is_told_number kind text then number text else (if is_no_number kind text then null else truth_or_text (truth_of kind text) (told_text kind text))
