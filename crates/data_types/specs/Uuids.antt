-- uuid (PostgreSQL 15, 8.12).
use Rattle.std.specs.Prelude.{ℕ, ◌+◌, ◌==◌, ◌||◌, Bool, true, false, List, [], ◌∷◌, filter, map, if◌then◌else◌}
use Rattle.std.specs.Char.{to_ascii_lowercase, is_ascii_hexdigit}
use Rattle.data_types.specs.Bytes.{is_lower_hex}

-- the hexadecimal digits of a text, in lower case, which are all that a uuid is made of
abbrev pub hex_digits : List ℕ → List ℕ
hex_digits text = map to_ascii_lowercase (filter is_ascii_hexdigit text)

abbrev pub is_hyphen_place : ℕ → Bool
is_hyphen_place place = place == 8 || (place == 13 || (place == 18 || place == 23))

abbrev pub is_uuid_byte : ℕ → ℕ → Bool
is_uuid_byte place b = if is_hyphen_place place then b == 45 else is_lower_hex b

abbrev pub is_uuid_from : ℕ → List ℕ → Bool
is_uuid_from place [] = place == 36
is_uuid_from place (b ∷ text) = if is_uuid_byte place b then is_uuid_from (place + 1) text else false

-- as it is sent: 32 digits in lower case, of which 8, 4, 4, 4 and 12 stand between hyphens
abbrev pub is_uuid_text : List ℕ → Bool
is_uuid_text text = is_uuid_from 0 text
