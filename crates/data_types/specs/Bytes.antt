-- bytea (PostgreSQL 15, 8.4): the hex format, and the escape format.
use Rattle.std.specs.Prelude.{ℕ, ◌<◌, ◌+◌, ◌-◌, ◌*◌, ◌==◌, ◌&&◌, ◌||◌, Bool, true, false, List, [], ◌∷◌, ◌++◌, nat_le, Option, Some, None, if◌then◌else◌}
use Rattle.std.specs.Option.{option_and_then}
use Rattle.std.specs.Char.{digit_value, is_ascii_hexdigit}
use Rattle.data_types.specs.declared.texts.bytea.Escape.{Escape}
use Rattle.data_types.specs.declared.texts.bytea.Escape.TheVariants as escapes

abbrev pub is_lower_hex : ℕ → Bool
is_lower_hex b = (nat_le 48 b && nat_le b 57) || (nat_le 97 b && nat_le b 102)

-- two digits for each byte, in lower case
abbrev pub are_hex_pairs : List ℕ → Bool
are_hex_pairs [] = true
are_hex_pairs (a ∷ []) = false
are_hex_pairs (a ∷ (b ∷ text)) = if is_lower_hex a && is_lower_hex b then are_hex_pairs text else false

-- as it is sent: a backslash, an x, and the digits
abbrev pub is_bytea_text : List ℕ → Bool
is_bytea_text [] = false
is_bytea_text (a ∷ []) = false
is_bytea_text (a ∷ (b ∷ text)) = if a == 92 && b == 120 then are_hex_pairs text else false

-- what may stand between two pairs of digits
abbrev pub is_hex_blank : ℕ → Bool
is_hex_blank b = b == 32 || (b == 9 || (b == 10 || b == 13))

-- what follows one more byte: the first digit of a pair, and the byte that is whole with it
abbrev pub hex_step : Option ℕ → ℕ → Option (Option ℕ × Option ℕ)
hex_step None b =
    if is_hex_blank b then Some (None, None)
    else (if is_ascii_hexdigit b then Some (Some (digit_value b), None) else None)
hex_step (Some high) b = if is_ascii_hexdigit b then Some (None, Some (high * 16 + digit_value b)) else None

abbrev pub IsDigit : Option ℕ → Type 0
IsDigit None = Unit {0}
IsDigit (Some high) = high < 16

abbrev pub with_byte : List ℕ → Option ℕ → List ℕ
with_byte bytes None = bytes
with_byte bytes (Some b) = bytes ++ b ∷ []

abbrev pub paired_at_end : Option ℕ → List ℕ → Option (List ℕ)
paired_at_end None bytes = Some bytes
paired_at_end (Some high) bytes = None

-- the bytes of pairs of digits, between which blanks may stand, after those that were read
abbrev pub paired_after : Option ℕ → List ℕ → List ℕ → Option (List ℕ)
paired_after high bytes [] = paired_at_end high bytes
paired_after high bytes (b ∷ text) =
    option_and_then (λ next. paired_after next.0 (with_byte bytes next.1) text) (hex_step high b)

-- one octal digit of the three is 0 to 3, with which a byte is whole
abbrev pub IsEscape : Escape → Type 0
IsEscape (escapes.One high) = high < 4
IsEscape (escapes.Two high) = high < 32
IsEscape escape = Unit {0}

abbrev pub is_octal : ℕ → Bool
is_octal b = nat_le 48 b && nat_le b 55

-- what follows one more byte: what has begun, and the byte that is whole with it
abbrev pub escape_step : Escape → ℕ → Option (Escape × Option ℕ)
escape_step escapes.Outside b = if b == 92 then Some (escapes.Begun, None) else Some (escapes.Outside, Some b)
escape_step escapes.Begun b =
    if b == 92 then Some (escapes.Outside, Some 92)
    else (if nat_le 48 b && nat_le b 51 then Some (escapes.One (b - 48), None) else None)
escape_step (escapes.One high) b = if is_octal b then Some (escapes.Two (high * 8 + (b - 48)), None) else None
escape_step (escapes.Two high) b = if is_octal b then Some (escapes.Outside, Some (high * 8 + (b - 48))) else None

abbrev pub at_end : Escape → List ℕ → Option (List ℕ)
at_end escapes.Outside bytes = Some bytes
at_end escape bytes = None

-- the bytes of a text in which a backslash stands before another, or before three octal digits
abbrev pub unescaped_after : Escape → List ℕ → List ℕ → Option (List ℕ)
unescaped_after escape bytes [] = at_end escape bytes
unescaped_after escape bytes (b ∷ text) =
    option_and_then (λ next. unescaped_after next.0 (with_byte bytes next.1) text) (escape_step escape b)

-- the bytes that a text is taken for
abbrev pub bytes_of : List ℕ → Option (List ℕ)
bytes_of [] = Some []
bytes_of (a ∷ []) = unescaped_after escapes.Outside [] (a ∷ [])
bytes_of (a ∷ (b ∷ text)) = if a == 92 && b == 120 then paired_after None [] text else unescaped_after escapes.Outside [] (a ∷ (b ∷ text))
