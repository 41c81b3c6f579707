-- int2, int4 and int8 (PostgreSQL 15, 8.1.1).
use Rattle.std.specs.Prelude.{ℕ, ℤ, pos, negsuc, neg_ℤ, ◌^◌, ◌==◌, ◌&&◌, Bool, false, List, [], ◌∷◌, nat_lt, Option, Some, None, if◌then◌else◌}
use Rattle.std.specs.Option.{option_and_then, option_map_or}
use Rattle.std.specs.Fmt.{signed_decimal}
use Rattle.std.specs.Str.{bytes_eq}
use Rattle.data_types.specs.declared.texts.integer.Width.{Width}
use Rattle.data_types.specs.declared.texts.integer.Width.TheVariants as widths
use Rattle.data_types.specs.Digits.{Run, digits_at, after_blanks, are_blanks}

-- an integer of so many bits and a sign
abbrev pub fits_bits : ℕ → ℤ → Bool
fits_bits bits (pos n) = nat_lt n (2 ^ bits)
fits_bits bits (negsuc n) = nat_lt n (2 ^ bits)

abbrev pub integer_if : ℤ → Option ℤ
integer_if n = if fits_bits 63 n then Some n else None

abbrev pub run_value : Run → Option ℕ
run_value run = if nat_lt 0 run.count && are_blanks run.rest then Some run.value else None

-- digits, and after them nothing but blanks
abbrev pub magnitude_of : List ℕ → Option ℕ
magnitude_of text = option_and_then run_value (digits_at text)

abbrev pub positive_of : List ℕ → Option ℤ
positive_of text = option_and_then (λ n. integer_if (pos n)) (magnitude_of text)

abbrev pub negative_of : List ℕ → Option ℤ
negative_of text = option_and_then (λ n. integer_if (neg_ℤ (pos n))) (magnitude_of text)

abbrev pub signed_of : List ℕ → Option ℤ
signed_of [] = None
signed_of (b ∷ bs) =
    if b == 45 then negative_of bs
    else (if b == 43 then positive_of bs else positive_of (b ∷ bs))

-- the integer that a text is taken for: blanks, a minus, a plus or none, digits, blanks; None where it is of over 64 bits
abbrev pub integer_of : List ℕ → Option ℤ
integer_of text = signed_of (after_blanks text)

abbrev pub width_bits : Width → ℕ
width_bits widths.Int2 = 15
width_bits widths.Int4 = 31
width_bits widths.Int8 = 63

-- as it is sent: its digits without a zero before them, after a minus where it is below 0
abbrev pub is_integer_text : ℕ → List ℕ → Bool
is_integer_text bits text = option_map_or (λ n. fits_bits bits n && bytes_eq (signed_decimal n) text) (integer_of text) false
