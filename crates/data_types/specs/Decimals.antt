-- numeric (PostgreSQL 15, 8.1.2): decimal digits of any number.
use Rattle.std.specs.Prelude.{ℕ, ◌+◌, ◌-◌, ◌==◌, ◌&&◌, ◌||◌, Bool, true, false, not, List, [], ◌∷◌, codes, length, take, drop, nat_le, Option, Some, None, if◌then◌else◌}
use Rattle.std.specs.List.{list_all}
use Rattle.std.specs.Char.{is_ascii_digit}
use Rattle.std.specs.Str.{bytes_eq}
use Rattle.data_types.specs.Clock.{is_empty}
use Rattle.data_types.specs.declared.limits.DecimalPlaces.{DecimalPlaces}
use Rattle.data_types.specs.declared.texts.decimal.WrittenDecimal.{WrittenDecimal}
use Rattle.data_types.specs.declared.texts.decimal.TheConstants.{MAX_WHOLE_DIGITS, MAX_SCALE}

-- a sign, the digits before the point and after it, and what stands after them
pub record Decimal : Type 0 where
  pub is_negative : Bool
  pub whole : List ℕ
  pub has_point : Bool
  pub fraction : List ℕ
  pub rest : List ℕ

abbrev pub lent_decimal : WrittenDecimal → Decimal
lent_decimal it = record { is_negative = it.is_negative; whole = it.whole.now; has_point = it.has_point; fraction = it.fraction.now; rest = it.rest.now }

-- how many digits stand at the front
abbrev pub digit_count : List ℕ → ℕ
digit_count [] = 0
digit_count (b ∷ text) = if is_ascii_digit b then digit_count text + 1 else 0

abbrev pub with_point : Bool → List ℕ → List ℕ → Decimal
with_point is_negative whole [] = record { is_negative = is_negative; whole = whole; has_point = false; fraction = []; rest = [] }
with_point is_negative whole (b ∷ text) =
    if b == 46
    then record { is_negative = is_negative; whole = whole; has_point = true; fraction = take (digit_count text) text; rest = drop (digit_count text) text }
    else record { is_negative = is_negative; whole = whole; has_point = false; fraction = []; rest = b ∷ text }

abbrev pub unsigned_at : Bool → List ℕ → Decimal
unsigned_at is_negative text = with_point is_negative (take (digit_count text) text) (drop (digit_count text) text)

abbrev pub decimal_at : List ℕ → Decimal
decimal_at [] = unsigned_at false []
decimal_at (b ∷ text) = if b == 45 then unsigned_at true text else unsigned_at false (b ∷ text)

abbrev pub are_zeros : List ℕ → Bool
are_zeros digits = list_all (λ b. b == 48) digits

abbrev pub is_zero : Decimal → Bool
is_zero it = are_zeros it.whole && are_zeros it.fraction

-- one zero where there are none, and else none at the front
abbrev pub is_whole_text : List ℕ → Bool
is_whole_text [] = false
is_whole_text (b ∷ text) = not (b == 48) || is_empty text

-- a number below 1 has no digit before the point
abbrev pub whole_count : List ℕ → ℕ
whole_count whole = if are_zeros whole then 0 else length whole

abbrev pub has_places : Option DecimalPlaces → Decimal → Bool
has_places None it = nat_le (length it.whole) MAX_WHOLE_DIGITS && nat_le (length it.fraction) MAX_SCALE
has_places (Some places) it = length it.fraction == places.scale && nat_le (whole_count it.whole + places.scale) places.precision

-- no zero at the front of the digits, and a digit after a point
abbrev pub is_tidy : Decimal → Bool
is_tidy it = is_whole_text it.whole && not (it.has_point && is_empty it.fraction)

-- nothing after the digits, and no minus before zero
abbrev pub is_sent_decimal : Decimal → Bool
is_sent_decimal it = (is_empty it.rest && is_tidy it) && not (it.is_negative && is_zero it)

abbrev pub is_infinity : List ℕ → Bool
is_infinity text = bytes_eq text (codes "Infinity") || bytes_eq text (codes "-Infinity")

abbrev pub takes_infinity : Option DecimalPlaces → Bool
takes_infinity None = true
takes_infinity (Some places) = false

abbrev pub is_finite_text : Option DecimalPlaces → List ℕ → Bool
is_finite_text places text =
    is_sent_decimal (decimal_at text) && has_places places (decimal_at text)

-- as it is sent: NaN, where no digits are counted Infinity, and else the digits with all that are counted after the point
abbrev pub is_numeric_text : Option DecimalPlaces → List ℕ → Bool
is_numeric_text places text =
    bytes_eq text (codes "NaN") || ((takes_infinity places && is_infinity text) || is_finite_text places text)
