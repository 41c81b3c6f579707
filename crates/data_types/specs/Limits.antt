-- What stands in parentheses after a type's name (PostgreSQL 15, 8.1.2 and 8.3), where as much may be declared.
use Rattle.std.specs.Prelude.{◌≡◌, ℕ, nat_le, Bool, true, Option, Some, None, refl}
use borrow.Author.Tests.{leb-true}
use Rattle.data_types.specs.declared.limits.TheConstants.{MAX_CHARACTERS, MAX_PRECISION}
use Rattle.data_types.specs.declared.limits.CharacterLimit.{CharacterLimit}
use Rattle.data_types.specs.declared.limits.DecimalPlaces.{DecimalPlaces}

abbrev pub limit_if : (count : ℕ) → (some short : Bool) → nat_le 1 count ≡ some → nat_le count MAX_CHARACTERS ≡ short → Option CharacterLimit
limit_if count true true is_some is_short = Some record { count = count; some = leb-true 1 count is_some; in_range = leb-true count MAX_CHARACTERS is_short }
limit_if count some short is_some is_short = None

-- one character at least, and no more than may be declared
unfoldable pub limit_of : ℕ → Option CharacterLimit
limit_of count = limit_if count (nat_le 1 count) (nat_le count MAX_CHARACTERS) refl refl

abbrev pub places_if : (precision scale : ℕ) → (some short within : Bool) → nat_le 1 precision ≡ some → nat_le precision MAX_PRECISION ≡ short → nat_le scale precision ≡ within → Option DecimalPlaces
places_if precision scale true true true is_some is_short is_within = Some record {
  precision = precision;
  scale = scale;
  some = leb-true 1 precision is_some;
  precision_in_range = leb-true precision MAX_PRECISION is_short;
  scale_in_range = leb-true scale precision is_within;
}
places_if precision scale some short within is_some is_short is_within = None

-- one digit at least, no more than may be declared, and of these no more after the point than there are
unfoldable pub places_of : ℕ → ℕ → Option DecimalPlaces
places_of precision scale = places_if precision scale (nat_le 1 precision) (nat_le precision MAX_PRECISION) (nat_le scale precision) refl refl refl
