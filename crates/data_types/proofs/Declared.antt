-- Limits that are in range are those of their numbers.
use Rattle.std.proofs.Common.{◌≡◌, ℕ, ◌≤◌, Bool, true, false, Some, None, refl, sym, ◌∙◌, true≢false}
use Rattle.std.specs.Prelude.{nat_le}
use Rattle.std.specs.Coded.{le_prop}
use borrow.Author.Tests.{leb-true, le-leb}
use Rattle.data_types.specs.declared.limits.TheConstants.{MAX_CHARACTERS, MAX_PRECISION}
use Rattle.data_types.specs.declared.limits.CharacterLimit.{CharacterLimit}
use Rattle.data_types.specs.declared.limits.DecimalPlaces.{DecimalPlaces}
use Rattle.data_types.specs.Limits.{limit_if, limit_of, places_if, places_of}

pub limit_there : (l : CharacterLimit) → Some l ≡ limit_of l.count
unfolding limit_of
limit_there l = by_tests (nat_le 1 l.count) (nat_le l.count MAX_CHARACTERS) refl refl
  where
    by_tests : (a b : Bool) (some : nat_le 1 l.count ≡ a) (short : nat_le l.count MAX_CHARACTERS ≡ b) → Some l ≡ limit_if l.count a b some short
    by_tests true true some short = λ i. Some (record { count = l.count; some = le_prop l.some (leb-true 1 l.count some) i; in_range = le_prop l.in_range (leb-true l.count MAX_CHARACTERS short) i })
    by_tests true false some short = absurd (true≢false (sym (le-leb l.count MAX_CHARACTERS l.in_range) ∙ short))
    by_tests false b some short = absurd (true≢false (sym (le-leb 1 l.count l.some) ∙ some))

pub no_limit : (count : ℕ) → (1 ≤ count → count ≤ MAX_CHARACTERS → ⊥) → None ≡ limit_of count
unfolding limit_of
no_limit count never = by_tests (nat_le 1 count) (nat_le count MAX_CHARACTERS) refl refl
  where
    by_tests : (a b : Bool) (some : nat_le 1 count ≡ a) (short : nat_le count MAX_CHARACTERS ≡ b) → None ≡ limit_if count a b some short
    by_tests true true some short = absurd (never (leb-true 1 count some) (leb-true count MAX_CHARACTERS short))
    by_tests true false some short = refl
    by_tests false b some short = refl

pub places_there : (l : DecimalPlaces) → Some l ≡ places_of l.precision l.scale
unfolding places_of
places_there l = by_tests (nat_le 1 l.precision) (nat_le l.precision MAX_PRECISION) (nat_le l.scale l.precision) refl refl refl
  where
    by_tests : (a b c : Bool) (some : nat_le 1 l.precision ≡ a) (short : nat_le l.precision MAX_PRECISION ≡ b) (within : nat_le l.scale l.precision ≡ c) → Some l ≡ places_if l.precision l.scale a b c some short within
    by_tests true true true some short within = λ i. Some (record {
      precision = l.precision;
      scale = l.scale;
      some = le_prop l.some (leb-true 1 l.precision some) i;
      precision_in_range = le_prop l.precision_in_range (leb-true l.precision MAX_PRECISION short) i;
      scale_in_range = le_prop l.scale_in_range (leb-true l.scale l.precision within) i;
    })
    by_tests true true false some short within = absurd (true≢false (sym (le-leb l.scale l.precision l.scale_in_range) ∙ within))
    by_tests true false c some short within = absurd (true≢false (sym (le-leb l.precision MAX_PRECISION l.precision_in_range) ∙ short))
    by_tests false b c some short within = absurd (true≢false (sym (le-leb 1 l.precision l.some) ∙ some))

pub no_places : (precision scale : ℕ) → (1 ≤ precision → precision ≤ MAX_PRECISION → scale ≤ precision → ⊥) → None ≡ places_of precision scale
unfolding places_of
no_places precision scale never = by_tests (nat_le 1 precision) (nat_le precision MAX_PRECISION) (nat_le scale precision) refl refl refl
  where
    by_tests : (a b c : Bool) (some : nat_le 1 precision ≡ a) (short : nat_le precision MAX_PRECISION ≡ b) (within : nat_le scale precision ≡ c) → None ≡ places_if precision scale a b c some short within
    by_tests true true true some short within = absurd (never (leb-true 1 precision some) (leb-true precision MAX_PRECISION short) (leb-true scale precision within))
    by_tests true true false some short within = refl
    by_tests true false c some short within = refl
    by_tests false b c some short within = refl
