-- Integers as they are read.
use Rattle.std.proofs.Common.{◌≡◌, ℕ, ◌+◌, ◌^◌, ℤ, pos, negsuc, neg_ℤ, ◌+ℤ◌, ◌-ℤ◌, Bool, true, false, cond, Option, Some, None, SomeIff, FitsSigned, refl, sym, ap, subst, ◌∙◌}
use Rattle.std.proofs.Math.IntN.{+ℤ_idl}
use mir.Syntax.{Width}
use Rattle.std.specs.Int.{w16, w32, w64}
use Rattle.std.specs.Prelude.{Result, Ok, Err, is_ok}
use Rattle.std.specs.Result.{OkIff}
use borrow.Author.Tests.{ltb-true, lt-ltb}
use Rattle.data_types.specs.Integers.{fits_bits, integer_if}

fits_tested : (n : ℤ) → fits_bits 63 n ≡ true → FitsSigned w64 n
fits_tested (pos n) is = record { sfits = ltb-true n (2 ^ 63) is }
fits_tested (negsuc n) is = record { sfits = ltb-true n (2 ^ 63) is }

tested_fits : (n : ℤ) → FitsSigned w64 n → fits_bits 63 n ≡ true
tested_fits (pos n) fits = lt-ltb n (2 ^ 63) fits.sfits
tested_fits (negsuc n) fits = lt-ltb n (2 ^ 63) fits.sfits

from_zero : (z : ℤ) → pos 0 +ℤ z ≡ z
from_zero z = +ℤ_idl z

integer_there : (z : ℤ) → FitsSigned w64 z → Some z ≡ integer_if z
integer_there z fits = ap (λ t. cond t (Some z) None) (sym (tested_fits z fits))

integer_over : (z : ℤ) → ((FitsSigned w64 z) → ⊥) → None ≡ integer_if z
integer_over z never = by_test (fits_bits 63 z) refl
  where
    by_test : (t : Bool) → fits_bits 63 z ≡ t → None ≡ cond t (Some z) None
    by_test true is = absurd (never (fits_tested z is))
    by_test false is = refl

read_as : (z : ℤ) (o : Option ℤ) → SomeIff o (FitsSigned w64 z) z → o ≡ integer_if z
read_as z None never = integer_over z never
read_as z (Some x) found = ap (λ y. Some y) found.1 ∙ integer_there z found.0

pub read_positive : (m : ℕ) (o : Option ℤ) → SomeIff o (FitsSigned w64 (pos 0 +ℤ pos m)) (pos 0 +ℤ pos m) → o ≡ integer_if (pos m)
read_positive m o found = read_as (pos m) o (subst (λ z. SomeIff o (FitsSigned w64 z) z) (from_zero (pos m)) found)

pub read_negative : (m : ℕ) (o : Option ℤ) → SomeIff o (FitsSigned w64 (pos 0 -ℤ pos m)) (pos 0 -ℤ pos m) → o ≡ integer_if (neg_ℤ (pos m))
read_negative m o found = read_as (neg_ℤ (pos m)) o (subst (λ z. SomeIff o (FitsSigned w64 z) z) (from_zero (neg_ℤ (pos m))) found)

-- ---- a width

narrow_tested : (w : Width) (bits : ℕ) (n : ℤ) → ((z : ℤ) → fits_bits bits z ≡ true → FitsSigned w z) → ((z : ℤ) → FitsSigned w z → fits_bits bits z ≡ true) → {E : Type 0} → (r : Result ℤ E) → OkIff r (FitsSigned w n) n → is_ok r ≡ fits_bits bits n
narrow_tested w bits n to from (Ok x) found = sym (from n found.0)
narrow_tested w bits n to from (Err e) never = by_test (fits_bits bits n) refl
  where
    by_test : (t : Bool) → fits_bits bits n ≡ t → false ≡ t
    by_test true is = absurd (never (to n is))
    by_test false is = refl

fits_16 : (n : ℤ) → fits_bits 15 n ≡ true → FitsSigned w16 n
fits_16 (pos n) is = record { sfits = ltb-true n (2 ^ 15) is }
fits_16 (negsuc n) is = record { sfits = ltb-true n (2 ^ 15) is }

tested_16 : (n : ℤ) → FitsSigned w16 n → fits_bits 15 n ≡ true
tested_16 (pos n) fits = lt-ltb n (2 ^ 15) fits.sfits
tested_16 (negsuc n) fits = lt-ltb n (2 ^ 15) fits.sfits

fits_32 : (n : ℤ) → fits_bits 31 n ≡ true → FitsSigned w32 n
fits_32 (pos n) is = record { sfits = ltb-true n (2 ^ 31) is }
fits_32 (negsuc n) is = record { sfits = ltb-true n (2 ^ 31) is }

tested_32 : (n : ℤ) → FitsSigned w32 n → fits_bits 31 n ≡ true
tested_32 (pos n) fits = lt-ltb n (2 ^ 31) fits.sfits
tested_32 (negsuc n) fits = lt-ltb n (2 ^ 31) fits.sfits

pub fits_int2 : {E : Type 0} → (n : ℤ) (r : Result ℤ E) → OkIff r (FitsSigned w16 n) n → is_ok r ≡ fits_bits 15 n
fits_int2 n r = narrow_tested w16 15 n fits_16 tested_16 r

pub fits_int4 : {E : Type 0} → (n : ℤ) (r : Result ℤ E) → OkIff r (FitsSigned w32 n) n → is_ok r ≡ fits_bits 31 n
fits_int4 n r = narrow_tested w32 31 n fits_32 tested_32 r

pub fits_int8 : (n : ℤ) → FitsSigned w64 n → true ≡ fits_bits 63 n
fits_int8 n fits = sym (tested_fits n fits)
