-- Integers as they are read.
use Rattle.std.proofs.Common.{◌≡◌, ℕ, zero, suc, ◌+◌, ◌*◌, ◌≤◌, ◌^◌, ℤ, pos, negsuc, neg_ℤ, ◌+ℤ◌, ◌-ℤ◌, Bool, true, false, cond, List, [], ◌∷◌, Option, Some, None, SomeIff, FitsSigned, refl, sym, ap, subst, ◌∙◌, arith}
use Rattle.std.proofs.Math.IntN.{+ℤ_idl}
use Rattle.std.specs.Int.{w64}
use Rattle.conditions.specs.Parts.{fits_64, integer_if}
use Rattle.conditions.proofs.Growing.{tested_fits, fits_tested}

-- ---- after a sign

from_zero : (z : ℤ) → pos 0 +ℤ z ≡ z
from_zero z = +ℤ_idl z

integer_there : (z : ℤ) → FitsSigned w64 z → Some z ≡ integer_if z
integer_there z fits = ap (λ t. cond t (Some z) None) (sym (tested_fits z fits))

integer_over : (z : ℤ) → ((FitsSigned w64 z) → ⊥) → None ≡ integer_if z
integer_over z never = by_test (fits_64 z) refl
  where
    by_test : (t : Bool) → fits_64 z ≡ t → None ≡ cond t (Some z) None
    by_test true is = absurd (never (fits_tested z is))
    by_test false is = refl

read_as : (z : ℤ) (o : Option ℤ) → SomeIff o (FitsSigned w64 z) z → o ≡ integer_if z
read_as z None never = integer_over z never
read_as z (Some x) found = ap (λ y. Some y) found.1 ∙ integer_there z found.0

pub read_positive : (m : ℕ) (o : Option ℤ) → SomeIff o (FitsSigned w64 (pos 0 +ℤ pos m)) (pos 0 +ℤ pos m) → o ≡ integer_if (pos m)
read_positive m o found = read_as (pos m) o (subst (λ z. SomeIff o (FitsSigned w64 z) z) (from_zero (pos m)) found)

pub read_negative : (m : ℕ) (o : Option ℤ) → SomeIff o (FitsSigned w64 (pos 0 -ℤ pos m)) (pos 0 -ℤ pos m) → o ≡ integer_if (neg_ℤ (pos m))
read_negative m o found = read_as (neg_ℤ (pos m)) o (subst (λ z. SomeIff o (FitsSigned w64 z) z) (from_zero (neg_ℤ (pos m))) found)

pub large_positive : (m : ℕ) → 2 ^ 64 ≤ m → None ≡ integer_if (pos m)
large_positive m large = integer_over (pos m) (λ fits. omega (arith, large, fits.sfits))

pub large_negative : (m : ℕ) → 2 ^ 64 ≤ m → None ≡ integer_if (neg_ℤ (pos m))
large_negative zero large = absurd (omega (arith, large))
large_negative (suc m) large = integer_over (negsuc m) (λ fits. omega (arith, large, fits.sfits))
