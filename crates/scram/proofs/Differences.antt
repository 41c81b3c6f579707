-- Bytes that differ nowhere are the same.
use Rattle.std.proofs.Common.{◌≡◌, ℕ, zero, suc, ◌<◌, ◌&&◌, Bool, true, false, List, [], ◌∷◌, length, fold, nat_eq, arith, refl, bit_or, bit_xor}
use Rattle.std.specs.List.{zip}
use Rattle.std.specs.Str.{bytes_eq}
use Rattle.std.specs.Int.Bits.{xor_self, xor_add_and}
use Rattle.std.proofs.lemmas.Nat.{le_or_l, and_le_l, and_le_r}
use Rattle.std.proofs.lemmas.Bool.Decides.{nat_tests}
use Rattle.scram.specs.Digests.{gathered, differing_bits}

not_zero : (n : ℕ) → 0 < n → nat_eq n 0 ≡ false
not_zero n some = grind (arith, nat_tests)

both_zero : (a b : ℕ) → nat_eq (bit_or a b) 0 ≡ (nat_eq a 0 && nat_eq b 0)
both_zero zero b = refl
both_zero (suc a) b =
    let more = le_or_l (suc a) b in
    let left = not_zero (bit_or (suc a) b) (omega (arith, more)) in
    let right = not_zero (suc a) (omega arith) in
    rw (left, right) refl

same_bytes : (a b : ℕ) → nat_eq (bit_xor a b) 0 ≡ nat_eq a b
same_bytes a b =
    let sum = xor_add_and a b in
    let left = and_le_l a b in
    let right = and_le_r a b in
    let whole = xor_self a in
    grind (arith, nat_tests, sum, left, right, whole)

regroup : (a b c : Bool) → ((a && b) && c) ≡ (a && (b && c))
regroup true b c = refl
regroup false b c = refl

always : (a : Bool) → a ≡ (a && true)
always true = refl
always false = refl

pub no_difference_from : (bits : ℕ) (left right : List ℕ) → length left ≡ length right → nat_eq (fold gathered bits (zip left right)) 0 ≡ (nat_eq bits 0 && bytes_eq left right)
no_difference_from bits [] [] same = always (nat_eq bits 0)
no_difference_from bits [] (b ∷ right) same = absurd (omega arith)
no_difference_from bits (a ∷ left) [] same = absurd (omega arith)
no_difference_from bits (a ∷ left) (b ∷ right) same =
    let others = no_difference_from (gathered bits (a, b)) left right (omega arith) in
    rw (others, both_zero bits (bit_xor a b), same_bytes a b) (regroup (nat_eq bits 0) (nat_eq a b) (bytes_eq left right))

pub no_difference : (left right : List ℕ) → length left ≡ length right → nat_eq (differing_bits left right) 0 ≡ bytes_eq left right
no_difference left right same = no_difference_from 0 left right same
