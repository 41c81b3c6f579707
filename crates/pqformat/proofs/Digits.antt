-- A number only grows with its digits.
use Rattle.std.proofs.Common.{◌≡◌, ℕ, ◌+◌, ◌*◌, ◌≤◌, List, [], ◌∷◌, arith}
use Rattle.std.specs.Char.{digit_value}
use Rattle.std.specs.Str.Parse.{digits_value_after}

value_grows : (n : ℕ) (digits : List ℕ) → n ≤ digits_value_after 10 n digits
value_grows n [] = omega arith
value_grows n (b ∷ digits) = omega (arith, value_grows (n * 10 + digit_value b) digits)

pub too_large : (limit v b all : ℕ) (tail : List ℕ) → digits_value_after 10 v (b ∷ tail) ≡ all → limit ≤ v * 10 + digit_value b → limit ≤ all
too_large limit v b all tail is over = omega (arith, is, over, value_grows (v * 10 + digit_value b) tail)
