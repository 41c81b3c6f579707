-- What is inside of equal options is equal.
use Rattle.std.proofs.Common.{◌≡◌, ℕ, Option, Some, None, ap}

abbrev or_that : {A : Type 0} → A → Option A → A
or_that d None = d
or_that d (Some x) = x

pub same_inside : {A : Type 0} (x y : A) → Option.Some x ≡ Option.Some y → x ≡ y
same_inside x y e = ap (or_that x) e

abbrev pub place_is : ℕ → Option ℕ
place_is n = Some n
