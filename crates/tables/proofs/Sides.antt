-- Columns and the values that stand in them, side by side.
use Rattle.std.proofs.Common.{◌≡◌, ℕ, zero, suc, ◌+◌, ◌<◌, Bool, List, [], ◌∷◌, length, drop, get_or, slice_get, Some, None, refl, sym, ap, ◌∙◌, arith}
use Rattle.std.specs.Prelude.{◌&&◌}
use Rattle.std.specs.List.{list_all, zip}

module _ {A B : Type 0} (p : A × B → Bool) where
  -- those from the i-th on
  pub from : List A → List B → ℕ → Bool
  from xs ys i = list_all p (zip (drop i xs) (drop i ys))

  some_is : (y v : B) → Some y ≡ Some v → y ≡ v
  some_is y v e = cc

  step_by : (xs : List A) (ys : List B) (i : ℕ) (x : A) (y : B) → i < length xs → x ≡ get_or xs i x → slice_get ys i ≡ Some y →
      list_all p (zip (drop i xs) (drop i ys)) ≡ (p (x, y) && list_all p (zip (drop (suc i) xs) (drop (suc i) ys)))
  step_by [] ys i x y low is there = absurd (omega arith)
  step_by (a ∷ xs) [] i x y low is there = absurd cc
  step_by (a ∷ xs) (b ∷ ys) zero x y low is there = rw (is, sym (some_is b y there)) refl
  step_by (a ∷ xs) (b ∷ ys) (suc i) x y low is there = step_by xs ys i x y (omega arith) is there

  pub step : (xs : List A) (ys : List B) (i : ℕ) (x : A) (y : B) → i < length xs → x ≡ get_or xs i x → slice_get ys i ≡ Some y →
      list_all p (zip (drop i xs) (drop i ys)) ≡ (p (x, y) && list_all p (zip (drop (i + 1) xs) (drop (i + 1) ys)))
  step xs ys i x y low is there = step_by xs ys i x y low is there ∙ ap (λ k. p (x, y) && list_all p (zip (drop k xs) (drop k ys))) (let same : suc i ≡ i + 1 = omega arith in same)

-- there is a value for each column
pub there : {B : Type 0} (ys : List B) (i : ℕ) → slice_get ys i ≡ None → length ys < i + 1
there [] i e = omega arith
there (y ∷ ys) zero e = absurd cc
there (y ∷ ys) (suc i) e = let rest = there ys i e in omega (arith, rest)
