-- What is kept of a list without repeats has none.
use Rattle.std.proofs.Common.{◌≡◌, ℕ, Bool, true, false, cond, List, [], ◌∷◌, ap, ◌∙◌, refl}
use Rattle.std.specs.Prelude.{◌||◌, ◌==◌, filter}
use Rattle.std.specs.List.{list_any}
use Rattle.tables.specs.Tables.{repeats}

either_false : (a b : Bool) → (a || b) ≡ false → (a ≡ false) × (b ≡ false)
either_false false b e = (refl, e)
either_false true b e = absurd cc

no_other : (p : ℕ → Bool) (n : ℕ) (xs : List ℕ) → list_any (λ m. m == n) xs ≡ false → list_any (λ m. m == n) (filter p xs) ≡ false
no_other p n [] e = refl
no_other p n (x ∷ xs) e = let both = either_false (x == n) (list_any (λ m. m == n) xs) e in by_test (p x) both.0 (no_other p n xs both.1)
  where
    by_test : (b : Bool) → (x == n) ≡ false → list_any (λ m. m == n) (filter p xs) ≡ false → list_any (λ m. m == n) (cond b (x ∷ filter p xs) (filter p xs)) ≡ false
    by_test true one rest = ap (λ (c : Bool). c || list_any (λ m. m == n) (filter p xs)) one ∙ rest
    by_test false one rest = rest

pub no_repeats : (p : ℕ → Bool) (xs : List ℕ) → repeats xs ≡ false → repeats (filter p xs) ≡ false
no_repeats p [] e = refl
no_repeats p (x ∷ xs) e = let both = either_false (list_any (λ m. m == x) xs) (repeats xs) e in by_test (p x) (no_other p x xs both.0) (no_repeats p xs both.1)
  where
    by_test : (b : Bool) → list_any (λ m. m == x) (filter p xs) ≡ false → repeats (filter p xs) ≡ false → repeats (cond b (x ∷ filter p xs) (filter p xs)) ≡ false
    by_test true one rest = ap (λ (c : Bool). c || repeats (filter p xs)) one ∙ rest
    by_test false one rest = rest
