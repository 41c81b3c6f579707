-- In which order the xids of a transaction stand: each after all that are above it.
use Rattle.std.proofs.Common.{◌≡◌, ℕ, ◌==◌, Bool, true, false, cond, ◌||◌, List, [], ◌∷◌, ◌++◌, reverse, refl, sym, ap, subst, ◌∙◌, eq-eqb}
use Rattle.std.specs.List.{AllByRecursion}
use Rattle.std.proofs.lemmas.Bool.{eqb-true}
use Rattle.std.proofs.lemmas.List.{reverse-append}
use Rattle.std.proofs.lemmas.List.Folds.{list_any-append}
use Rattle.reorder.specs.Strands.{ByXid, above_of, behind, is_in}
use Rattle.reorder.specs.Bookkeeping.{AreOrdered}
use Rattle.reorder.proofs.Named.{or_true}

pub in_reversed : (y : ℕ) (xs : List ℕ) → is_in y (reverse xs) ≡ is_in y xs
in_reversed y [] = refl
in_reversed y (x ∷ xs) =
    ap (is_in y) (reverse-append (x ∷ []) xs) ∙ list_any-append (λ z. y == z) (reverse xs) (x ∷ [])
    ∙ ap (λ b. b || ((y == x) || false)) (in_reversed y xs) ∙ swapped (is_in y xs) (y == x)
  where
    swapped : (a b : Bool) → (a || (b || false)) ≡ (b || a)
    swapped true true = refl
    swapped true false = refl
    swapped false true = refl
    swapped false false = refl

-- by whether the first is the one that is sought
by_first : (x z : ℕ) (zs : List ℕ) (R : Type 0) → is_in x (z ∷ zs) ≡ true → (x ≡ z → R) → (is_in x zs ≡ true → R) → R
by_first x z zs R inn first later = by_test (x == z) refl inn
  where
    by_test : (b : Bool) → (x == z) ≡ b → (b || is_in x zs) ≡ true → R
    by_test true same both = first (eqb-true x z same)
    by_test false other both = later both

pub one_of : (P : ℕ → Type 0) (x : ℕ) (zs : List ℕ) → AllByRecursion P zs → is_in x zs ≡ true → P x
one_of P x [] all inn = let never : false ≡ true = inn in cc
one_of P x (z ∷ zs) all inn = by_first x z zs (P x) inn (λ same. subst P (sym same) all.0) (λ later. one_of P x zs all.1 later)

above_first : (l : ByXid) (x q y : ℕ) (ys : List ℕ) → AllByRecursion (λ z. is_in z ys ≡ true) (above_of l y) → is_in x (above_of l q) ≡ true → q ≡ y → is_in x ys ≡ true
above_first l x q y ys all above same = one_of (λ z. is_in z ys ≡ true) x (above_of l y) all (subst (λ (z : ℕ). is_in x (above_of l z) ≡ true) same above)

-- what is above one of them is one of them
above_inside : (l : ByXid) (x q : ℕ) (ys : List ℕ) → AreOrdered l ys → is_in q ys ≡ true → is_in x (above_of l q) ≡ true → is_in x ys ≡ true
above_inside l x q [] o inn above = inn
above_inside l x q (y ∷ ys) o inn above =
    or_true (x == y) (is_in x ys) (by_first q y ys (is_in x ys ≡ true) inn (above_first l x q y ys o.1 above) (λ later. above_inside l x q ys o.2 later above))

-- what is under one of them stands after it
pub stands_after : (l : ByXid) (x q : ℕ) (ys : List ℕ) → AreOrdered l ys → is_in q ys ≡ true → is_in x (above_of l q) ≡ true → is_in q (behind x ys) ≡ true
stands_after l x q [] o inn above = inn
stands_after l x q (y ∷ ys) o inn above =
    by_test (y == x) refl (by_first q y ys (is_in x ys ≡ true) inn (above_first l x q y ys o.1 above) (λ later. above_inside l x q ys o.2 later above))
    (by_first q y ys (((q == y) || is_in q (behind x ys)) ≡ true) inn (λ same. rw (eq-eqb q y same) refl) (λ later. or_true (q == y) (is_in q (behind x ys)) (stands_after l x q ys o.2 later above)))
  where
    by_test : (b : Bool) → (y == x) ≡ b → is_in x ys ≡ true → ((q == y) || is_in q (behind x ys)) ≡ true → is_in q (cond b [] (y ∷ behind x ys)) ≡ true
    by_test true same again found = let never : true ≡ false = sym again ∙ ap (λ z. is_in z ys) (sym (eqb-true y x same)) ∙ o.0 in cc
    by_test false other again found = found

-- where the same is above each of them
pub ordered_same : (l a : ByXid) (ys : List ℕ) → ((q : ℕ) → is_in q ys ≡ true → above_of a q ≡ above_of l q) → AreOrdered l ys → AreOrdered a ys
ordered_same l a [] same o = tt
ordered_same l a (y ∷ ys) same o =
    (o.0, subst (λ (zs : List ℕ). AllByRecursion (λ z. is_in z ys ≡ true) zs) (sym (same y (rw (eq-eqb y y refl) refl))) o.1, ordered_same l a ys (λ q inn. same q (or_true (q == y) (is_in q ys) inn)) o.2)

pub ordered_back : (l a : ByXid) (xs : List ℕ) → ((q : ℕ) → is_in q xs ≡ true → above_of a q ≡ above_of l q) → AreOrdered l (reverse xs) → AreOrdered a (reverse xs)
ordered_back l a xs same o = ordered_same l a (reverse xs) (λ q inn. same q (sym (in_reversed q xs) ∙ inn)) o

-- with one more
pub ordered_push : (a : ByXid) (x : ℕ) (xs : List ℕ) → AreOrdered a (reverse xs) → is_in x xs ≡ false → AllByRecursion (λ y. is_in y xs ≡ true) (above_of a x) → AreOrdered a (reverse (xs ++ x ∷ []))
ordered_push a x xs o out above =
    subst (λ (ys : List ℕ). AreOrdered a ys) (sym (reverse-append xs (x ∷ [])))
    (in_reversed x xs ∙ out, all_reversed (above_of a x) above, o)
  where
    all_reversed : (zs : List ℕ) → AllByRecursion (λ y. is_in y xs ≡ true) zs → AllByRecursion (λ y. is_in y (reverse xs) ≡ true) zs
    all_reversed [] all = tt
    all_reversed (z ∷ zs) all = (in_reversed z xs ∙ all.0, all_reversed zs all.1)
