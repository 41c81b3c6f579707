-- Filters and tests of lists.
use Rattle.std.proofs.Common.{◌≡◌, ℕ, zero, suc, ◌==◌, Bool, true, false, cond, ◌&&◌, ◌||◌, List, [], ◌∷◌, ◌++◌, map, take, refl, sym, ap, eq-eqb}
use Rattle.std.proofs.lemmas.Bool.{eqb-true, eqb-false, ne_eqb}
use Rattle.std.specs.List.{filter, list_any, AllByRecursion}

pub or_false : (b : Bool) → (b || false) ≡ b
or_false true = refl
or_false false = refl

-- two tests that agree at each element keep the same
pub filter_agrees : {A : Type 0} (p q : A → Bool) (xs : List A) → AllByRecursion (λ x. p x ≡ q x) xs → filter p xs ≡ filter q xs
filter_agrees p q [] all = refl
filter_agrees p q (x ∷ xs) all = rw (all.0, filter_agrees p q xs all.1) refl

pub all_agree : {A : Type 0} (p q : A → Bool) → ((x : A) → p x ≡ q x) → (xs : List A) → AllByRecursion (λ x. p x ≡ q x) xs
all_agree p q agree [] = tt
all_agree p q agree (x ∷ xs) = (agree x, all_agree p q agree xs)

by_both : {A : Type 0} (p : A → Bool) (x : A) (b : Bool) (xs ys : List A) → filter p xs ≡ ys →
    filter p (cond b (x ∷ xs) xs) ≡ cond (b && p x) (x ∷ ys) ys
by_both p x true xs ys e = rw e refl
by_both p x false xs ys e = e

pub filter_none : {A : Type 0} (p : A → Bool) (xs : List A) → AllByRecursion (λ x. p x ≡ false) xs → filter p xs ≡ []
filter_none p [] all = refl
filter_none p (x ∷ xs) all = rw all.0 (filter_none p xs all.1)

-- a filter of a filter
pub filter_twice : {A : Type 0} (p q : A → Bool) (xs : List A) → filter p (filter q xs) ≡ filter (λ x. q x && p x) xs
filter_twice p q [] = refl
filter_twice p q (x ∷ xs) = by_both p x (q x) (filter q xs) (filter (λ y. q y && p y) xs) (filter_twice p q xs)

pub list_any_agrees : {A : Type 0} (p q : A → Bool) → ((x : A) → p x ≡ q x) → (xs : List A) → list_any p xs ≡ list_any q xs
list_any_agrees p q agree [] = refl
list_any_agrees p q agree (x ∷ xs) = rw (agree x, list_any_agrees p q agree xs) refl

swapped : (a b c d : Bool) → ((a || b) || (c || d)) ≡ ((a || c) || (b || d))
swapped true b c d = refl
swapped false true true d = refl
swapped false true false d = refl
swapped false false c d = refl

pub list_any_or : {A : Type 0} (p q : A → Bool) (xs : List A) → list_any (λ x. p x || q x) xs ≡ (list_any p xs || list_any q xs)
list_any_or p q [] = refl
list_any_or p q (x ∷ xs) = rw (list_any_or p q xs) (swapped (p x) (q x) (list_any p xs) (list_any q xs))

pub none_of : (ys : List ℕ) → list_any (λ (y : ℕ). false) ys ≡ false
none_of [] = refl
none_of (y ∷ ys) = none_of ys

pub and_true : (b : Bool) → b ≡ (b && true)
and_true true = refl
and_true false = refl

pub filter_all : {A : Type 0} (xs : List A) → filter (λ x. true) xs ≡ xs
filter_all [] = refl
filter_all (x ∷ xs) = ap (λ ys. x ∷ ys) (filter_all xs)

pub map_agrees : {A B : Type 0} (f g : A → B) (xs : List A) → AllByRecursion (λ x. f x ≡ g x) xs → map f xs ≡ map g xs
map_agrees f g [] same = refl
map_agrees f g (x ∷ xs) same = rw (same.0, map_agrees f g xs same.1) refl

pub map_twice : {A B C : Type 0} (g : B → C) (f : A → B) (xs : List A) → map g (map f xs) ≡ map (λ x. g (f x)) xs
map_twice g f [] = refl
map_twice g f (x ∷ xs) = ap (λ ys. g (f x) ∷ ys) (map_twice g f xs)

pub each : {A : Type 0} (P : A → Type 0) → ((x : A) → P x) → (xs : List A) → AllByRecursion P xs
each P every [] = tt
each P every (x ∷ xs) = (every x, each P every xs)

pub all_both : {A : Type 0} (P Q : A → Type 0) (xs : List A) → AllByRecursion P xs → AllByRecursion Q xs → AllByRecursion (λ x. P x × Q x) xs
all_both P Q [] ps qs = tt
all_both P Q (x ∷ xs) ps qs = ((ps.0, qs.0), all_both P Q xs ps.1 qs.1)

pub all_filter : {A : Type 0} (P : A → Type 0) (p : A → Bool) (xs : List A) → AllByRecursion P xs → AllByRecursion P (filter p xs)
all_filter P p [] all = tt
all_filter P p (x ∷ xs) all = by_test (p x) (all_filter P p xs all.1)
  where
    by_test : (b : Bool) → AllByRecursion P (filter p xs) → AllByRecursion P (cond b (x ∷ filter p xs) (filter p xs))
    by_test true rest = (all.0, rest)
    by_test false rest = rest

pub all_fewer : {A : Type 0} (P : A → Type 0) (n : ℕ) (xs : List A) → AllByRecursion P (take (suc n) xs) → AllByRecursion P (take n xs)
all_fewer P zero xs all = tt
all_fewer P (suc n) [] all = tt
all_fewer P (suc n) (x ∷ xs) all = (all.0, all_fewer P n xs all.1)

pub eqb_comm : (a b : ℕ) → (a == b) ≡ (b == a)
eqb_comm a b = by_test (a == b) (λ same. sym (eq-eqb b a (sym (eqb-true a b same)))) (λ other. sym (ne_eqb b a (λ is. eqb-false a b other (sym is))))
  where
    by_test : (c : Bool) → (c ≡ true → true ≡ (b == a)) → (c ≡ false → false ≡ (b == a)) → c ≡ (b == a)
    by_test true same other = same refl
    by_test false same other = other refl

pub all_append : {A : Type 0} (P : A → Type 0) (xs ys : List A) → AllByRecursion P xs → AllByRecursion P ys → AllByRecursion P (xs ++ ys)
all_append P [] ys front back = back
all_append P (x ∷ xs) ys front back = (front.0, all_append P xs ys front.1 back)
