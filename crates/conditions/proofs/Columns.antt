-- The columns that are gathered are those that the condition names, each once.
use Rattle.std.proofs.Common.{subst, ◌≡◌, ℕ, ◌+◌, ◌==◌, Bool, true, false, ◌||◌, cond, T, if◌then◌else◌, List, [], ◌∷◌, ◌++◌, refl, sym, ◌∙◌, ap, nat_lt, arith}
use Rattle.std.proofs.lemmas.Bool.{eqb-true, lt-ltb}
use Rattle.std.proofs.lemmas.List.Sums.{sum_by-append}
use Rattle.std.proofs.Math.Bool.{or_assoc}
use Rattle.std.specs.Prelude.{count_by}
use Rattle.std.specs.List.{list_any}
use Rattle.conditions.specs.Conditions.{Condition, Column, Literal, Compare, Is, Not, And, Or, names, AreNamed}
use Rattle.conditions.specs.Shapes.{with_places_of}

-- how often a place stands in the list
abbrev pub times : List ℕ → ℕ → ℕ
times places place = count_by (λ p. p == place) places

abbrev pub once : Bool → ℕ
once b = if b then 1 else 0

-- each place that the test holds of stands there once, and no other
abbrev pub Holds : List ℕ → (ℕ → Bool) → Type 0
Holds places is_there = (place : ℕ) → times places place ≡ once (is_there place)

without_zero : (a b c : ℕ) → a ≡ 0 + b + c → a ≡ b + c
without_zero a b c e = omega (arith, e)

after_zero : (a b c : ℕ) → a ≡ b + (0 + c) → a ≡ b + c
after_zero a b c e = omega (arith, e)

times_of : (xs : List ℕ) (x place : ℕ) → times (x ∷ xs) place ≡ cond (x == place) 1 0 + times xs place
times_of xs x place = without_zero (times (x ∷ xs) place) (cond (x == place) 1 0) (times xs place) (sum_by-append (λ p. cond (p == place) 1 0) (x ∷ []) xs)

plus_zero : (n : ℕ) → n ≡ 0 + n
plus_zero n = omega arith

counted : (n : ℕ) (b c : Bool) → c ≡ nat_lt 0 n → (b || c) ≡ nat_lt 0 (cond b 1 0 + n)
counted n true c e = sym (lt-ltb 0 (1 + n) (omega arith))
counted n false c e = e ∙ ap (nat_lt 0) (plus_zero n)

any_is_counted : (xs : List ℕ) (place : ℕ) → list_any (λ p. p == place) xs ≡ nat_lt 0 (times xs place)
any_is_counted [] place = refl
any_is_counted (x ∷ xs) place = rw (times_of xs x place) (counted (times xs place) (x == place) (list_any (λ p. p == place) xs) (any_is_counted xs place))

is_there_once : (b : Bool) → nat_lt 0 (once b) ≡ b
is_there_once true = refl
is_there_once false = refl

-- whether a place stands in the list
stands : (xs : List ℕ) (f : ℕ → Bool) → Holds xs f → (place : ℕ) → list_any (λ p. p == place) xs ≡ f place
stands xs f holds place = any_is_counted xs place ∙ ap (nat_lt 0) (holds place) ∙ is_there_once (f place)

or_false : (b : Bool) → (b || false) ≡ b
or_false true = refl
or_false false = refl

both_there : (a b : Bool) → (b ≡ true → a ≡ true) → a ≡ (a || b)
both_there true b h = refl
both_there false true h = h refl
both_there false false h = refl

one_more : (a b : Bool) → (b ≡ true → a ≡ false) → once a + cond b 1 0 ≡ once (a || b)
one_more true true h = absurd (subst T (h refl) tt)
one_more true false h = refl
one_more false true h = refl
one_more false false h = refl

-- the list with one place more
added : (f : ℕ → Bool) (xs : List ℕ) → Holds xs f → (place other : ℕ) (there : Bool) → there ≡ f place
    → times (if there then xs else xs ++ place ∷ []) other ≡ once (f other || (place == other))
added f xs holds place other true t =
    holds other ∙ ap once (both_there (f other) (place == other) (λ e. ap f (sym (eqb-true place other e)) ∙ sym t))
added f xs holds place other false t =
    after_zero (times (xs ++ place ∷ []) other) (times xs other) (cond (place == other) 1 0) (sum_by-append (λ p. cond (p == other) 1 0) xs (place ∷ [])) ∙ ap (λ n. n + cond (place == other) 1 0) (holds other)
    ∙ one_more (f other) (place == other) (λ e. ap f (sym (eqb-true place other e)) ∙ sym t)

pub gathered_names : (condition : Condition) (xs : List ℕ) (f : ℕ → Bool) → Holds xs f → Holds (with_places_of condition xs) (λ place. f place || names condition place)
gathered_names (Column place) xs f holds other = added f xs holds place other (list_any (λ p. p == place) xs) (stands xs f holds place)
gathered_names (Literal value) xs f holds other = holds other ∙ ap once (sym (or_false (f other)))
gathered_names (Compare how a b) xs f holds other =
    gathered_names b (with_places_of a xs) (λ p. f p || names a p) (gathered_names a xs f holds) other ∙ ap once (or_assoc (f other) (names a other) (names b other))
gathered_names (Is question negated a) xs f holds other = gathered_names a xs f holds other
gathered_names (Not a) xs f holds other = gathered_names a xs f holds other
gathered_names (And a b) xs f holds other =
    gathered_names b (with_places_of a xs) (λ p. f p || names a p) (gathered_names a xs f holds) other ∙ ap once (or_assoc (f other) (names a other) (names b other))
gathered_names (Or a b) xs f holds other =
    gathered_names b (with_places_of a xs) (λ p. f p || names a p) (gathered_names a xs f holds) other ∙ ap once (or_assoc (f other) (names a other) (names b other))

pub are_named : (condition : Condition) (places : List ℕ) → places ≡ with_places_of condition [] → AreNamed condition places
are_named condition places is place = ap (λ xs. times xs place) is ∙ gathered_names condition [] (λ _. false) (λ _. refl) place
