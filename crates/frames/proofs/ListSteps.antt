-- One step of a list up to a zero byte: one more is read there, or its end.
use Rattle.std.proofs.Common.{◌≡◌, ℕ, Bool, true, false, cond, eqb, List, [], ◌∷◌, ◌++◌, Option, Some, None, Result, Ok, Err, refl, sym, ap}
use Rattle.std.specs.Prelude.{not}
use Rattle.std.proofs.lemmas.Bool.{eqb-true}
use Rattle.pqformat.specs.Steps.{◌>>=◌, next_at}
use Rattle.frames.specs.Body.{starts}
use Rattle.pqformat.proofs.Codec.{ok_is, some_is, done}

abbrev pub Reader : Type 0 → Type 0
Reader A = List ℕ → Result (A × List ℕ) (Unit {0})

abbrev pub pair : {A B : Type 0} → A → B → A × B
pair a b = (a, b)

-- two answers that are one
pub same_pair : {A B E : Type 0} (a c : A) (b d : B) → done E (pair a b) ≡ done E (pair c d) → (a ≡ c) × (b ≡ d)
same_pair {A} {B} {E} a c b d e =
    let same = ok_is E (pair a b) (pair c d) e in
    (ap (λ (p : A × B). p.0) same, ap (λ (p : A × B). p.1) same)

abbrev none : (A : Type 0) → Option A
none A = None

none_is_some : {A : Type 0} (x : A) → none A ≡ Some x → ⊥
none_is_some x e = absurd cc

pub next_none : {A : Type 0} (f : Reader A) (bytes rest : List ℕ) → next_at tt f bytes ≡ Ok (None, rest) → bytes ≡ 0 ∷ rest
unfolding next_at
next_none f [] rest e = absurd cc
next_none {A} f (b ∷ bytes) rest e = by_test (eqb b 0) (λ is. eqb-true b 0 is) (f (b ∷ bytes)) e
  where
    answer : Option A × List ℕ
    answer = (None, rest)

    by_test : (t : Bool) → (t ≡ true → b ≡ 0) → (r : Result (A × List ℕ) (Unit {0})) → cond t (Ok (None, bytes)) (r >>= λ x. Ok (Some x.0, x.1)) ≡ done (Unit {0}) answer → b ∷ bytes ≡ 0 ∷ rest
    by_test true is r e =
        let same : bytes ≡ rest = (same_pair (none A) None bytes rest e).1 in
        let zero_is : b ≡ 0 = is refl in
        rw (zero_is, same) refl
    by_test false is (Ok x) e = absurd (none_is_some x.0 (sym (same_pair (Some x.0) None x.1 rest e).0))
    by_test false is (Err u) e = absurd cc

pub next_some : {A : Type 0} (f : Reader A) (bytes : List ℕ) (x : A) (rest : List ℕ) → next_at tt f bytes ≡ Ok (Some x, rest) → (f bytes ≡ Ok (x, rest)) × (starts bytes ≡ true)
unfolding next_at
next_some f [] x rest e = absurd cc
next_some {A} f (b ∷ bytes) x rest e = by_test (eqb b 0) (f (b ∷ bytes)) e
  where
    answer : Option A × List ℕ
    answer = (Some x, rest)

    by_test : (t : Bool) → (r : Result (A × List ℕ) (Unit {0})) → cond t (Ok (None, bytes)) (r >>= λ x. Ok (Some x.0, x.1)) ≡ done (Unit {0}) answer → (r ≡ Ok (x, rest)) × (not t ≡ true)
    by_test true r e = absurd (none_is_some x (same_pair None (Some x) bytes rest e).0)
    by_test false (Ok y) e =
        let same = same_pair (Some y.0) (Some x) y.1 rest e in
        let value : y.0 ≡ x = some_is y.0 x same.0 in
        let tail : y.1 ≡ rest = same.1 in
        (rw (← value, ← tail) refl, refl)
    by_test false (Err u) e = absurd cc

pub next_again : {A : Type 0} (f : Reader A) (x : A) (text rest : List ℕ) → starts text ≡ true → f (text ++ rest) ≡ Ok (x, rest) → next_at tt f (text ++ rest) ≡ Ok (Some x, rest)
unfolding next_at
next_again f x [] rest begins read = absurd cc
next_again {A} f x (b ∷ text) rest begins read = by_test (eqb b 0) begins (f (b ∷ (text ++ rest))) read
  where
    by_test : (t : Bool) → not t ≡ true → (r : Result (A × List ℕ) (Unit {0})) → r ≡ Ok (x, rest) → cond t (Ok (pair (none A) (text ++ rest))) (r >>= λ x. Ok (Some x.0, x.1)) ≡ Ok (pair (Some x) rest)
    by_test true begins r read = absurd cc
    by_test false begins r read = rw read refl
