-- The spelling of a list that a zero byte ends.
use Rattle.std.proofs.Common.{◌≡◌, ℕ, zero, suc, ◌<◌, ◌≤◌, true, List, [], ◌∷◌, ◌++◌, length, Option, Some, None, Result, Ok, refl, sym, ap, subst, ◌∙◌, append_assoc, arith}
use Rattle.std.specs.List.{flat_map, AllByRecursion}
use Rattle.std.proofs.lemmas.List.{length-append}
use Rattle.std.proofs.lemmas.List.Concat.{flat_map-cons}
use Rattle.pqformat.specs.Steps.{◌>>=◌, next_at, go_on, until_at, closed_list}
use Rattle.frames.specs.Body.{starts}
use Rattle.pqformat.proofs.Codec.{IsBytes, IsBytes-rest, Takes, Takes-then, Codec, bind_ok, ok_is}
use Rattle.frames.proofs.Cases.{Body}
use Rattle.frames.proofs.ListSteps.{Reader, next_again, next_none, next_some}

begins_as : (text rest : List ℕ) → 0 < length text → starts (text ++ rest) ≡ true → starts text ≡ true
begins_as [] rest long is = absurd (omega arith)
begins_as (b ∷ text) rest long is = is

abbrev pub Starting : {A : Type 0} → (A → Type 0) → (A → List ℕ) → A → Type 0
Starting Fits text x = Fits x × (starts (text x) ≡ true)

until_takes : {A : Type 0} {f : Reader A} {text : A → List ℕ} {Fits : A → Type 0} (c : Codec f text Fits) → ((x : A) → 0 < length (text x)) → (n : ℕ) (bytes : List ℕ) (xs : List A) (rest : List ℕ)
    → IsBytes bytes → until_at tt f n bytes ≡ Ok (xs, rest) → Takes bytes (closed_list text xs) rest × AllByRecursion (Starting Fits text) xs
unfolding until_at
until_takes c long zero bytes xs rest fits e = absurd cc
until_takes {A} {f} {text} {Fits} c long (suc n) bytes xs rest fits e =
    let a = bind_ok (next_at tt f bytes) (λ x. go_on x.0 x.1 (until_at tt f n x.1)) (xs, rest) e in
    by_next a.0.0 a.0.1 a.1 (λ ys after is_bytes. until_takes c long n a.0.1 ys after is_bytes) a.2
  where
    Taken : List A × List ℕ → Type 0
    Taken y = Takes bytes (closed_list text y.0) y.1 × AllByRecursion (Starting Fits text) y.0

    by_next : (o : Option A) (after : List ℕ) → next_at tt f bytes ≡ Ok (o, after)
        → ((ys : List A) (rest : List ℕ) → IsBytes after → until_at tt f n after ≡ Ok (ys, rest) → Takes after (closed_list text ys) rest × AllByRecursion (Starting Fits text) ys)
        → go_on o after (until_at tt f n after) ≡ Ok (xs, rest) → Taken (xs, rest)
    by_next None after next inner e =
        let read : List A × List ℕ = ([], after) in
        let there : bytes ≡ 0 ∷ after = next_none f bytes after next in
        let P : List ℕ → Type 0 = λ l. IsBytes l in
        subst Taken (ok_is (Unit {0}) read (xs, rest) e) (record { parts = there; rest_fits = IsBytes-rest 0 after (subst P there fits) }, tt)
    by_next (Some x) after next inner e =
        let b = bind_ok (until_at tt f n after) (λ y. Ok (x ∷ y.0, y.1)) (xs, rest) e in
        let made : List A × List ℕ = (x ∷ b.0.0, b.0.1) in
        let found = next_some f bytes x after next in
        let t = c.takes bytes x after fits found.0 in
        let u = inner b.0.0 b.0.1 t.0.rest_fits b.1 in
        let S : List ℕ → Type 0 = λ l. starts l ≡ true in
        let first : starts (text x) ≡ true = begins_as (text x) after (long x) (subst S t.0.parts found.1) in
        let both = Takes-then bytes (text x) after (closed_list text b.0.0) b.0.1 t.0 u.0 in
        let regrouped : text x ++ (flat_map text b.0.0 ++ 0 ∷ []) ≡ flat_map text (x ∷ b.0.0) ++ 0 ∷ [] = sym (append_assoc (text x) (flat_map text b.0.0) (0 ∷ [])) ∙ ap (λ (l : List ℕ). l ++ 0 ∷ []) (sym (flat_map-cons text x b.0.0)) in
        let Q : List ℕ → Type 0 = λ l. Takes bytes l b.0.1 in
        subst Taken (ok_is (Unit {0}) made (xs, rest) b.2) (subst Q regrouped both, ((t.1, first), u.1))

until_again : {A : Type 0} {f : Reader A} {text : A → List ℕ} {Fits : A → Type 0} (c : Codec f text Fits) (n : ℕ) (xs : List A) (rest : List ℕ)
    → length xs < n → AllByRecursion (Starting Fits text) xs → until_at tt f n (flat_map text xs ++ 0 ∷ rest) ≡ Ok (xs, rest)
unfolding until_at next_at
until_again c zero xs rest less fits = absurd (omega arith)
until_again c (suc n) [] rest less fits = refl
until_again {A} {f} {text} {Fits} c (suc n) (x ∷ xs) rest less fits =
    let regrouped : flat_map text (x ∷ xs) ++ 0 ∷ rest ≡ text x ++ (flat_map text xs ++ 0 ∷ rest) = ap (λ (l : List ℕ). l ++ 0 ∷ rest) (flat_map-cons text x xs) ∙ append_assoc (text x) (flat_map text xs) (0 ∷ rest) in
    let first = next_again f x (text x) (flat_map text xs ++ 0 ∷ rest) fits.0.1 (c.again x (flat_map text xs ++ 0 ∷ rest) fits.0.0) in
    let others = until_again c n xs rest (omega arith) fits.1 in
    ap (until_at tt f (suc n)) regrouped ∙ ap (λ (r : Result (Option A × List ℕ) (Unit {0})). r >>= λ y. go_on y.0 y.1 (until_at tt f n y.1)) first ∙ ap (λ (r : Result (List A × List ℕ) (Unit {0})). r >>= λ y. Ok (x ∷ y.0, y.1)) others

as_many : {A : Type 0} (text : A → List ℕ) → ((x : A) → 0 < length (text x)) → (xs : List A) → length xs ≤ length (flat_map text xs)
as_many text long [] = omega arith
as_many text long (x ∷ xs) = omega (arith, long x, as_many text long xs, length-append (text x) (flat_map text xs), ap length (flat_map-cons text x xs))

pub until_body : {A : Type 0} {f : Reader A} {text : A → List ℕ} {Fits : A → Type 0} → Codec f text Fits → ((x : A) → 0 < length (text x))
    → Body (λ body. until_at tt f (length body) body) (closed_list text) (AllByRecursion (Starting Fits text))
until_body {A} {f} {text} {Fits} c long = record {
  takes = λ bytes xs rest fits e. until_takes c long (length bytes) bytes xs rest fits e;
  again = λ xs fits. until_again c (length (closed_list text xs)) xs [] (omega (arith, as_many text long xs, length-append (flat_map text xs) (0 ∷ []))) fits;
}
