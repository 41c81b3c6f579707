-- A reader's loop over a count: what was read before, and what is still read.
use Rattle.std.proofs.Common.{◌≡◌, ℕ, suc, ◌-◌, ◌+◌, ◌≤◌, ◌<◌, List, [], ◌∷◌, ◌++◌, Result, Ok, Err, refl, sym, ap, ◌∙◌, append_assoc, arith}
use Rattle.std.proofs.lemmas.List.{append-nil}
use Rattle.pqformat.specs.Steps.{◌>>=◌, repeat_at}

abbrev pub with_front : {A E : Type 0} → List A → Result (List A × List ℕ) E → Result (List A × List ℕ) E
with_front front read = read >>= λ x. Ok (front ++ x.0, x.1)

regroup : {A E : Type 0} (front : List A) (n : A) (read : Result (List A × List ℕ) E) → with_front front (read >>= λ x. Ok (n ∷ x.0, x.1)) ≡ with_front (front ++ n ∷ []) read
regroup {A} front n (Ok x) = ap (λ (ns : List A). Ok (ns, x.1)) (simp append_assoc)
regroup front n (Err f) = refl

pub goes_on : {A E : Type 0} (f : List ℕ → Result (A × List ℕ) E) (front : List A) (count i : ℕ) (bytes : List ℕ) (x : A) (after : List ℕ) (total : Result (List A × List ℕ) E)
    → i < count → f bytes ≡ Ok (x, after) → with_front front (repeat_at f (count - i) bytes) ≡ total → with_front (front ++ x ∷ []) (repeat_at f (count - (i + 1)) after) ≡ total
unfolding repeat_at
goes_on {A} {E} f front count i bytes x after total lt h so_far =
    let k : count - i ≡ suc (count - (i + 1)) = omega arith in
    let one : with_front front (repeat_at f (count - i) bytes) ≡ with_front (front ++ x ∷ []) (repeat_at f (count - (i + 1)) after) = rw (k, h) (regroup front x (repeat_at f (count - (i + 1)) after)) in
    sym one ∙ so_far

pub ends : {A E : Type 0} (d : E) (f : List ℕ → Result (A × List ℕ) E) (front : List A) (count i : ℕ) (bytes : List ℕ) (total : Result (List A × List ℕ) E)
    → i < count → f bytes ≡ Err d → with_front front (repeat_at f (count - i) bytes) ≡ total → total ≡ Err d
unfolding repeat_at
ends d f front count i bytes total lt h so_far =
    let k : count - i ≡ suc (count - (i + 1)) = omega arith in
    let one : with_front front (repeat_at f (count - i) bytes) ≡ Err d = rw (k, h) refl in
    sym so_far ∙ one

pub is_done : {A E : Type 0} (f : List ℕ → Result (A × List ℕ) E) (front : List A) (count i : ℕ) (bytes : List ℕ) (total : Result (List A × List ℕ) E)
    → count ≤ i → with_front front (repeat_at f (count - i) bytes) ≡ total → total ≡ Ok (front, bytes)
unfolding repeat_at
is_done {A} {E} f front count i bytes total le so_far =
    let k : count - i ≡ 0 = omega arith in
    let one : with_front front (repeat_at f (count - i) bytes) ≡ Ok (front, bytes) = rw k (ap (λ (xs : List A). Ok (xs, bytes)) (append-nil front)) in
    sym so_far ∙ one
