-- The loops that pass over a list: how many items there are, and whether all their texts are right.
use Rattle.std.proofs.Common.{◌≡◌, ℕ, suc, ◌+◌, ◌-◌, ◌<◌, ◌≤◌, Bool, true, false, List, ◌∷◌, length, Option, Some, None, Result, Ok, Err, refl, sym, ap, ◌∙◌, arith}
use Rattle.std.specs.Prelude.{◌&&◌, is_none}
use Rattle.std.specs.List.{list_all}
use Rattle.pqformat.specs.Steps.{◌>>=◌, repeat_at, next_at, go_on, until_at}
use Rattle.frames.specs.Body.{passed_part}
use Rattle.frames.specs.declared.fault.FrameFault.{FrameFault}
use Rattle.frames.specs.declared.fault.FrameFault.TheVariants.{BadBody}
use Rattle.frames.proofs.ListSteps.{Reader, same_pair}

-- ---- how many there are

abbrev pub counted_on : {A : Type 0} → ℕ → Result (List A × List ℕ) (Unit {0}) → Result (ℕ × List ℕ) FrameFault
counted_on i read = passed_part (λ xs. i + length xs) read

one_less : (limit i : ℕ) → i < limit → limit - i ≡ suc (limit - (i + 1))
one_less limit i lt = omega arith

never : false ≡ true → ⊥
never e = absurd cc

pub stops : {A : Type 0} (f : Reader A) (limit i : ℕ) (bytes rest : List ℕ) (total : Result (ℕ × List ℕ) FrameFault) → i < limit → passed_part is_none (next_at tt f bytes) ≡ Ok (true, rest)
    → counted_on i (until_at tt f (limit - i) bytes) ≡ total → total ≡ Ok (i, rest)
unfolding until_at
stops {A} f limit i bytes rest total lt over so_far =
    let k = one_less limit i lt in
    let one : counted_on i (until_at tt f (limit - i) bytes) ≡ Ok (i, rest) = rw k (by_next (next_at tt f bytes) over) in
    sym so_far ∙ one
  where
    by_next : (r : Result (Option A × List ℕ) (Unit {0})) → passed_part is_none r ≡ Ok (true, rest) → counted_on i (r >>= λ x. go_on x.0 x.1 (until_at tt f (limit - (i + 1)) x.1)) ≡ Ok (i, rest)
    by_next (Ok (None, tail)) is =
        let same : tail ≡ rest = (same_pair true true tail rest is).1 in
        let n : i + 0 ≡ i = omega arith in
        rw (same, n) refl
    by_next (Ok (Some x, tail)) is = absurd (never (same_pair false true tail rest is).0)
    by_next (Err u) is = absurd cc

pub goes_on : {A : Type 0} (f : Reader A) (limit i : ℕ) (bytes rest : List ℕ) (total : Result (ℕ × List ℕ) FrameFault) → i < limit → passed_part is_none (next_at tt f bytes) ≡ Ok (false, rest)
    → counted_on i (until_at tt f (limit - i) bytes) ≡ total → counted_on (i + 1) (until_at tt f (limit - (i + 1)) rest) ≡ total
unfolding until_at
goes_on {A} f limit i bytes rest total lt more so_far =
    let k = one_less limit i lt in
    let one : counted_on i (until_at tt f (limit - i) bytes) ≡ counted_on (i + 1) (until_at tt f (limit - (i + 1)) rest) = rw k (by_next (next_at tt f bytes) more) in
    sym one ∙ so_far
  where
    longer : (x : A) (r : Result (List A × List ℕ) (Unit {0})) → counted_on i (r >>= λ y. Ok (x ∷ y.0, y.1)) ≡ counted_on (i + 1) r
    longer x (Ok y) =
        let n : i + suc (length y.0) ≡ i + 1 + length y.0 = omega arith in
        rw n refl
    longer x (Err u) = refl

    by_next : (r : Result (Option A × List ℕ) (Unit {0})) → passed_part is_none r ≡ Ok (false, rest)
        → counted_on i (r >>= λ x. go_on x.0 x.1 (until_at tt f (limit - (i + 1)) x.1)) ≡ counted_on (i + 1) (until_at tt f (limit - (i + 1)) rest)
    by_next (Ok (None, tail)) is = absurd (never (sym (same_pair true false tail rest is).0))
    by_next (Ok (Some x, tail)) is =
        let same : tail ≡ rest = (same_pair false false tail rest is).1 in
        rw same (longer x (until_at tt f (limit - (i + 1)) rest))
    by_next (Err u) is = absurd cc

pub fails : {A : Type 0} (d : FrameFault) (f : Reader A) (limit i : ℕ) (bytes : List ℕ) (total : Result (ℕ × List ℕ) FrameFault) → i < limit → passed_part is_none (next_at tt f bytes) ≡ Err d
    → counted_on i (until_at tt f (limit - i) bytes) ≡ total → total ≡ Err d
unfolding until_at
fails {A} d f limit i bytes total lt failed so_far =
    let k = one_less limit i lt in
    let one : counted_on i (until_at tt f (limit - i) bytes) ≡ Err d = rw k (by_next (next_at tt f bytes) failed) in
    sym so_far ∙ one
  where
    by_next : (r : Result (Option A × List ℕ) (Unit {0})) → passed_part is_none r ≡ Err d → counted_on i (r >>= λ x. go_on x.0 x.1 (until_at tt f (limit - (i + 1)) x.1)) ≡ Err d
    by_next (Ok x) is = absurd cc
    by_next (Err u) is = cc

pub runs_out : {A : Type 0} (f : Reader A) (limit i : ℕ) (bytes : List ℕ) (total : Result (ℕ × List ℕ) FrameFault) → limit ≤ i
    → counted_on i (until_at tt f (limit - i) bytes) ≡ total → total ≡ Err BadBody
unfolding until_at
runs_out f limit i bytes total le so_far =
    let k : limit - i ≡ 0 = omega arith in
    let one : counted_on i (until_at tt f (limit - i) bytes) ≡ Err BadBody = rw k refl in
    sym so_far ∙ one

-- ---- one more passed over

-- so far t, and then whether all the others' texts are right
abbrev pub judged_on : {A : Type 0} → (A → Bool) → Bool → Result (List A × List ℕ) (Unit {0}) → Result (Bool × List ℕ) FrameFault
judged_on is_text t read = passed_part (λ xs. t && list_all is_text xs) read

pub passes_on : {A : Type 0} (is_text : A → Bool) (f : Reader A) (t u : Bool) (count i : ℕ) (bytes rest : List ℕ) (total : Result (Bool × List ℕ) FrameFault) → i < count → passed_part is_text (f bytes) ≡ Ok (u, rest)
    → judged_on is_text t (repeat_at f (count - i) bytes) ≡ total → judged_on is_text (t && u) (repeat_at f (count - (i + 1)) rest) ≡ total
unfolding repeat_at
passes_on {A} is_text f t u count i bytes rest total lt over so_far =
    let k = one_less count i lt in
    let one : judged_on is_text t (repeat_at f (count - i) bytes) ≡ judged_on is_text (t && u) (repeat_at f (count - (i + 1)) rest) = rw k (by_first (f bytes) over) in
    sym one ∙ so_far
  where
    regrouped : (t u v : Bool) → (t && (u && v)) ≡ ((t && u) && v)
    regrouped true u v = refl
    regrouped false u v = refl

    longer : (x : A) (r : Result (List A × List ℕ) (Unit {0})) → judged_on is_text t (r >>= λ others. Ok (x ∷ others.0, others.1)) ≡ judged_on is_text (t && is_text x) r
    longer x (Ok y) = ap (λ (b : Bool). Ok (b, y.1)) (regrouped t (is_text x) (list_all is_text y.0))
    longer x (Err u) = refl

    by_first : (r : Result (A × List ℕ) (Unit {0})) → passed_part is_text r ≡ Ok (u, rest)
        → judged_on is_text t (r >>= λ first. repeat_at f (count - (i + 1)) first.1 >>= λ others. Ok (first.0 ∷ others.0, others.1)) ≡ judged_on is_text (t && u) (repeat_at f (count - (i + 1)) rest)
    by_first (Ok (x, tail)) is =
        let same = same_pair (is_text x) u tail rest is in
        rw (← same.0, same.1) (longer x (repeat_at f (count - (i + 1)) rest))
    by_first (Err e) is = absurd cc

pub passing_fails : {A : Type 0} (is_text : A → Bool) (d : FrameFault) (f : Reader A) (t : Bool) (count i : ℕ) (bytes : List ℕ) (total : Result (Bool × List ℕ) FrameFault) → i < count → passed_part is_text (f bytes) ≡ Err d
    → judged_on is_text t (repeat_at f (count - i) bytes) ≡ total → total ≡ Err d
unfolding repeat_at
passing_fails {A} is_text d f t count i bytes total lt failed so_far =
    let k = one_less count i lt in
    let one : judged_on is_text t (repeat_at f (count - i) bytes) ≡ Err d = rw k (by_first (f bytes) failed) in
    sym so_far ∙ one
  where
    by_first : (r : Result (A × List ℕ) (Unit {0})) → passed_part is_text r ≡ Err d
        → judged_on is_text t (r >>= λ first. repeat_at f (count - (i + 1)) first.1 >>= λ others. Ok (first.0 ∷ others.0, others.1)) ≡ Err d
    by_first (Ok x) is = absurd cc
    by_first (Err u) is = cc

pub all_passed : {A : Type 0} (is_text : A → Bool) (f : Reader A) (t : Bool) (count i : ℕ) (bytes : List ℕ) (total : Result (Bool × List ℕ) FrameFault) → count ≤ i
    → judged_on is_text t (repeat_at f (count - i) bytes) ≡ total → total ≡ Ok (t, bytes)
unfolding repeat_at
all_passed is_text f t count i bytes total le so_far =
    let k : count - i ≡ 0 = omega arith in
    let one : judged_on is_text t (repeat_at f (count - i) bytes) ≡ Ok (t, bytes) = rw k (ap (λ (b : Bool). Ok (b, bytes)) (alone t)) in
    sym so_far ∙ one
  where
    alone : (t : Bool) → (t && true) ≡ t
    alone true = refl
    alone false = refl
