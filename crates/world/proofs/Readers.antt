-- Each reader serves an open start or none.
use Rattle.std.proofs.Common.{◌≡◌, ◌+◌, ◌≤◌, ℕ, zero, suc, Bool, true, false, cond, List, [], ◌∷◌, ◌++◌, Some, refl, ap, sym, ◌∙◌, arith, reverse}
use Rattle.std.specs.Prelude.{slice_get, slice_set}
use Rattle.std.proofs.lemmas.List.{reverse-append}
use Rattle.world.specs.Start.{StartState, running_count}
use Rattle.world.proofs.Inside.{same_inside}

-- one start in the place of another
pub running_with : (starts : List StartState) (k : ℕ) (s new : StartState) → slice_get starts k ≡ Some s → running_count (slice_set starts k new) + running_count (s ∷ []) ≡ running_count starts + running_count (new ∷ [])
running_with [] k s new there = absurd cc
running_with (t ∷ starts) zero s new there =
    let here : t ≡ s = same_inside t s there in
    rw here (by_tests s.is_open new.is_open)
  where
    by_tests : (b c : Bool) → cond c (running_count starts + 1) (running_count starts) + cond b 1 0 ≡ cond b (running_count starts + 1) (running_count starts) + cond c 1 0
    by_tests true true = refl
    by_tests true false = omega arith
    by_tests false true = omega arith
    by_tests false false = refl
running_with (t ∷ starts) (suc k) s new there = by_test t.is_open (running_with starts k s new there)
  where
    by_test : (b : Bool) → running_count (slice_set starts k new) + running_count (s ∷ []) ≡ running_count starts + running_count (new ∷ [])
        → cond b (running_count (slice_set starts k new) + 1) (running_count (slice_set starts k new)) + running_count (s ∷ []) ≡ cond b (running_count starts + 1) (running_count starts) + running_count (new ∷ [])
    by_test true later = omega (arith, later)
    by_test false later = later

-- one start more
pub running_more : (starts : List StartState) (s : StartState) → s.is_open ≡ true → running_count (starts ++ s ∷ []) ≡ running_count starts + 1
running_more [] s is = rw is refl
running_more (t ∷ starts) s is = by_test t.is_open (running_more starts s is)
  where
    by_test : (b : Bool) → running_count (starts ++ s ∷ []) ≡ running_count starts + 1 → cond b (running_count (starts ++ s ∷ []) + 1) (running_count (starts ++ s ∷ [])) ≡ cond b (running_count starts + 1) (running_count starts) + 1
    by_test true later = ap (λ (n : ℕ). n + 1) later
    by_test false later = later

-- an open start runs
pub one_runs : (starts : List StartState) (k : ℕ) (s : StartState) → slice_get starts k ≡ Some s → s.is_open ≡ true → 1 ≤ running_count starts
one_runs [] k s there is = absurd cc
one_runs (t ∷ starts) zero s there is =
    let here : t.is_open ≡ true = ap (λ (x : StartState). x.is_open) (same_inside t s there) ∙ is in
    rw here (omega arith)
one_runs (t ∷ starts) (suc k) s there is = by_test t.is_open (one_runs starts k s there is)
  where
    by_test : (b : Bool) → 1 ≤ running_count starts → 1 ≤ cond b (running_count starts + 1) (running_count starts)
    by_test true later = omega arith
    by_test false later = later

-- the last of a list is one
pub last_is : {A : Type 0} (xs ys : List A) (x y : A) → xs ++ x ∷ [] ≡ ys ++ y ∷ [] → x ≡ y
last_is xs ys x y same =
    let turned : x ∷ reverse xs ≡ y ∷ reverse ys = sym (reverse-append xs (x ∷ [])) ∙ ap reverse same ∙ reverse-append ys (y ∷ []) in
    cc turned
