-- Marks that are merged tell no later times.
use Rattle.std.proofs.Common.{◌≡◌, ℕ, ◌+◌, ◌<◌, ◌≤◌, length, take, Bool, true, false, List, [], ◌∷◌, ◌++◌, Option, Some, None, refl, sym, subst, arith}
use mathlib.Core.List.{append_assoc}
use lib.ListN.{get_or}
use Rattle.std.proofs.lemmas.List.{take_more}
use Rattle.std.specs.Prelude.{nat_lt, max, min, if◌then◌else◌}
use Rattle.std.proofs.lemmas.Bool.Decides.{nat_tests}
use Rattle.server_state.specs.LogTimes.{IsNoLater, TellNoLater, merged, past}
use Rattle.server_state.specs.declared.kept.log_times.LogTime.{LogTime}

abbrev pub first : Option ℕ → Option ℕ → Option ℕ
first None b = b
first (Some a) b = Some a

step : (is : Bool) (at : ℕ) (a b ab : Option ℕ) → ab ≡ first a b → (if is then Some at else ab) ≡ first (if is then Some at else a) b
step true at a b ab e = refl
step false at a b ab e = e

pub past_more : (p : ℕ) (xs ys : List LogTime) → past p (xs ++ ys) ≡ first (past p xs) (past p ys)
past_more p [] ys = refl
past_more p (m ∷ xs) ys = step (nat_lt p m.end) m.at (past p xs) (past p ys) (past p (xs ++ ys)) (past_more p xs ys)

no_later : (a : Option ℕ) → IsNoLater a a
no_later None = refl
no_later (Some a) = omega arith

no_later_then : (a b c : Option ℕ) → IsNoLater a b → IsNoLater b c → IsNoLater a c
no_later_then None b c e f = subst (λ x. IsNoLater x c) e f
no_later_then (Some a) None c e f = absurd e
no_later_then (Some a) (Some b) None e f = f
no_later_then (Some a) (Some b) (Some c) e f = omega (arith, e, f)

no_later_first : (a new b rest : Option ℕ) → IsNoLater a new → IsNoLater b rest → IsNoLater (first a b) (first new rest)
no_later_first None new b rest e f = subst (λ x. IsNoLater b (first x rest)) (sym e) f
no_later_first (Some a) None b rest e f = absurd e
no_later_first (Some a) (Some new) b rest e f = e

pub tell_same : (xs : List LogTime) → TellNoLater xs xs
tell_same xs p = no_later (past p xs)

pub tell_then : (xs ys zs : List LogTime) → TellNoLater xs ys → TellNoLater ys zs → TellNoLater xs zs
tell_then xs ys zs e f p = no_later_then (past p xs) (past p ys) (past p zs) (e p) (f p)

pub tell_more : (xs new ys rest : List LogTime) → TellNoLater xs new → TellNoLater ys rest → TellNoLater (xs ++ ys) (new ++ rest)
tell_more xs new ys rest e f p = rw (past_more p xs ys, past_more p new rest) (no_later_first (past p xs) (past p new) (past p ys) (past p rest) (e p) (f p))

by_tests : (inA inB inBoth : Bool) (a b least : ℕ) → (inA ≡ true → inBoth ≡ true) → (inB ≡ true → inBoth ≡ true) → (inA ≡ false → inB ≡ false → inBoth ≡ false) → least ≤ a → least ≤ b
    → IsNoLater (if inA then Some a else (if inB then Some b else None)) (if inBoth then Some least else None)
by_tests true inB inBoth a b least x y z e f = rw (x refl) e
by_tests false true inBoth a b least x y z e f = rw (y refl) f
by_tests false false inBoth a b least x y z e f = rw (z refl refl) refl

-- one mark for two
pub tell_merged : (a b : LogTime) → TellNoLater (a ∷ b ∷ []) (merged a b ∷ [])
tell_merged a b p =
    by_tests (nat_lt p a.end) (nat_lt p b.end) (nat_lt p (max a.end b.end)) a.at b.at (min a.at b.at) (in_a p a.end b.end) (in_b p a.end b.end) (in_none p a.end b.end) (omega arith) (omega arith)
  where
    in_a : (p a b : ℕ) → nat_lt p a ≡ true → nat_lt p (max a b) ≡ true
    in_a p a b is = grind (arith, nat_tests)

    in_b : (p a b : ℕ) → nat_lt p b ≡ true → nat_lt p (max a b) ≡ true
    in_b p a b is = grind (arith, nat_tests)

    in_none : (p a b : ℕ) → nat_lt p a ≡ false → nat_lt p b ≡ false → nat_lt p (max a b) ≡ false
    in_none p a b e f = grind (arith, nat_tests)

-- the last one of these, and one more
pub tell_merged_last : (rest : List LogTime) (a b : LogTime) → TellNoLater ((rest ++ a ∷ []) ++ b ∷ []) (rest ++ merged a b ∷ [])
tell_merged_last rest a b = rw (append_assoc rest (a ∷ []) (b ∷ [])) (tell_more rest rest (a ∷ b ∷ []) (merged a b ∷ []) (tell_same rest) (tell_merged a b))

-- one more of each
pub tell_one_more : (xs new : List LogTime) (m : LogTime) → TellNoLater xs new → TellNoLater (xs ++ m ∷ []) (new ++ m ∷ [])
tell_one_more xs new m e = tell_more xs new (m ∷ []) (m ∷ []) e (tell_same (m ∷ []))

pub tell_merged_more : (xs new : List LogTime) (a b : LogTime) → TellNoLater xs new → TellNoLater ((xs ++ a ∷ []) ++ b ∷ []) (new ++ merged a b ∷ [])
tell_merged_more xs new a b e = rw (append_assoc xs (a ∷ []) (b ∷ [])) (tell_more xs new (a ∷ b ∷ []) (merged a b ∷ []) e (tell_merged a b))

pub tell_next : (marks thinned new : List LogTime) (i : ℕ) (d : LogTime) → i < length marks → TellNoLater (take i marks) thinned → TellNoLater (thinned ++ get_or marks i d ∷ []) new → TellNoLater (take (i + 1) marks) new
tell_next marks thinned new i d inside before added = rw (take_more marks i d inside) (tell_then (take i marks ++ get_or marks i d ∷ []) (thinned ++ get_or marks i d ∷ []) new (tell_one_more (take i marks) thinned (get_or marks i d) before) added)
