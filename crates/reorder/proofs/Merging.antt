-- Strands that are joined end to end and sorted by position are the changes in their order.
use Rattle.std.proofs.Common.{◌≡◌, ℕ, suc, ◌<◌, ◌≤◌, ◌==◌, Bool, true, false, cond, ◌&&◌, ◌||◌, not, List, [], ◌∷◌, ◌++◌, length, refl, sym, ap, subst, ◌∙◌, arith, eq-eqb, nat_cmp, is_lt}
use Rattle.std.specs.Prelude.{slice_index_or}
use Rattle.std.specs.List.{filter, flat_map, AllByRecursion}
use Rattle.std.specs.List.Sorted.{IsNonDecreasingBy, IsStableByKey, IsPermutation, ties}
use Rattle.std.proofs.lemmas.Bool.{eqb-true, eqb-false, ne_eqb}
use Rattle.std.proofs.lemmas.Bool.Decides.{nat_tests}
use Rattle.std.proofs.lemmas.List.Elements.{filter-append}
use Rattle.std.proofs.lemmas.List.Sorted.{IsPermutation-refl, IsPermutation-sym, IsPermutation-trans, IsPermutation-append_right, IsPermutation-filter_both}
use Rattle.wal.specs.Log.{Entry}
use Rattle.wal.proofs.Lists.{filter_agrees, all_agree, filter_twice}
use Rattle.wal.proofs.Laws.{all_when}
use Rattle.reorder.specs.Rising.{IsRising}
use Rattle.reorder.specs.Strands.{is_in, AreDistinct}

-- AT ONE POSITION

abbrev pub at_position : ℕ → Entry → Bool
at_position p e = p == e.position

tied : (a b : ℕ) → (not (is_lt (nat_cmp a b)) && not (is_lt (nat_cmp b a))) ≡ (a == b)
tied a b = grind (arith, nat_tests)

none_after : (p : ℕ) (r : Entry → Bool) (es : List Entry) → AllByRecursion (λ e. p < e.position) es → filter (at_position p) (filter r es) ≡ []
none_after p r [] all = refl
none_after p r (e ∷ es) all = by_test (r e) (none_after p r es all.1)
  where
    other : (p == e.position) ≡ false
    other = ne_eqb p e.position (λ same. let lt : p < e.position = all.0 in absurd (omega (arith, lt, same)))

    by_test : (b : Bool) → filter (at_position p) (filter r es) ≡ [] → filter (at_position p) (cond b (e ∷ filter r es) (filter r es)) ≡ []
    by_test true none = rw other none
    by_test false none = none

-- at a position, what passes either of two tests that exclude each other
either_at : (p : ℕ) (q r : Entry → Bool) → ((e : Entry) → q e ≡ true → r e ≡ false) → (es : List Entry) → IsRising es →
    filter (at_position p) (filter q es) ++ filter (at_position p) (filter r es) ≡ filter (at_position p) (filter (λ e. q e || r e) es)
either_at p q r apart [] rising = refl
either_at p q r apart (e ∷ es) rising = by_tests (p == e.position) (q e) (r e) refl refl refl (either_at p q r apart es rising.1)
  where
    later : (p == e.position) ≡ true → (s : Entry → Bool) → filter (at_position p) (filter s es) ≡ []
    later here s = none_after p s es (subst (λ (n : ℕ). AllByRecursion (λ f. n < f.position) es) (sym (eqb-true p e.position here)) rising.0)

    by_tests : (here b c : Bool) → (p == e.position) ≡ here → q e ≡ b → r e ≡ c →
        filter (at_position p) (filter q es) ++ filter (at_position p) (filter r es) ≡ filter (at_position p) (filter (λ f. q f || r f) es) →
        filter (at_position p) (cond b (e ∷ filter q es) (filter q es)) ++ filter (at_position p) (cond c (e ∷ filter r es) (filter r es))
        ≡ filter (at_position p) (cond (b || c) (e ∷ filter (λ f. q f || r f) es) (filter (λ f. q f || r f) es))
    by_tests here true true h is other again = let never : false ≡ true = sym (apart e is) ∙ other in cc
    by_tests true true false h is other again = rw (h, later h q, later h r, later h (λ f. q f || r f)) refl
    by_tests false true false h is other again = rw h again
    by_tests true false true h is other again = rw (h, later h q, later h r, later h (λ f. q f || r f)) refl
    by_tests false false true h is other again = rw h again
    by_tests here false false h is other again = again

none_in : (es : List Entry) → filter (λ e. false) es ≡ []
none_in [] = refl
none_in (e ∷ es) = none_in es

-- strands of different xids, joined, have at each position what stands there
joined_at : (p : ℕ) (es : List Entry) → IsRising es → (xs : List ℕ) → AreDistinct xs →
    filter (at_position p) (flat_map (λ x. filter (λ e. e.xid == x) es) xs) ≡ filter (at_position p) (filter (λ e. is_in e.xid xs) es)
joined_at p es rising [] distinct = rw (none_in es) refl
joined_at p es rising (x ∷ xs) distinct =
    filter-append (at_position p) (filter (λ e. e.xid == x) es) (flat_map (λ y. filter (λ e. e.xid == y) es) xs)
    ∙ ap (λ rest. filter (at_position p) (filter (λ e. e.xid == x) es) ++ rest) (joined_at p es rising xs distinct.1)
    ∙ either_at p (λ e. e.xid == x) (λ e. is_in e.xid xs) (λ e is. rw (eqb-true e.xid x is) distinct.0) es rising

-- IN ANY ORDER

-- strands of different xids, joined, are the changes of these xids in some order
pub permuted : (es : List Entry) (xs : List ℕ) → AreDistinct xs → IsPermutation (flat_map (λ x. filter (λ e. e.xid == x) es) xs) (filter (λ e. is_in e.xid xs) es)
permuted es [] distinct = subst (λ (fs : List Entry). IsPermutation [] fs) (sym (none_in es)) (IsPermutation-refl [])
permuted es (x ∷ xs) distinct =
    IsPermutation-trans _ _ _
    (IsPermutation-append_right (filter (λ e. e.xid == x) es) _ _ (permuted es xs distinct.1))
    (IsPermutation-sym _ _ (subst (λ (fs : List Entry). IsPermutation (filter either es) fs) both (IsPermutation-filter_both (λ e. e.xid == x) (λ e. not (e.xid == x)) (λ e. refl) (filter either es))))
  where
    either : Entry → Bool
    either e = (e.xid == x) || is_in e.xid xs

    here : (a b : Bool) → ((a || b) && a) ≡ a
    here true b = refl
    here false true = refl
    here false false = refl

    other : (e : Entry) → (b : Bool) → (e.xid == x) ≡ b → ((b || is_in e.xid xs) && not b) ≡ is_in e.xid xs
    other e true same = sym (ap (λ y. is_in y xs) (eqb-true e.xid x same) ∙ distinct.0)
    other e false apart = and_true (is_in e.xid xs)
      where
        and_true : (a : Bool) → (a && true) ≡ a
        and_true true = refl
        and_true false = refl

    both : filter (λ e. e.xid == x) (filter either es) ++ filter (λ e. not (e.xid == x)) (filter either es) ≡ filter (λ e. e.xid == x) es ++ filter (λ e. is_in e.xid xs) es
    both =
        ap (λ fs. fs ++ filter (λ e. not (e.xid == x)) (filter either es))
        (filter_twice (λ e. e.xid == x) either es ∙ filter_agrees _ _ es (all_agree _ _ (λ (e : Entry). here (e.xid == x) (is_in e.xid xs)) es))
        ∙ ap (λ fs. filter (λ e. e.xid == x) es ++ fs)
        (filter_twice (λ e. not (e.xid == x)) either es ∙ filter_agrees _ _ es (all_agree _ _ (λ (e : Entry). other e (e.xid == x) refl) es))

-- IN ORDER

-- none stands before one that it follows
abbrev pub IsNotFalling : List Entry → Type 0
IsNotFalling [] = Unit {0}
IsNotFalling (e ∷ es) = AllByRecursion (λ f. e.position ≤ f.position) es × IsNotFalling es

some_at : (p low : ℕ) (es : List Entry) (f : Entry) (fs : List Entry) → AllByRecursion (λ e. low ≤ e.position) es → filter (at_position p) es ≡ f ∷ fs → low ≤ p
some_at p low [] f fs all is = let never : [] ≡ f ∷ fs = is in cc
some_at p low (e ∷ es) f fs all is = by_test (p == e.position) refl is (some_at p low es f fs all.1)
  where
    by_test : (b : Bool) → (p == e.position) ≡ b → cond b (e ∷ filter (at_position p) es) (filter (at_position p) es) ≡ f ∷ fs →
        (filter (at_position p) es ≡ f ∷ fs → low ≤ p) → low ≤ p
    by_test true here is' later = let same : p ≡ e.position = eqb-true p e.position here in let le : low ≤ e.position = all.0 in omega (arith, same, le)
    by_test false here is' later = later is'

-- lists in order that have at each position the same are the same
same_in_order : (es fs : List Entry) → IsNotFalling es → IsNotFalling fs → ((d : Entry) → filter (at_position d.position) es ≡ filter (at_position d.position) fs) → es ≡ fs
same_in_order [] [] up up' at = refl
same_in_order [] (f ∷ fs) up up' at = let is : [] ≡ f ∷ filter (at_position f.position) fs = at f ∙ rw (eq-eqb f.position f.position refl) refl in cc
same_in_order (e ∷ es) [] up up' at = let is : e ∷ filter (at_position e.position) es ≡ [] = rw (eq-eqb e.position e.position refl) refl ∙ at e in cc
same_in_order (e ∷ es) (f ∷ fs) up up' at = by_test (e.position == f.position) refl (same_in_order es fs up.1 up'.1)
  where
    of_first : e ∷ filter (at_position e.position) es ≡ cond (e.position == f.position) (f ∷ filter (at_position e.position) fs) (filter (at_position e.position) fs)
    of_first = rw (eq-eqb e.position e.position refl) refl ∙ at e

    of_second : cond (f.position == e.position) (e ∷ filter (at_position f.position) es) (filter (at_position f.position) es) ≡ f ∷ filter (at_position f.position) fs
    of_second = at f ∙ rw (eq-eqb f.position f.position refl) refl

    tails : (c : Bool) (us vs : List Entry) → cond c (e ∷ us) us ≡ cond c (f ∷ vs) vs → us ≡ vs
    tails true us vs is = cc
    tails false us vs is = is

    by_test : (b : Bool) → (e.position == f.position) ≡ b →
        (((d : Entry) → filter (at_position d.position) es ≡ filter (at_position d.position) fs) → es ≡ fs) → e ∷ es ≡ f ∷ fs
    by_test true here more =
        let heads : e ∷ filter (at_position e.position) es ≡ f ∷ filter (at_position e.position) fs = of_first ∙ rw here refl in
        let first : e ≡ f = cc in
        let rest : es ≡ fs = more (λ d. tails (d.position == e.position) _ _ (at d ∙ ap (λ (n : ℕ). cond (d.position == n) (f ∷ filter (at_position d.position) fs) (filter (at_position d.position) fs)) (sym (eqb-true e.position f.position here)))) in
        cc
    by_test false apart more =
        let low : f.position ≤ e.position = some_at e.position f.position fs e (filter (at_position e.position) es) up'.0 (sym (of_first ∙ rw apart refl)) in
        let other : (f.position == e.position) ≡ false = ne_eqb f.position e.position (λ is. eqb-false e.position f.position apart (sym is)) in
        let high : e.position ≤ f.position = some_at f.position e.position es f (filter (at_position f.position) fs) up.0 (rw other at of_second) in
        absurd (eqb-false e.position f.position apart (omega (arith, low, high)))

all_from : (P : Entry → Type 0) (es : List Entry) → ((j : ℕ) (d : Entry) → j < length es → P (slice_index_or es j d)) → AllByRecursion P es
all_from P [] at = tt
all_from P (e ∷ es) at = (at 0 e (omega arith), all_from P es (λ j d lt. at (suc j) d (omega (arith, lt))))

not_falling : (es : List Entry) → IsNonDecreasingBy (λ (e : Entry). e.position) es → IsNotFalling es
not_falling [] up = tt
not_falling (e ∷ es) up = (
  all_from (λ f. e.position ≤ f.position) es (λ j d lt. up 0 (suc j) d (omega arith) (omega (arith, lt))),
  not_falling es (λ i j d le lt. up (suc i) (suc j) d (omega (arith, le)) (omega (arith, lt))),
)

filter_all : (P : Entry → Type 0) (p : Entry → Bool) (es : List Entry) → AllByRecursion P es → AllByRecursion P (filter p es)
filter_all P p [] all = tt
filter_all P p (e ∷ es) all = by_test (p e) (filter_all P p es all.1)
  where
    by_test : (b : Bool) → AllByRecursion P (filter p es) → AllByRecursion P (cond b (e ∷ filter p es) (filter p es))
    by_test true rest = (all.0, rest)
    by_test false rest = rest

rising_filter : (p : Entry → Bool) (es : List Entry) → IsRising es → IsNotFalling (filter p es)
rising_filter p [] up = tt
rising_filter p (e ∷ es) up =
    by_test (p e) (filter_all (λ f. e.position ≤ f.position) p es (all_when _ _ (λ (f : Entry) (lt : e.position < f.position). omega (arith, lt)) es up.0)) (rising_filter p es up.1)
  where
    by_test : (b : Bool) → AllByRecursion (λ f. e.position ≤ f.position) (filter p es) → IsNotFalling (filter p es) → IsNotFalling (cond b (e ∷ filter p es) (filter p es))
    by_test true all rest = (all, rest)
    by_test false all rest = rest

-- the strands of some xids, joined and then sorted by position, are the changes of these xids in their order
pub merged : (es : List Entry) → IsRising es → (xs : List ℕ) → AreDistinct xs → (sorted : List Entry) → IsNonDecreasingBy (λ (e : Entry). e.position) sorted →
    IsStableByKey (λ (e : Entry). e.position) nat_cmp (flat_map (λ x. filter (λ e. e.xid == x) es) xs) sorted → sorted ≡ filter (λ e. is_in e.xid xs) es
merged es rising xs distinct sorted up stable =
    same_in_order sorted (filter (λ e. is_in e.xid xs) es) (not_falling sorted up) (rising_filter (λ e. is_in e.xid xs) es rising)
    (λ d. sym (by_ties d sorted) ∙ stable d ∙ by_ties d (flat_map (λ x. filter (λ e. e.xid == x) es) xs) ∙ joined_at d.position es rising xs distinct)
  where
    by_ties : (d : Entry) (fs : List Entry) → filter (ties (λ (x y : Entry). is_lt (nat_cmp x.position y.position)) d) fs ≡ filter (at_position d.position) fs
    by_ties d fs = filter_agrees _ _ fs (all_agree _ _ (λ (e : Entry). tied d.position e.position) fs)
