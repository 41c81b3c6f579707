-- The live transactions as a list: one found, changed or taken out by its xid.
use Rattle.std.proofs.Common.{◌≡◌, ℕ, zero, suc, ◌+◌, ◌-◌, ◌<◌, ◌==◌, Bool, true, false, cond, ◌||◌, not, List, [], ◌∷◌, ◌++◌, length, take, get_or, set, Some, None, refl, sym, ap, subst, ◌∙◌, arith}
use Rattle.std.specs.List.{position, position_from, AllByRecursion}
use Rattle.std.proofs.lemmas.Iterator.Adapters.{position_from-zero}
use Rattle.std.proofs.lemmas.List.Quantifiers.{position-Some}
use Rattle.std.proofs.Math.Seq.{take-append_seam}
use Rattle.std.proofs.lemmas.Bool.{eqb-true, ne_eqb}
use Rattle.txlog.specs.declared.transactions.savepoint.Savepoint.{Savepoint}
use Rattle.wal.specs.Log.{last_of}
use Rattle.wal.proofs.Lists.{all_append}
use Rattle.txlog.specs.Publishing.{LiveTransaction, xids, is_live, savepoints_of, with_savepoints, without}
use Rattle.txlog.specs.Invariants.{IsRising}

-- what holds of each transaction holds of the one of this xid
pub found : (P : LiveTransaction → Type 0) (xid : ℕ) (live : List LiveTransaction) → is_live xid live ≡ true → AllByRecursion P live →
    P (record { xid = xid; savepoints = savepoints_of xid live })
found P xid [] is all = let never : false ≡ true = is in cc
found P xid (o ∷ live) is all =
    by_test (o.xid == xid) (savepoints_of xid live) is (λ same. let xid_is : o.xid ≡ xid = eqb-true o.xid xid same in
    subst (λ (n : ℕ). P (record { xid = n; savepoints = o.savepoints })) xid_is all.0) (λ rest. found P xid live rest all.1)
  where
    by_test : (b : Bool) (others : List Savepoint) → (b || is_live xid live) ≡ true →
        (b ≡ true → P (record { xid = xid; savepoints = o.savepoints })) →
        (is_live xid live ≡ true → P (record { xid = xid; savepoints = others })) →
        P (record { xid = xid; savepoints = cond b o.savepoints others })
    by_test true others is here there = here refl
    by_test false others is here there = there is

-- THE XIDS OF SAVEPOINTS

pub xids_take : (n : ℕ) (savepoints : List Savepoint) → xids (take n savepoints) ≡ take n (xids savepoints)
xids_take zero savepoints = refl
xids_take (suc n) [] = refl
xids_take (suc n) (s ∷ savepoints) = ap (λ (xs : List ℕ). s.xid ∷ xs) (xids_take n savepoints)

pub xids_push : (savepoints : List Savepoint) (s : Savepoint) → xids (savepoints ++ s ∷ []) ≡ xids savepoints ++ s.xid ∷ []
xids_push [] s = refl
xids_push (first ∷ savepoints) s = ap (λ (xs : List ℕ). first.xid ∷ xs) (xids_push savepoints s)

pub xids_length : (savepoints : List Savepoint) → length (xids savepoints) ≡ length savepoints
xids_length [] = refl
xids_length (s ∷ savepoints) = ap (λ (n : ℕ). suc n) (xids_length savepoints)

-- OTHER SAVEPOINTS

pub length-with_savepoints : (xid : ℕ) (xs : List Savepoint) (live : List LiveTransaction) → length (with_savepoints xid xs live) ≡ length live
length-with_savepoints xid xs [] = refl
length-with_savepoints xid xs (o ∷ live) = by_test (o.xid == xid) (length-with_savepoints xid xs live)
  where
    by_test : (b : Bool) → length (with_savepoints xid xs live) ≡ length live →
        length (cond b (record { xid = o.xid; savepoints = xs } ∷ live) (o ∷ with_savepoints xid xs live)) ≡ length (o ∷ live)
    by_test true e = refl
    by_test false e = ap (λ n. suc n) e

-- what speaks of xids alone stays
all_with_savepoints : (P : ℕ → Type 0) (xid : ℕ) (xs : List Savepoint) (live : List LiveTransaction) → AllByRecursion (λ o. P o.xid) live → AllByRecursion (λ o. P o.xid) (with_savepoints xid xs live)
all_with_savepoints P xid xs [] all = tt
all_with_savepoints P xid xs (o ∷ live) all = by_test (o.xid == xid) (all_with_savepoints P xid xs live all.1)
  where
    by_test : (b : Bool) → AllByRecursion (λ o. P o.xid) (with_savepoints xid xs live) →
        AllByRecursion (λ o. P o.xid) (cond b (record { xid = o.xid; savepoints = xs } ∷ live) (o ∷ with_savepoints xid xs live))
    by_test true rest = (all.0, all.1)
    by_test false rest = (all.0, rest)

pub rising-with_savepoints : (xid : ℕ) (xs : List Savepoint) (live : List LiveTransaction) → IsRising live → IsRising (with_savepoints xid xs live)
rising-with_savepoints xid xs [] h = tt
rising-with_savepoints xid xs (o ∷ live) h =
    by_test (o.xid == xid) (all_with_savepoints (λ n. o.xid < n) xid xs live h.0) (rising-with_savepoints xid xs live h.1)
  where
    by_test : (b : Bool) → AllByRecursion (λ p. o.xid < p.xid) (with_savepoints xid xs live) → IsRising (with_savepoints xid xs live) →
        IsRising (cond b (record { xid = o.xid; savepoints = xs } ∷ live) (o ∷ with_savepoints xid xs live))
    by_test true above rest = (h.0, h.1)
    by_test false above rest = (above, rest)

-- above an xid no transaction has it
apart_above : (Q : LiveTransaction → Type 0) (xid : ℕ) (P : LiveTransaction → Type 0) (live : List LiveTransaction) → AllByRecursion (λ p. xid < p.xid) live → AllByRecursion P live →
    ((p : LiveTransaction) → P p → (p.xid == xid) ≡ false → Q p) → AllByRecursion Q live
apart_above Q xid P [] above all keep = tt
apart_above Q xid P (p ∷ live) above all keep =
    (keep p all.0 (ne_eqb p.xid xid (λ is. let lt : xid < p.xid = above.0 in absurd (omega (arith, is)))), apart_above Q xid P live above.1 all.1 keep)

-- the one changed transaction has Q, and so have all others
pub all_changed : (P Q : LiveTransaction → Type 0) (xid : ℕ) (xs : List Savepoint) (live : List LiveTransaction) → IsRising live → AllByRecursion P live →
    ((p : LiveTransaction) → P p → (p.xid == xid) ≡ false → Q p) → Q (record { xid = xid; savepoints = xs }) → AllByRecursion Q (with_savepoints xid xs live)
all_changed P Q xid xs [] rising all keep here = tt
all_changed P Q xid xs (o ∷ live) rising all keep here =
    by_test (o.xid == xid) refl (all_changed P Q xid xs live rising.1 all.1 keep here)
  where
    by_test : (b : Bool) → (o.xid == xid) ≡ b → AllByRecursion Q (with_savepoints xid xs live) →
        AllByRecursion Q (cond b (record { xid = o.xid; savepoints = xs } ∷ live) (o ∷ with_savepoints xid xs live))
    by_test true is rest =
        let xid_is : o.xid ≡ xid = eqb-true o.xid xid is in (
          subst (λ (n : ℕ). Q (record { xid = n; savepoints = xs })) (sym xid_is) here,
          apart_above Q o.xid P live rising.0 all.1 (λ p holds other. keep p holds (subst (λ (n : ℕ). (p.xid == n) ≡ false) xid_is other)),
        )
    by_test false is rest = (keep o all.0 is, rest)

-- ONE TAKEN OUT

pub all_without : (P Q : LiveTransaction → Type 0) (xid : ℕ) (live : List LiveTransaction) → AllByRecursion P live →
    ((p : LiveTransaction) → P p → (p.xid == xid) ≡ false → Q p) → AllByRecursion Q (without xid live)
all_without P Q xid [] all keep = tt
all_without P Q xid (o ∷ live) all keep = by_test (o.xid == xid) refl (all_without P Q xid live all.1 keep)
  where
    by_test : (b : Bool) → (o.xid == xid) ≡ b → AllByRecursion Q (without xid live) →
        AllByRecursion Q (cond (not b) (o ∷ without xid live) (without xid live))
    by_test true is rest = rest
    by_test false is rest = (keep o all.0 is, rest)

pub rising-without : (xid : ℕ) (live : List LiveTransaction) → IsRising live → IsRising (without xid live)
rising-without xid [] h = tt
rising-without xid (o ∷ live) h =
    by_test (o.xid == xid) (all_without (λ p. o.xid < p.xid) (λ p. o.xid < p.xid) xid live h.0 (λ p lt other. lt)) (rising-without xid live h.1)
  where
    by_test : (b : Bool) → AllByRecursion (λ p. o.xid < p.xid) (without xid live) → IsRising (without xid live) →
        IsRising (cond (not b) (o ∷ without xid live) (without xid live))
    by_test true above rest = rest
    by_test false above rest = (above, rest)

without_above : (xid : ℕ) (live : List LiveTransaction) → AllByRecursion (λ p. xid < p.xid) live → without xid live ≡ live
without_above xid [] above = refl
without_above xid (p ∷ live) above =
    let other : (p.xid == xid) ≡ false = ne_eqb p.xid xid (λ is. let lt : xid < p.xid = above.0 in absurd (omega (arith, is))) in
    rw (other, without_above xid live above.1) refl

-- exactly one is taken out
pub length-without : (xid : ℕ) (live : List LiveTransaction) → IsRising live → is_live xid live ≡ true → length (without xid live) + 1 ≡ length live
length-without xid [] rising is = let never : false ≡ true = is in cc
length-without xid (o ∷ live) rising is = by_test (o.xid == xid) refl is (length-without xid live rising.1)
  where
    by_test : (b : Bool) → (o.xid == xid) ≡ b → (b || is_live xid live) ≡ true → (is_live xid live ≡ true → length (without xid live) + 1 ≡ length live) →
        length (cond (not b) (o ∷ without xid live) (without xid live)) + 1 ≡ length (o ∷ live)
    by_test true is any rest =
        let xid_is : o.xid ≡ xid = eqb-true o.xid xid is in
        let same : without xid live ≡ live = without_above xid live (subst (λ (n : ℕ). AllByRecursion (λ p. n < p.xid) live) xid_is rising.0) in
        rw same (omega arith)
    by_test false is any rest = omega (arith, rest any)

pub rising-push : (live : List LiveTransaction) (o : LiveTransaction) → AllByRecursion (λ p. p.xid < o.xid) live → IsRising live → IsRising (live ++ o ∷ [])
rising-push [] o below h = (tt, tt)
rising-push (p ∷ live) o below h = (all_append _ live (o ∷ []) h.0 (below.0, tt), rising-push live o below.1 h.1)

-- AT A PLACE

changed_first : (f : List Savepoint → List Savepoint) (xid : ℕ) (live : List LiveTransaction) (place : ℕ) (d : LiveTransaction) → place < length live →
    ((get_or live place d).xid == xid) ≡ true → ((k : ℕ) → k < place → ((get_or live k d).xid == xid) ≡ false) →
    set live place (record { xid = (get_or live place d).xid; savepoints = f (get_or live place d).savepoints }) ≡ with_savepoints xid (f (savepoints_of xid live)) live
changed_first f xid [] place d lt is before = absurd (omega arith)
changed_first f xid (o ∷ live) zero d lt is before = rw is refl
changed_first f xid (o ∷ live) (suc n) d lt is before =
    let other : (o.xid == xid) ≡ false = before 0 (omega arith) in
    let later : savepoints_of xid live ≡ savepoints_of xid (o ∷ live) = rw other refl in
    let kept : (xs : List Savepoint) → o ∷ with_savepoints xid xs live ≡ with_savepoints xid xs (o ∷ live) = λ xs. rw other refl in
    ap (λ rest. o ∷ rest) (changed_first f xid live n d (omega arith) is (λ k below. before (suc k) (omega arith)))
    ∙ kept (f (savepoints_of xid live)) ∙ ap (λ (xs : List Savepoint). with_savepoints xid (f xs) (o ∷ live)) later

-- a transaction changed at its place is changed by its xid
pub changed_at : (f : List Savepoint → List Savepoint) (xid : ℕ) (items live : List LiveTransaction) (place : ℕ) (old new : LiveTransaction) → items ≡ live →
    old ≡ get_or items place old → new ≡ record { xid = old.xid; savepoints = f old.savepoints } → Some place ≡ position (λ o. o.xid == xid) live →
    set items place new ≡ with_savepoints xid (f (savepoints_of xid live)) live
changed_at f xid items live place old new same at is found_at =
    let first = position-Some (λ o. o.xid == xid) live place old (sym found_at) in
    let here : old ≡ get_or live place old = at ∙ ap (λ xs. get_or xs place old) same in
    ap (λ xs. set xs place new) same
    ∙ ap (set live place) (is ∙ ap (λ (o : LiveTransaction). record { xid = o.xid; savepoints = f o.savepoints }) here)
    ∙ changed_first f xid live place old first.0 first.1 first.2

absent_from : (xid : ℕ) (xs : List Savepoint) (i : ℕ) (live : List LiveTransaction) → position_from (λ o. o.xid == xid) i live ≡ None → with_savepoints xid xs live ≡ live
absent_from xid xs i [] none = refl
absent_from xid xs i (o ∷ live) none = by_test (o.xid == xid) none (absent_from xid xs (i + 1) live)
  where
    by_test : (b : Bool) → cond b (Some i) (position_from (λ o. o.xid == xid) (i + 1) live) ≡ None →
        (position_from (λ o. o.xid == xid) (i + 1) live ≡ None → with_savepoints xid xs live ≡ live) →
        cond b (record { xid = o.xid; savepoints = xs } ∷ live) (o ∷ with_savepoints xid xs live) ≡ o ∷ live
    by_test true none rest = cc
    by_test false none rest = ap (λ ls. o ∷ ls) (rest none)

pub absent : (xid : ℕ) (xs : List Savepoint) (live : List LiveTransaction) → position (λ o. o.xid == xid) live ≡ None → with_savepoints xid xs live ≡ live
absent xid xs live none = absent_from xid xs 0 live (sym (position_from-zero (λ o. o.xid == xid) live) ∙ none)

-- the innermost savepoint
pub last_savepoint : (y : ℕ) (savepoints : List Savepoint) (d : Savepoint) → 0 < length savepoints → (get_or savepoints (length savepoints - 1) d).xid ≡ last_of y (xids savepoints)
last_savepoint y [] d lt = absurd (omega arith)
last_savepoint y (p ∷ []) d lt = refl
last_savepoint y (p ∷ q ∷ savepoints) d lt =
    let e : length (p ∷ q ∷ savepoints) - 1 ≡ suc (length (q ∷ savepoints) - 1) = omega arith in
    rw e (last_savepoint p.xid (q ∷ savepoints) d (omega arith))

-- PUSHED AND TAKEN OFF

with-here : (xid : ℕ) (xs : List Savepoint) (o : LiveTransaction) (live : List LiveTransaction) → (o.xid == xid) ≡ true → with_savepoints xid xs (o ∷ live) ≡ record { xid = o.xid; savepoints = xs } ∷ live
with-here xid xs o live is = rw is refl

with-later : (xid : ℕ) (xs : List Savepoint) (o : LiveTransaction) (live : List LiveTransaction) → (o.xid == xid) ≡ false → with_savepoints xid xs (o ∷ live) ≡ o ∷ with_savepoints xid xs live
with-later xid xs o live is = rw is refl

of-here : (xid : ℕ) (o : LiveTransaction) (live : List LiveTransaction) → (o.xid == xid) ≡ true → savepoints_of xid (o ∷ live) ≡ o.savepoints
of-here xid o live is = rw is refl

of-later : (xid : ℕ) (o : LiveTransaction) (live : List LiveTransaction) → (o.xid == xid) ≡ false → savepoints_of xid (o ∷ live) ≡ savepoints_of xid live
of-later xid o live is = rw is refl

with-again : (xid : ℕ) (xs ys : List Savepoint) (live : List LiveTransaction) → with_savepoints xid ys (with_savepoints xid xs live) ≡ with_savepoints xid ys live
with-again xid xs ys [] = refl
with-again xid xs ys (o ∷ live) = by_test (o.xid == xid) refl (with-again xid xs ys live)
  where
    by_test : (b : Bool) → (o.xid == xid) ≡ b → with_savepoints xid ys (with_savepoints xid xs live) ≡ with_savepoints xid ys live →
        with_savepoints xid ys (with_savepoints xid xs (o ∷ live)) ≡ with_savepoints xid ys (o ∷ live)
    by_test true is rest = ap (with_savepoints xid ys) (with-here xid xs o live is) ∙ with-here xid ys (record { xid = o.xid; savepoints = xs }) live is ∙ sym (with-here xid ys o live is)
    by_test false is rest = ap (with_savepoints xid ys) (with-later xid xs o live is) ∙ with-later xid ys o (with_savepoints xid xs live) is ∙ ap (λ ls. o ∷ ls) rest ∙ sym (with-later xid ys o live is)

of-with : (xid : ℕ) (xs : List Savepoint) (live : List LiveTransaction) → is_live xid live ≡ true → savepoints_of xid (with_savepoints xid xs live) ≡ xs
of-with xid xs [] is = let never : false ≡ true = is in cc
of-with xid xs (o ∷ live) is = by_test (o.xid == xid) refl is (of-with xid xs live)
  where
    by_test : (b : Bool) → (o.xid == xid) ≡ b → (b || is_live xid live) ≡ true → (is_live xid live ≡ true → savepoints_of xid (with_savepoints xid xs live) ≡ xs) →
        savepoints_of xid (with_savepoints xid xs (o ∷ live)) ≡ xs
    by_test true is any rest = ap (savepoints_of xid) (with-here xid xs o live is) ∙ of-here xid (record { xid = o.xid; savepoints = xs }) live is
    by_test false is any rest = ap (savepoints_of xid) (with-later xid xs o live is) ∙ of-later xid o (with_savepoints xid xs live) is ∙ rest any

pub with-own : (xid : ℕ) (live : List LiveTransaction) → with_savepoints xid (savepoints_of xid live) live ≡ live
with-own xid [] = refl
with-own xid (o ∷ live) = by_test (o.xid == xid) refl (with-own xid live)
  where
    by_test : (b : Bool) → (o.xid == xid) ≡ b → with_savepoints xid (savepoints_of xid live) live ≡ live →
        with_savepoints xid (savepoints_of xid (o ∷ live)) (o ∷ live) ≡ o ∷ live
    by_test true is rest = ap (λ xs. with_savepoints xid xs (o ∷ live)) (of-here xid o live is) ∙ with-here xid o.savepoints o live is
    by_test false is rest = ap (λ xs. with_savepoints xid xs (o ∷ live)) (of-later xid o live is) ∙ with-later xid (savepoints_of xid live) o live is ∙ ap (λ ls. o ∷ ls) rest

-- a savepoint that was pushed is taken off again
pub restored : (xid : ℕ) (y : Savepoint) (n : ℕ) (live more less : List LiveTransaction) → is_live xid live ≡ true → n ≡ length (savepoints_of xid live) →
    more ≡ with_savepoints xid (savepoints_of xid live ++ y ∷ []) live → less ≡ with_savepoints xid (take n (savepoints_of xid more)) more → less ≡ live
restored xid y n live more less is at pushed cut =
    let xs : List Savepoint = savepoints_of xid live ++ y ∷ [] in
    cut
    ∙ ap (λ ls. with_savepoints xid (take n (savepoints_of xid ls)) ls) pushed
    ∙ ap (λ ys. with_savepoints xid (take n ys) (with_savepoints xid xs live)) (of-with xid xs live is)
    ∙ with-again xid xs (take n xs) live
    ∙ ap (λ ys. with_savepoints xid ys live) (ap (λ m. take m xs) at ∙ take-append_seam (savepoints_of xid live) (y ∷ []))
    ∙ with-own xid live
