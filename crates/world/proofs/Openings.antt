-- An open start stands where it was found among the open ones.
use Rattle.std.proofs.Common.{◌≡◌, ◌+◌, ◌≤◌, ◌<◌, ℕ, zero, suc, Bool, true, false, cond, eqb, List, [], ◌∷◌, ◌++◌, map, length, Option, Some, None, refl, sym, ap, subst, ◌∙◌, append_assoc, arith}
use Rattle.std.specs.Prelude.{IsNone, is_some, slice_get, slice_set}
use Rattle.std.specs.Str.{bytes_eq}
use Rattle.std.proofs.lemmas.Bool.{eq-eqb, ne_eqb}
use Rattle.std.proofs.lemmas.List.{length-append}
use Rattle.world.specs.declared.stepping.start.Start.{Start}
use Rattle.world.specs.declared.stepping.start.StartStage.{StartStage}
use Rattle.world.specs.declared.stepping.start.StartStage.TheVariants as stages
use Rattle.world.specs.Start.{StartState, is_open_for}
use Rattle.world.specs.State.{open_start}
use Rattle.world.specs.Starts.{start_state, state_with, is_open}
use Rattle.world.specs.Machine.{start_place, open_places, is_for, place_among, without_place, IsOpenStartAt}
use Rattle.world.proofs.Inside.{same_inside, place_is}
use Rattle.row_messages.proofs.Rows.{both_true}

-- ---- by walking over all starts

no_sooner : (name : List ℕ) (starts : List StartState) (at p : ℕ) → start_place at name starts ≡ Some p → at ≤ p
no_sooner name [] at p e = absurd cc
no_sooner name (s ∷ starts) at p e = by_test (is_open_for name s) e (no_sooner name starts (at + 1) p)
  where
    by_test : (b : Bool) → cond b (Some at) (start_place (at + 1) name starts) ≡ Some p → (start_place (at + 1) name starts ≡ Some p → at + 1 ≤ p) → at ≤ p
    by_test true e later = omega (arith, same_inside at p e)
    by_test false e later = omega (arith, later e)

opened : {L : Type 0} (name n produced : List ℕ) (w : StartStage L) → is_open_for name (state_with n produced w) ≡ true → is_open w ≡ true
opened name n produced (stages.Open s) e = refl
opened name n produced (stages.Cut s) e = let closed = (both_true (bytes_eq n name) false e).1 in absurd cc

found : {L : Type 0} (name : List ℕ) (cs : List (Start L)) (at k : ℕ) → start_place at name (map start_state cs) ≡ Some (at + k) → IsOpenStartAt name k cs
found name [] at k e = absurd cc
found name (c ∷ cs) at zero e = by_test (is_open_for name (start_state c)) refl e
  where
    by_test : (b : Bool) → is_open_for name (start_state c) ≡ b → cond b (Some at) (start_place (at + 1) name (map start_state cs)) ≡ Some (at + 0) → IsOpenStartAt name 0 (c ∷ cs)
    by_test true is e = record { start = c; there = refl; opened = opened name c.connection c.produced.items c.stage is; of = rw is refl; changed = λ after. rw is refl }
    by_test false is e = absurd (omega (arith, no_sooner name (map start_state cs) (at + 1) (at + 0) e))
found name (c ∷ cs) at (suc k) e = by_test (is_open_for name (start_state c)) refl e (found name cs (at + 1) k)
  where
    next : at + suc k ≡ (at + 1) + k
    next = omega arith

    by_test : (b : Bool) → is_open_for name (start_state c) ≡ b → cond b (Some at) (start_place (at + 1) name (map start_state cs)) ≡ Some (at + suc k)
        → (start_place (at + 1) name (map start_state cs) ≡ Some ((at + 1) + k) → IsOpenStartAt name k cs) → IsOpenStartAt name (suc k) (c ∷ cs)
    by_test true is e later = absurd (omega (arith, same_inside at (at + suc k) e))
    by_test false is e later =
        let inner = later (e ∙ ap place_is next) in
        record { start = inner.start; there = inner.there; opened = inner.opened; of = rw is inner.of; changed = λ after. rw is (ap (λ l. start_state c ∷ l) (inner.changed after)) }

is_found_alike : (name : List ℕ) (starts : List StartState) (at : ℕ) → is_some (start_place at name starts) ≡ is_some (open_start name starts)
is_found_alike name [] at = refl
is_found_alike name (s ∷ starts) at = by_test (is_open_for name s) (is_found_alike name starts (at + 1))
  where
    by_test : (b : Bool) → is_some (start_place (at + 1) name starts) ≡ is_some (open_start name starts) → is_some (cond b (Some at) (start_place (at + 1) name starts)) ≡ is_some (cond b (Some s) (open_start name starts))
    by_test true later = refl
    by_test false later = later

-- ---- among the open ones alone

get_after : (pre starts : List StartState) (s : StartState) → slice_get (pre ++ s ∷ starts) (length pre) ≡ Some s
get_after [] starts s = refl
get_after (p ∷ pre) starts s = get_after pre starts s

same_place : (name : List ℕ) (pre starts : List StartState) → place_among name (pre ++ starts) (open_places (length pre) starts) ≡ start_place (length pre) name starts
same_place name pre [] = refl
same_place name pre (s ∷ starts) = by_test (same_place name (pre ++ s ∷ []) starts) s.is_open refl
  where
    longer : length (pre ++ s ∷ []) ≡ length pre + 1
    longer = length-append pre (s ∷ [])

    later : place_among name ((pre ++ s ∷ []) ++ starts) (open_places (length (pre ++ s ∷ [])) starts) ≡ start_place (length (pre ++ s ∷ [])) name starts
        → place_among name (pre ++ s ∷ starts) (open_places (length pre + 1) starts) ≡ start_place (length pre + 1) name starts
    later inner =
        let P : ℕ → Type 0 = λ n. place_among name (pre ++ s ∷ starts) (open_places n starts) ≡ start_place n name starts in
        let Q : List StartState → Type 0 = λ l. place_among name l (open_places (length (pre ++ s ∷ [])) starts) ≡ start_place (length (pre ++ s ∷ [])) name starts in
        subst P longer (subst Q (append_assoc pre (s ∷ []) starts) inner)

    here : is_for name (slice_get (pre ++ s ∷ starts) (length pre)) ≡ is_open_for name s
    here = ap (is_for name) (get_after pre starts s)

    closed : (b : Bool) → s.is_open ≡ false → is_open_for name s ≡ b → b ≡ false
    closed false shut is = refl
    closed true shut is = sym (both_true (bytes_eq s.connection name) s.is_open is).1 ∙ shut

    by_test : place_among name ((pre ++ s ∷ []) ++ starts) (open_places (length (pre ++ s ∷ [])) starts) ≡ start_place (length (pre ++ s ∷ [])) name starts → (b : Bool) → s.is_open ≡ b
        → place_among name (pre ++ s ∷ starts) (cond b (length pre ∷ open_places (length pre + 1) starts) (open_places (length pre + 1) starts)) ≡ cond (is_open_for name s) (Some (length pre)) (start_place (length pre + 1) name starts)
    by_test inner true is = ap (λ (c : Bool). cond c (Some (length pre)) (place_among name (pre ++ s ∷ starts) (open_places (length pre + 1) starts))) here
        ∙ ap (λ (o : Option ℕ). cond (is_open_for name s) (Some (length pre)) o) (later inner)
    by_test inner false is = later inner ∙ ap (λ (c : Bool). cond c (Some (length pre)) (start_place (length pre + 1) name starts)) (sym (closed (is_open_for name s) is refl))

pub place_found : (name : List ℕ) (starts : List StartState) (places : List ℕ) → places ≡ open_places 0 starts → place_among name starts places ≡ start_place 0 name starts
place_found name starts places is = ap (place_among name starts) is ∙ same_place name [] starts

pub open_at : {L : Type 0} (name : List ℕ) (cs : List (Start L)) (places : List ℕ) (k : ℕ) → places ≡ open_places 0 (map start_state cs) → place_among name (map start_state cs) places ≡ Some k → IsOpenStartAt name k cs
open_at name cs places k is e = let plain : k ≡ 0 + k = omega arith in found name cs 0 k (sym (place_found name (map start_state cs) places is) ∙ e ∙ ap place_is plain)

pub is_open_alike : (name : List ℕ) (starts : List StartState) (places : List ℕ) → places ≡ open_places 0 starts → is_some (place_among name starts places) ≡ is_some (open_start name starts)
is_open_alike name starts places is = ap is_some (place_found name starts places is) ∙ is_found_alike name starts 0

pub none_open : (name : List ℕ) (starts : List StartState) (places : List ℕ) → places ≡ open_places 0 starts → place_among name starts places ≡ None → IsNone (open_start name starts)
none_open name starts places is e = sym (is_open_alike name starts places is) ∙ ap is_some e

-- ---- a start comes, and is cut

pub places_with_one : (at : ℕ) (starts : List StartState) (s : StartState) → s.is_open ≡ true → open_places at (starts ++ s ∷ []) ≡ open_places at starts ++ (at + length starts) ∷ []
places_with_one at [] s is = let plain : at ≡ at + 0 = omega arith in rw is (ap (λ (n : ℕ). n ∷ []) plain)
places_with_one at (t ∷ starts) s is =
    let next : (at + 1) + length starts ≡ at + suc (length starts) = omega arith in
    let later = places_with_one (at + 1) starts s is ∙ ap (λ (n : ℕ). open_places (at + 1) starts ++ n ∷ []) next in
    by_test t.is_open later
  where
    by_test : (b : Bool) → open_places (at + 1) (starts ++ s ∷ []) ≡ open_places (at + 1) starts ++ (at + suc (length starts)) ∷ []
        → cond b (at ∷ open_places (at + 1) (starts ++ s ∷ [])) (open_places (at + 1) (starts ++ s ∷ [])) ≡ cond b (at ∷ open_places (at + 1) starts) (open_places (at + 1) starts) ++ (at + suc (length starts)) ∷ []
    by_test true later = ap (λ l. at ∷ l) later
    by_test false later = later

-- a start that stays open
pub places_kept : (at : ℕ) (starts : List StartState) (k : ℕ) (s new : StartState) → slice_get starts k ≡ Some s → new.is_open ≡ s.is_open → open_places at (slice_set starts k new) ≡ open_places at starts
places_kept at [] k s new there same = refl
places_kept at (t ∷ starts) zero s new there same =
    let here : t ≡ s = same_inside t s there in
    ap (λ (b : Bool). cond b (at ∷ open_places (at + 1) starts) (open_places (at + 1) starts)) (same ∙ ap (λ (x : StartState). x.is_open) (sym here))
places_kept at (t ∷ starts) (suc k) s new there same = ap (λ l. cond t.is_open (at ∷ l) l) (places_kept (at + 1) starts k s new there same)

-- no place is earlier than the first
none_earlier : (at p : ℕ) (starts : List StartState) → p < at → without_place p (open_places at starts) ≡ open_places at starts
none_earlier at p [] lt = refl
none_earlier at p (t ∷ starts) lt =
    let other : eqb at p ≡ false = ne_eqb at p (λ e. omega (arith, e, lt)) in
    by_test t.is_open other (none_earlier (at + 1) p starts (omega (arith, lt)))
  where
    by_test : (b : Bool) → eqb at p ≡ false → without_place p (open_places (at + 1) starts) ≡ open_places (at + 1) starts
        → without_place p (cond b (at ∷ open_places (at + 1) starts) (open_places (at + 1) starts)) ≡ cond b (at ∷ open_places (at + 1) starts) (open_places (at + 1) starts)
    by_test true other later = rw other (ap (λ l. at ∷ l) later)
    by_test false other later = later

-- a start that is cut
pub places_less : (at : ℕ) (starts : List StartState) (k p : ℕ) (s new : StartState) → p ≡ at + k → slice_get starts k ≡ Some s → s.is_open ≡ true → new.is_open ≡ false
    → without_place p (open_places at starts) ≡ open_places at (slice_set starts k new)
places_less at [] k p s new is there was now = absurd cc
places_less at (t ∷ starts) zero p s new is there was now =
    let here : t.is_open ≡ true = ap (λ (x : StartState). x.is_open) (same_inside t s there) ∙ was in
    let first : eqb at p ≡ true = eq-eqb at p (omega (arith, is)) in
    rw (here, first, now) (none_earlier (at + 1) p starts (omega (arith, is)))
places_less at (t ∷ starts) (suc k) p s new is there was now =
    let other : eqb at p ≡ false = ne_eqb at p (λ e. omega (arith, e, is)) in
    by_test t.is_open other (places_less (at + 1) starts k p s new (omega (arith, is)) there was now)
  where
    by_test : (b : Bool) → eqb at p ≡ false → without_place p (open_places (at + 1) starts) ≡ open_places (at + 1) (slice_set starts k new)
        → without_place p (cond b (at ∷ open_places (at + 1) starts) (open_places (at + 1) starts)) ≡ cond b (at ∷ open_places (at + 1) (slice_set starts k new)) (open_places (at + 1) (slice_set starts k new))
    by_test true other later = rw other (ap (λ l. at ∷ l) later)
    by_test false other later = later
