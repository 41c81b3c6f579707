-- The rule holds of a new table, and a seat more keeps it.
use Rattle.std.proofs.Common.{◌≡◌, ℕ, zero, suc, ◌+◌, ◌*◌, ◌/◌, ◌%◌, ◌<◌, ◌≤◌, ◌⊎◌, inl, inr, Bool, List, [], ◌∷◌, ◌++◌, length, replicate, get_or, set, sym, refl, ap, ◌∙◌, subst, arith, ⊎_elim, length-set, length-append, cond, ne_eqb}
use Rattle.std.specs.Prelude.{slice_index}
use Rattle.std.proofs.lemmas.Bool.{false≢true}
use mathlib.Core.Option.{some, some-ne-none, some-injective}
use lib.ListN.{get_elem?}
use Rattle.atomic_table.specs.Table.{Splits, opening}
use Rattle.atomic_table.proofs.Lists.{at_set}
use Rattle.slots.specs.declared.words_kept.step.SeatView.{SeatView}
use Rattle.slots.specs.Standings.{held_by}
use Rattle.slots.specs.Facts.{facts, no_facts}
use Rattle.slots.specs.Rule.{Agrees, Leaves, Kept, first_view, generation_of, one_more, newest, state_at, state_word, position_word}
use Rattle.slots.specs.Seats.{IsFresh}
use Rattle.slots.proofs.Lines.{by_turn, no_more, not_yet, now}
use Rattle.slots.proofs.Steps.{within}

at_end : (l : List SeatView) (a b : SeatView) (j : ℕ) → get_elem? (l ++ a ∷ []) j ≡ some b → (get_elem? l j ≡ some b) ⊎ ((j ≡ length l) × (a ≡ b))
at_end [] a b zero e = inr (refl, some-injective a b e)
at_end [] a b (suc j) e = absurd (some-ne-none b (sym e))
at_end (x ∷ xs) a b zero e = inl e
at_end (x ∷ xs) a b (suc j) e = ⊎_elim inl (λ t. inr (ap suc t.0, t.1)) (at_end xs a b j e)

-- what a seat with no steps knows of a place that it isn't named by
knows_nothing : (x y id : ℕ) → (x ≡ held_by id → ⊥) → Agrees x y id no_facts
knows_nothing x y id not = record {
  named = λ h. absurd (false≢true h);
  held = λ h. absurd (not h);
  above = omega arith;
  last = λ h. absurd (false≢true h);
  stays = λ h. absurd (false≢true h);
  rises = refl;
}

abbrev pub zeros : ℕ → List ℕ
zeros n = replicate n 0

zeros_are_zero : (n i : ℕ) → get_or (zeros n) i 0 ≡ 0
zeros_are_zero zero i = refl
zeros_are_zero (suc n) zero = refl
zeros_are_zero (suc n) (suc i) = zeros_are_zero n i

zeros_are_many : (n : ℕ) → length (zeros n) ≡ n
zeros_are_many zero = refl
zeros_are_many (suc n) = ap suc (zeros_are_many n)

-- a word that names no seat of this number from here on says of no place that it has it
unnamed : (p w k : ℕ) → w % 4096 < 3 + k → k < 2048 → state_at p w ≡ held_by k → ⊥
unnamed p w k small few is = by_turn p w
    (λ less. let e = sym (not_yet p w less) ∙ is in omega (arith, e, few))
    (λ more. let e = sym (no_more p w more) ∙ is in omega (arith, e))
    (λ turn. let e = sym (now p w turn) ∙ is in omega (arith, e, small))

-- in a new table a place of the first generation was never made
pub never_made : (p w : ℕ) → p < 1024 → w ≡ 0 → state_at p w ≡ 0
never_made p w low is = now p w (omega (arith, low, is)) ∙ omega (arith, is)

pub opens_wide : (n : ℕ) → n ≡ 8192 → Kept (opening (zeros n) [] first_view)
opens_wide n wide = record {
  wide = zeros_are_many n ∙ wide;
  numbered = λ k u is. let e = first_is k u is in (ap (λ (w : SeatView). w.number) (sym e.1) ∙ sym e.0, λ _. ap (λ (w : SeatView). w.seats) e.1);
  first = λ k u is _. (first_is k u is).0;
  few = omega arith;
  names = λ p. let z = zeros_are_zero n (state_word p) in omega (arith, z);
  places = λ p k u is. subst (λ (w : SeatView). Agrees (state_at p (slice_index (zeros n) (state_word p))) (slice_index (zeros n) (position_word p)) k (facts p w.steps)) (first_is k u is).1
      (knows_nothing _ _ k (unnamed p (slice_index (zeros n) (state_word p)) k (let z = zeros_are_zero n (state_word p) in omega (arith, z)) (let e = (first_is k u is).0 in omega (arith, e))));
  alone = λ _ p k u low is. subst (λ (w : SeatView). Leaves (zeros n) p w) (first_is k u is).1 (never_made p (slice_index (zeros n) (state_word p)) low (zeros_are_zero n (state_word p)), λ _. zeros_are_zero n (position_word p));
}
  where
    first_is : (k : ℕ) (u : SeatView) → get_elem? (first_view ∷ []) k ≡ some u → (k ≡ 0) × (first_view ≡ u)
    first_is zero u e = (refl, some-injective first_view u e)
    first_is (suc k) u e = absurd (some-ne-none u (sym e))

pub opens : Kept (opening (zeros 8192) [] first_view)
opens = opens_wide 8192 refl

pub splits : (id : ℕ) (v : SeatView) → 0 < v.seats → v.seats < 2048 → Splits Kept id v (one_more v) (newest v)
splits id v some_seat few s kept at = record {
  wide = kept.wide;
  numbered = λ k u is. ⊎_elim
      (λ old. ⊎_elim
      (λ t. (ap (λ (w : SeatView). w.number) (sym t.1) ∙ (kept.numbered id v at).0 ∙ sym t.0, λ _. let l = longer in let c = count in let n : v.seats + 1 ≡ u.seats = ap (λ (w : SeatView). w.seats) t.1 in omega arith))
      (λ t. ((kept.numbered k u t.1).0, λ more. absurd (t.0 (kept.first k u t.1 more ∙ sym (kept.first id v at some_seat)))))
      (at_set s.views id k (one_more v) u old))
      (λ t. (ap (λ (w : SeatView). w.number) (sym t.1) ∙ sym count ∙ sym same ∙ sym t.0, λ more. absurd (none_there u t.1 more)))
      (at_end set_views (newest v) u k is);
  first = λ k u is more. ⊎_elim
      (λ old. ⊎_elim
      (λ t. t.0 ∙ kept.first id v at some_seat)
      (λ t. kept.first k u t.1 more)
      (at_set s.views id k (one_more v) u old))
      (λ t. absurd (none_there u t.1 more))
      (at_end set_views (newest v) u k is);
  few = let l = longer in let c = count in omega (arith, l, c, few);
  names = λ p. let n = kept.names p in let l = longer in omega (arith, n, l);
  places = λ p k u is. ⊎_elim
      (λ old. ⊎_elim
      (λ t. subst (λ (w : SeatView). Agrees (state_at p (slice_index s.words (state_word p))) (slice_index s.words (position_word p)) k (facts p w.steps)) t.1
      (subst (λ (j : ℕ). Agrees (state_at p (slice_index s.words (state_word p))) (slice_index s.words (position_word p)) j (facts p v.steps)) (sym t.0) (kept.places p id v at)))
      (λ t. kept.places p k u t.1)
      (at_set s.views id k (one_more v) u old))
      (λ t. subst (λ (w : SeatView). Agrees (state_at p (slice_index s.words (state_word p))) (slice_index s.words (position_word p)) k (facts p w.steps)) t.1
      (knows_nothing _ _ k (unnamed p (slice_index s.words (state_word p)) k (let n = kept.names p in let is_last = t.0 in let l = same in omega (arith, n, is_last, l)) (let c = count in let is_last = t.0 in let l = same in omega (arith, c, is_last, l, few)))))
      (at_end set_views (newest v) u k is);
  alone = λ one. let l = longer in let m = within s.views id v at in absurd (omega arith);
}
  where
    set_views : List SeatView
    set_views = set s.views id (one_more v)

    same : length set_views ≡ length s.views
    same = length-set s.views id (one_more v)

    count : length s.views ≡ v.seats
    count = (kept.numbered id v at).1 some_seat

    longer : length (set_views ++ newest v ∷ []) ≡ suc (length s.views)
    longer = let l = length-append set_views (newest v ∷ []) in let e = same in omega arith

    none_there : (u : SeatView) → newest v ≡ u → 0 < u.seats → ⊥
    none_there u e more = let n : u.seats ≡ 0 = ap (λ (w : SeatView). w.seats) (sym e) in omega arith

pub newest_is_fresh : (seats n : ℕ) (v : SeatView) → v ≡ newest (record { number = 0; seats = suc n; steps = [] }) → IsFresh seats v
newest_is_fresh seats n v e = subst (IsFresh seats) (sym e) (refl, sym (ap (λ (b : Bool). cond b seats 0) (ne_eqb (suc n) 0 (λ h. omega arith))))

pub first_is_fresh : (seats n : ℕ) (v : SeatView) → n ≡ seats → v ≡ record { number = 0; seats = n; steps = [] } → IsFresh seats v
first_is_fresh seats n v is e = subst (IsFresh seats) (sym e) (refl, is)
