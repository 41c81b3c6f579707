-- What a change at one place leaves of the slots.
use Rattle.std.proofs.Common.{◌≡◌, ℕ, ◌<◌, inl, inr, max, Bool, true, false, cond, List, [], ◌∷◌, map, Option, Some, None, refl, sym, ap, ap₂, subst, ◌∙◌, arith, ⊎_elim, eq-eqb, ne_eqb}
use Rattle.std.specs.List.{AllByRecursion, Contains}
use Rattle.std.proofs.lemmas.Bool.{cases_eq, cases_lt}
use Rattle.std.proofs.lemmas.List.Elements.{All-contains, All-from_recursion}
use Rattle.slots.specs.declared.words_kept.step.SeatView.{SeatView}
use Rattle.slots.specs.Facts.{Facts, facts}
use Rattle.slots.specs.Standings.{held_by}
use Rattle.slots.specs.declared.by_name.slot.Slot.{Slot}
use Rattle.slots.specs.State.{NamedSlot, if_at, slot_at, is_in_use, slot_with_hold, slot_with_confirmed}
use Rattle.slots.specs.Keeping.{IsUsedUp, Stands, StandsIn, places_in, shown_slot, slot_with_noted_position}
use Rattle.slots.proofs.NamedFacts.{Alike, Changes, alike_then}

-- how the facts of a place stand with the position that is noted of it
abbrev pub Fits : ℕ → ℕ → Facts → Type 0
Fits number confirmed f = (confirmed ≡ f.position) × (f.state ≡ cond f.held (held_by number) 1)

fits_alike : (n m c : ℕ) (f g : Facts) → m ≡ n → Alike f g → Fits n c f → Fits m c g
fits_alike n m c f g e a fits = (fits.0 ∙ sym a.position, a.state ∙ fits.1 ∙ ap₂ (λ (b : Bool) (k : ℕ). cond b (held_by k) 1) (sym a.held) (sym e))

-- the slot at the place, its position noted anew
pub record SlotAt (p : ℕ) (v : SeatView) (s : NamedSlot) : Type 0 where
  pub place : s.place ≡ p
  pub confirmed : s.confirmed ≡ (facts p v.steps).position
  pub is_held : s.is_held ≡ (facts p v.steps).held
  pub fits : Fits v.number s.confirmed (facts p v.steps)

none_is_no : {A : Type 0} (x : A) → Option.None ≡ Option.Some x → ⊥
none_is_no x e = absurd cc

same_inside : {A : Type 0} (x y : A) → Option.Some x ≡ Option.Some y → x ≡ y
same_inside x y e = ap (λ o. or_that x o) e
  where
    or_that : {A : Type 0} → A → Option A → A
    or_that d None = d
    or_that d (Some z) = z

pub slot_here : (v : SeatView) (p : ℕ) (ss : List Slot) (t : NamedSlot) → AllByRecursion (Stands v) ss → slot_at p (map (shown_slot v) ss) ≡ Some t → SlotAt p v t
slot_here v p [] t all e = absurd (none_is_no t e)
slot_here v p (s ∷ ss) t all e = ⊎_elim
    (λ is. let same = same_inside (shown_slot v s) t (sym (ap (λ (b : Bool). cond b (Option.Some (shown_slot v s)) (slot_at p (map (shown_slot v) ss))) (eq-eqb s.place p is)) ∙ e) in
    subst (SlotAt p v) same (subst (λ (q : ℕ). SlotAt q v (shown_slot v s)) is (record { place = refl; confirmed = all.0.0; is_held = refl; fits = all.0 })))
    (λ not. slot_here v p ss t all.1 (sym (ap (λ (b : Bool). cond b (Option.Some (shown_slot v s)) (slot_at p (map (shown_slot v) ss))) (ne_eqb s.place p not)) ∙ e))
    (cases_eq s.place p)

-- a place that is held as the slots are shown is held as its steps say
pub record IsHeldAt (p : ℕ) (v : SeatView) (ss : List Slot) : Type 0 where
  pub slot : NamedSlot
  pub found : slot_at p (map (shown_slot v) ss) ≡ Some slot
  pub at : SlotAt p v slot
  pub held : (facts p v.steps).held ≡ true

pub held_at : (v : SeatView) (p : ℕ) (ss : List Slot) → AllByRecursion (Stands v) ss → is_in_use (slot_at p (map (shown_slot v) ss)) ≡ true → IsHeldAt p v ss
held_at v p ss all e = by_slot (slot_at p (map (shown_slot v) ss)) refl e
  where
    by_slot : (o : Option NamedSlot) → slot_at p (map (shown_slot v) ss) ≡ o → is_in_use o ≡ true → IsHeldAt p v ss
    by_slot None is h = absurd cc
    by_slot (Some t) is h = let at = slot_here v p ss t all is in record { slot = t; found = is; at = at; held = sym at.is_held ∙ h }

-- ---- After a change at a place.

module _ (v w : SeatView) (p : ℕ) (g : Facts) (changes : Changes v w p g) where
  stands_else : (s : Slot) → (s.place ≡ p → ⊥) → Stands v s → Stands w s
  stands_else s not stands = fits_alike v.number w.number s.confirmed _ _ changes.number (changes.there s.place not) stands

  shown_else : (s : Slot) → (s.place ≡ p → ⊥) → shown_slot w s ≡ shown_slot v s
  shown_else s not = ap (λ (b : Bool). record { name = s.name; place = s.place; confirmed = s.confirmed; is_held = b }) (changes.there s.place not).held

  pub each_else : (ss : List Slot) → AllByRecursion (λ (s : Slot). s.place ≡ p → ⊥) ss → AllByRecursion (Stands v) ss → AllByRecursion (Stands w) ss
  each_else [] elsewhere all = tt
  each_else (s ∷ ss) elsewhere all = (stands_else s elsewhere.0 all.0, each_else ss elsewhere.1 all.1)

  pub all_shown_else : (ss : List Slot) → AllByRecursion (λ (s : Slot). s.place ≡ p → ⊥) ss → map (shown_slot w) ss ≡ map (shown_slot v) ss
  all_shown_else [] elsewhere = refl
  all_shown_else (s ∷ ss) elsewhere = ap₂ (λ (t : NamedSlot) (ts : List NamedSlot). t ∷ ts) (shown_else s elsewhere.0) (all_shown_else ss elsewhere.1)

  -- the position stays: each slot as it was, but held or not
  module _ (b : Bool) (held : g.held ≡ b) (position : g.position ≡ (facts p v.steps).position) (state : g.state ≡ cond b (held_by v.number) 1) where
    stands_held : (s : Slot) → s.place ≡ p → Stands v s → Stands w s
    stands_held s is stands = subst (λ (q : ℕ). Fits w.number s.confirmed (facts q w.steps)) (sym is)
        (fits_alike v.number w.number s.confirmed g (facts p w.steps) changes.number changes.here
        (stands.0 ∙ ap (λ (q : ℕ). (facts q v.steps).position) is ∙ sym position, state ∙ ap (λ (c : Bool). cond c (held_by v.number) 1) (sym held)))

    pub each_held : (ss : List Slot) → AllByRecursion (Stands v) ss → AllByRecursion (Stands w) ss
    each_held [] all = tt
    each_held (s ∷ ss) all = (⊎_elim (λ is. stands_held s is all.0) (λ not. stands_else s not all.0) (cases_eq s.place p), each_held ss all.1)

    shown_held : (s : Slot) → shown_slot w s ≡ if_at p (slot_with_hold b) (shown_slot v s)
    shown_held s = ⊎_elim
        (λ is. ap (λ (c : Bool). record { name = s.name; place = s.place; confirmed = s.confirmed; is_held = c }) (ap (λ (q : ℕ). (facts q w.steps).held) is ∙ changes.here.held ∙ held)
        ∙ ap (λ (c : Bool). cond c (slot_with_hold b (shown_slot v s)) (shown_slot v s)) (sym (eq-eqb s.place p is)))
        (λ not. shown_else s not ∙ ap (λ (c : Bool). cond c (slot_with_hold b (shown_slot v s)) (shown_slot v s)) (sym (ne_eqb s.place p not)))
        (cases_eq s.place p)

    pub all_shown_held : (ss : List Slot) → map (shown_slot w) ss ≡ map (if_at p (slot_with_hold b)) (map (shown_slot v) ss)
    all_shown_held [] = refl
    all_shown_held (s ∷ ss) = ap₂ (λ (t : NamedSlot) (ts : List NamedSlot). t ∷ ts) (shown_held s) (all_shown_held ss)

  -- the place stays held or free: its position is noted anew
  module _ (to by : ℕ) (is_to : to ≡ max (facts p v.steps).position by) (position : g.position ≡ to) (held : g.held ≡ (facts p v.steps).held) (state : g.state ≡ (facts p v.steps).state) where
    stands_noted : (s : Slot) → Stands v s → Stands w (slot_with_noted_position p to s)
    stands_noted s stands = ⊎_elim
        (λ is. subst (Stands w) (ap (λ (c : Bool). cond c (record s { confirmed = to }) s) (sym (eq-eqb s.place p is)))
        (subst (λ (q : ℕ). Fits w.number to (facts q w.steps)) (sym is)
        (fits_alike v.number w.number to g (facts p w.steps) changes.number changes.here
        (sym position, state ∙ ap (λ (q : ℕ). (facts q v.steps).state) (sym is) ∙ stands.1 ∙ ap (λ (c : Bool). cond c (held_by v.number) 1) (ap (λ (q : ℕ). (facts q v.steps).held) is ∙ sym held)))))
        (λ not. subst (Stands w) (ap (λ (c : Bool). cond c (record s { confirmed = to }) s) (sym (ne_eqb s.place p not))) (stands_else s not stands))
        (cases_eq s.place p)

    pub each_noted : (ss : List Slot) → AllByRecursion (Stands v) ss → AllByRecursion (Stands w) (map (slot_with_noted_position p to) ss)
    each_noted [] all = tt
    each_noted (s ∷ ss) all = (stands_noted s all.0, each_noted ss all.1)

    shown_noted : (s : Slot) → Stands v s → shown_slot w (slot_with_noted_position p to s) ≡ if_at p (slot_with_confirmed by) (shown_slot v s)
    shown_noted s stands = ⊎_elim
        (λ is. ap (λ (c : Bool). shown_slot w (cond c (record s { confirmed = to }) s)) (eq-eqb s.place p is)
        ∙ ap₂ (λ (n : ℕ) (c : Bool). record { name = s.name; place = s.place; confirmed = n; is_held = c })
        (is_to ∙ ap (λ (n : ℕ). max n by) (ap (λ (q : ℕ). (facts q v.steps).position) (sym is) ∙ sym stands.0))
        (ap (λ (q : ℕ). (facts q w.steps).held) is ∙ changes.here.held ∙ held ∙ ap (λ (q : ℕ). (facts q v.steps).held) (sym is))
        ∙ ap (λ (c : Bool). cond c (slot_with_confirmed by (shown_slot v s)) (shown_slot v s)) (sym (eq-eqb s.place p is)))
        (λ not. ap (λ (c : Bool). shown_slot w (cond c (record s { confirmed = to }) s)) (ne_eqb s.place p not) ∙ shown_else s not
        ∙ ap (λ (c : Bool). cond c (slot_with_confirmed by (shown_slot v s)) (shown_slot v s)) (sym (ne_eqb s.place p not)))
        (cases_eq s.place p)

    pub all_shown_noted : (ss : List Slot) → AllByRecursion (Stands v) ss → map (shown_slot w) (map (slot_with_noted_position p to) ss) ≡ map (if_at p (slot_with_confirmed by)) (map (shown_slot v) ss)
    all_shown_noted [] all = refl
    all_shown_noted (s ∷ ss) all = ap₂ (λ (t : NamedSlot) (ts : List NamedSlot). t ∷ ts) (shown_noted s all.0) (all_shown_noted ss all.1)

  -- what is used up stays so: the others stand as they did, and a dropped place isn't made again
  pub still_used : (ss ts : List Slot) (q : ℕ) → (Contains (places_in ss) q → Contains (places_in ts) q) → (q ≡ p → (facts p v.steps).state ≡ 2 → g.state ≡ 2) → IsUsedUp v ss q → IsUsedUp w ts q
  still_used ss ts q kept dropped is = ⊎_elim
      (λ there. inl (kept there))
      (λ gone. inr (⊎_elim
      (λ here. ap (λ (r : ℕ). (facts r w.steps).state) here ∙ changes.here.state ∙ dropped here (ap (λ (r : ℕ). (facts r v.steps).state) (sym here) ∙ gone))
      (λ not. (changes.there q not).state ∙ gone)
      (cases_eq q p)))
      is

  -- the slots are at the places where they were, and the places that were never made still aren't
  pub still_stands : (ss ts : List Slot) (places : ℕ) → StandsIn v ss places → p < places → places_in ts ≡ places_in ss → ((facts p v.steps).state ≡ 2 → g.state ≡ 2) → AllByRecursion (Stands w) ts → StandsIn w ts places
  still_stands ss ts places s low same dropped all = record {
    alone = changes.seats ∙ s.alone;
    few = s.few;
    used = λ q lower. still_used ss ts q (subst (λ (l : List ℕ). Contains l q) (sym same)) (λ _. dropped) (s.used q lower);
    unused = λ q high. let a = changes.there q (λ is. omega (arith, is, high, low)) in let u = s.unused q high in (a.state ∙ u.0, a.position ∙ u.1);
    each = all;
  }

-- a slot's place was made
stands_made : (number state : ℕ) (b : Bool) → state ≡ cond b (held_by number) 1 → state ≡ 0 → ⊥
stands_made number state true is zero = omega (arith, is, zero)
stands_made number state false is zero = omega (arith, is, zero)

abbrev IsMade : SeatView → ℕ → Type 0
IsMade v p = (facts p v.steps).state ≡ 0 → ⊥

all_made : (v : SeatView) (ss : List Slot) → AllByRecursion (Stands v) ss → AllByRecursion (IsMade v) (places_in ss)
all_made v [] all = tt
all_made v (s ∷ ss) all = (stands_made v.number (facts s.place v.steps).state (facts s.place v.steps).held all.0.1, all_made v ss all.1)

-- a place that is used up was made
pub used_made : (v : SeatView) (ss : List Slot) (places : ℕ) → StandsIn v ss places → (p : ℕ) → p < places → (facts p v.steps).state ≡ 0 → ⊥
used_made v ss places s p low = ⊎_elim
    (λ there. All-contains (IsMade v) (places_in ss) p (All-from_recursion (IsMade v) (places_in ss) (all_made v ss s.each)) there)
    (λ gone zero. omega (arith, gone, zero))
    (s.used p low)

-- a place that is held has the word of its seat, and so it was made
pub held_word : (v : SeatView) (p : ℕ) (ss : List Slot) → IsHeldAt p v ss → (facts p v.steps).state ≡ held_by v.number
held_word v p ss is = is.at.fits.1 ∙ ap (λ (b : Bool). cond b (held_by v.number) 1) is.held

pub is_made : (v : SeatView) (p : ℕ) (ss : List Slot) (places : ℕ) → StandsIn v ss places → IsHeldAt p v ss → p < places
is_made v p ss places s is = ⊎_elim
    (λ low. low)
    (λ high. let none = (s.unused p high).0 in let word = held_word v p ss is in absurd (omega (arith, none, word)))
    (cases_lt p places)

pub is_low : (v : SeatView) (p : ℕ) (ss : List Slot) (places : ℕ) → StandsIn v ss places → IsHeldAt p v ss → p < 1024
is_low v p ss places s is = let b = is_made v p ss places s is in let f = s.few in omega (arith, b, f)

-- ---- After steps that change nothing.
module _ (v w : SeatView) (number : w.number ≡ v.number) (seats : w.seats ≡ v.seats) (same : (q : ℕ) → Alike (facts q v.steps) (facts q w.steps)) where
  each_same : (ss : List Slot) → AllByRecursion (Stands v) ss → AllByRecursion (Stands w) ss
  each_same [] all = tt
  each_same (s ∷ ss) all = (fits_alike v.number w.number s.confirmed _ _ number (same s.place) all.0, each_same ss all.1)

  pub shown_same : (ss : List Slot) → map (shown_slot w) ss ≡ map (shown_slot v) ss
  shown_same [] = refl
  shown_same (s ∷ ss) = ap₂ (λ (t : NamedSlot) (ts : List NamedSlot). t ∷ ts)
      (ap (λ (b : Bool). record { name = s.name; place = s.place; confirmed = s.confirmed; is_held = b }) (same s.place).held) (shown_same ss)

  pub stands_same : (ss : List Slot) (places : ℕ) → StandsIn v ss places → StandsIn w ss places
  stands_same ss places s = record {
    alone = seats ∙ s.alone;
    few = s.few;
    used = λ q low. ⊎_elim (λ there. inl there) (λ gone. inr ((same q).state ∙ gone)) (s.used q low);
    unused = λ q high. ((same q).state ∙ (s.unused q high).0, (same q).position ∙ (s.unused q high).1);
    each = each_same ss s.each;
  }

pub all_alike : (v w : SeatView) (p : ℕ) (g : Facts) → Changes v w p g → Alike (facts p v.steps) g → (q : ℕ) → Alike (facts q v.steps) (facts q w.steps)
all_alike v w p g changes a q = ⊎_elim
    (λ is. subst (λ (r : ℕ). Alike (facts r v.steps) (facts r w.steps)) (sym is) (alike_then (facts p v.steps) g (facts p w.steps) a changes.here))
    (λ not. changes.there q not)
    (cases_eq q p)
