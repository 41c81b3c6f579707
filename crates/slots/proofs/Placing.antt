-- A place that was made, and its name or what is left without one.
use Rattle.std.proofs.Common.{◌≡◌, ℕ, ◌+◌, ◌<◌, inl, inr, Bool, true, false, cond, eqb, List, [], ◌∷◌, ◌++◌, map, Option, Some, None, Result, Ok, Err, MatchResult, IfErr, refl, sym, ap, ap₂, subst, ◌∙◌, arith, ⊎_elim, ne_eqb}
use Rattle.std.specs.List.{AllByRecursion, Contains}
use Rattle.std.specs.Prelude.{is_some}
use Rattle.std.specs.Result.{IsErrAnd}
use Rattle.std.proofs.lemmas.Bool.{cases_eq}
use Rattle.std.proofs.lemmas.List.Elements.{Contains-append_left, Contains-push}
use Rattle.slots.specs.declared.by_name.directory.Directory.{Directory}
use Rattle.slots.specs.declared.fault.SlotFault.{SlotFault}
use Rattle.slots.specs.declared.fault.SlotFault.TheVariants as faults
use Rattle.slots.specs.declared.words_kept.step.SlotKind.TheVariants.{Retire}
use Rattle.slots.specs.declared.words_kept.step.SeatView.{SeatView}
use Rattle.slots.specs.Directories as names
use Rattle.slots.specs.Facts.{Facts, facts, facts_after}
use Rattle.slots.specs.Rule.{slot_step}
use Rattle.slots.specs.Seats.{Created, Did, IsRefusal}
use Rattle.slots.specs.Standings.{held_by}
use Rattle.slots.specs.declared.by_name.slot.Slot.{Slot}
use Rattle.slots.specs.State.{IsRefusalOrMemory, NamedSlot, RefusedOrMemory, create_refusal}
use Rattle.slots.specs.Keeping.{IsNamed, IsUsedUp, Stands, StandsIn, places_in, shown_slot, slots_in_view}
use Rattle.slots.proofs.NamedFacts.{Changes, changes_then, one_step}
use Rattle.slots.proofs.Names.{there_shown}
use Rattle.slots.proofs.NamedStanding.{all_shown_else, each_else, still_used}
use Rattle.slots.proofs.Listing.{all_snoc}
use Rattle.slots.proofs.NamedCreating.{created_changes, is_next, left, left_position}
use Rattle.slots.proofs.Claiming.{not_free}

map_snoc : {A : Type 0} (f : Slot → A) (ss : List Slot) (s : Slot) → map f (ss ++ s ∷ []) ≡ map f ss ++ f s ∷ []
map_snoc f [] s = refl
map_snoc f (t ∷ ss) s = ap (λ l. f t ∷ l) (map_snoc f ss s)

module _ (v w : SeatView) (position p : ℕ) (d : Directory) (ss : List Slot) (places : ℕ) (named : IsNamed d ss places) (stands : StandsIn v ss places) (low : p < 16) (made : Created v position p w) where
  next : p ≡ places
  next = is_next v w position p ss places stands low made

  changes : Changes v w p (left v w position p ss places stands low made)
  changes = created_changes v w position p ss places stands low made

  elsewhere_in : (ts : List Slot) → AllByRecursion (λ (s : Slot). names.place_of d s.name ≡ Some s.place) ts → AllByRecursion (λ (s : Slot). s.place ≡ p → ⊥) ts
  elsewhere_in [] all = tt
  elsewhere_in (s ∷ ts) all = (λ is. let b = named.below s.name s.place all.0 in let n = next in omega (arith, is, b, n), elsewhere_in ts all.1)

  elsewhere : AllByRecursion (λ (s : Slot). s.place ≡ p → ⊥) ss
  elsewhere = elsewhere_in ss named.listed

  -- the place is used up: it is a slot's, or was dropped
  module _ (z : SeatView) (g : Facts) (at_last : Changes v z p g) where
    stands_with : (ts : List Slot) → ((q : ℕ) → Contains (places_in ss) q → Contains (places_in ts) q) → IsUsedUp z ts p → AllByRecursion (Stands z) ts → StandsIn z ts (places + 1)
    stands_with ts kept here all = record {
      alone = at_last.seats ∙ stands.alone;
      few = let n = next in omega (arith, n, low);
      used = λ q lower. ⊎_elim
          (λ is. subst (IsUsedUp z ts) (sym is) here)
          (λ not. let n = next in still_used v z p g at_last ss ts q (kept q) (λ is. absurd (not is)) (stands.used q (omega (arith, n, not, lower))))
          (cases_eq q p);
      unused = λ q high. let n = next in let a = at_last.there q (λ is. omega (arith, is, n, high)) in let u = stands.unused q (omega (arith, high)) in (a.state ∙ u.0, a.position ∙ u.1);
      each = all;
    }

  each_still : AllByRecursion (Stands w) ss
  each_still = each_else v w p _ changes ss elsewhere stands.each

  made_shown : map (shown_slot w) ss ≡ map (shown_slot v) ss
  made_shown = all_shown_else v w p _ changes ss elsewhere

  stands_new : (s : Slot) → s.place ≡ p → s.confirmed ≡ position → Stands w s
  stands_new s is at = subst (λ (q : ℕ). (s.confirmed ≡ (facts q w.steps).position) × ((facts q w.steps).state ≡ cond (facts q w.steps).held (held_by w.number) 1)) (sym is) (
    at ∙ sym (changes.here.position ∙ left_position v w position p ss places stands low made),
    changes.here.state ∙ ap (λ (b : Bool). cond b (held_by w.number) 1) (sym changes.here.held),
  )

  -- the place was given its name
  pub named_stands : (s : Slot) → s.place ≡ p → s.confirmed ≡ position → StandsIn w (ss ++ s ∷ []) (places + 1)
  named_stands s is at = stands_with w _ changes (ss ++ s ∷ [])
      (λ q there. subst (λ (l : List ℕ). Contains l q) (sym (map_snoc (λ (t : Slot). t.place) ss s)) (Contains-append_left (places_in ss) (s.place ∷ []) q there))
      (inl (subst (λ (l : List ℕ). Contains l p) (sym (map_snoc (λ (t : Slot). t.place) ss s)) (subst (Contains (places_in ss ++ s.place ∷ [])) is (Contains-push (places_in ss) s.place))))
      (all_snoc (Stands w) ss s each_still (stands_new s is at))

  pub named_shown : (s : Slot) → s.place ≡ p → map (shown_slot w) (ss ++ s ∷ []) ≡ map (shown_slot v) ss ++ record { name = s.name; place = places; confirmed = s.confirmed; is_held = false } ∷ []
  named_shown s is = map_snoc (shown_slot w) ss s
      ∙ ap₂ (λ (l : List NamedSlot) (t : NamedSlot). l ++ t ∷ []) made_shown
      (ap₂ (λ (q : ℕ) (b : Bool). record { name = s.name; place = q; confirmed = s.confirmed; is_held = b }) (is ∙ next) (ap (λ (q : ℕ). (facts q w.steps).held) is ∙ changes.here.held))

  -- the place was refused its name, and was dropped
  module _ (z : SeatView) where
    abbrev pub IsDrop : Result (Unit {0}) SlotFault → Type 0
    IsDrop r = MatchResult r (λ _. Did Retire p 1 2 w z) (λ e. (x : ℕ) × IsRefusal e x × Did Retire p x x w z)

    dropped : (r : Result (Unit {0}) SlotFault) → IsDrop r → Did Retire p 1 2 w z
    dropped (Ok x) is = is
    dropped (Err e) is = absurd (not_free e is.0 is.1 (is.2.1.alone (changes.seats ∙ stands.alone) (omega (arith, low)) ∙ changes.here.state))

    gone : Did Retire p 1 2 w z → Changes w z p (facts_after (slot_step Retire p 1 2) (facts p w.steps))
    gone did = one_step w z (slot_step Retire p 1 2) did.0

    pub dropped_stands : (r : Result (Unit {0}) SlotFault) → IsDrop r → StandsIn z ss (places + 1)
    dropped_stands r is = let after = gone (dropped r is) in
        stands_with z _ (changes_then v w z p _ _ changes after) ss (λ q there. there) (inr after.here.state) (each_else w z p _ after ss elsewhere each_still)

    pub dropped_shown : (r : Result (Unit {0}) SlotFault) → IsDrop r → map (shown_slot z) ss ≡ map (shown_slot v) ss
    dropped_shown r is = all_shown_else w z p _ (gone (dropped r is)) ss elsewhere ∙ made_shown

-- ---- Refusals.

pub if_err : {A : Type 0} (P : SlotFault → Type 0) (r : Result A SlotFault) (e : SlotFault) → IsErrAnd r (λ d. d ≡ e) → P e → IfErr r P
if_err P (Ok x) e is holds = tt
if_err P (Err d) e is holds = subst P (sym is) holds

pub refused_no_place : {A : Type 0} (o : Option SlotFault) (r : Result A SlotFault) (e : SlotFault) → IsErrAnd r (λ d. d ≡ e) → e ≡ faults.NoPlace → o ≡ Some faults.NoPlace → RefusedOrMemory o r
refused_no_place o (Ok x) e is none refusal = absurd is
refused_no_place o (Err d) e is none refusal = subst (IsRefusalOrMemory o) (sym (is ∙ none)) refusal

pub none_of : (o : Option ℕ) → is_some o ≡ false → o ≡ None
none_of None is = refl
none_of (Some n) is = absurd cc

module _ (v : SeatView) (d : Directory) (ss : List Slot) (places : ℕ) (name : List ℕ) (named : IsNamed d ss places) where
  pub exists : is_some (names.place_of d name) ≡ true → create_refusal name (slots_in_view v ss places) ≡ Some faults.Exists
  exists is = ap (λ (b : Bool). cond b (Option.Some faults.Exists) (cond (eqb places 16) (Option.Some faults.NoPlace) None)) (there_shown v d ss places name named ∙ is)

  not_there : is_some (names.place_of d name) ≡ false → create_refusal name (slots_in_view v ss places) ≡ cond (eqb places 16) (Option.Some faults.NoPlace) None
  not_there is = ap (λ (b : Bool). cond b (Option.Some faults.Exists) (cond (eqb places 16) (Option.Some faults.NoPlace) None)) (there_shown v d ss places name named ∙ is)

  pub all_used : is_some (names.place_of d name) ≡ false → places ≡ 16 → create_refusal name (slots_in_view v ss places) ≡ Some faults.NoPlace
  all_used is full = not_there is ∙ ap (λ (n : ℕ). cond (eqb n 16) (Option.Some faults.NoPlace) None) full

  pub not_refused : is_some (names.place_of d name) ≡ false → places < 16 → create_refusal name (slots_in_view v ss places) ≡ None
  not_refused is low = not_there is ∙ ap (λ (b : Bool). cond b (Option.Some faults.NoPlace) None) (ne_eqb places 16 (λ e. omega (arith, e, low)))
