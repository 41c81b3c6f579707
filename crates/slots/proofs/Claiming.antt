-- What a claim of a slot's place finds, and leaves.
use Rattle.std.proofs.Common.{◌≡◌, ℕ, zero, suc, ◌<◌, ◌⊎◌, inl, inr, Bool, true, false, cond, eqb, List, map, Option, Some, None, Result, Ok, Err, MatchResult, OnOk, OnErr, IfOk, option_map, ◌||◌, refl, sym, ap, subst, ◌∙◌, arith, ⊎_elim, ne_eqb}
use Rattle.std.specs.List.{AllByRecursion}
use Rattle.slots.specs.declared.by_name.directory.Directory.{Directory}
use Rattle.slots.specs.declared.fault.SlotFault.{SlotFault}
use Rattle.slots.specs.declared.fault.SlotFault.TheVariants as faults
use Rattle.slots.specs.declared.words_kept.step.SlotKind.TheVariants.{Claim}
use Rattle.slots.specs.declared.words_kept.step.SeatView.{SeatView}
use Rattle.slots.specs.Directories as names
use Rattle.slots.specs.Facts.{Facts, facts, facts_after}
use Rattle.slots.specs.Rule.{slot_step}
use Rattle.slots.specs.Seats.{Did, Holds, IsRefusal}
use Rattle.slots.specs.Standings.{held_by}
use Rattle.slots.specs.declared.by_name.slot.Slot.{Slot}
use Rattle.slots.specs.State.{IsOnlyAt, NamedSlot, SlotsState, RefusedExactly, claim_refusal, claim_refusal_of, holds_at, if_at, if_named, is_in_use, place_of, slot_of, slot_with_hold, slots_after_claim}
use Rattle.slots.specs.Keeping.{IsNamed, StandsIn, shown_slot, slots_in_view}
use Rattle.slots.proofs.NamedFacts.{Alike, Changes, one_step}
use Rattle.slots.proofs.Names.{NamedThere, all_named_there, at_as_named, only_shown, slot_as_named, place_shown}
use Rattle.slots.proofs.NamedStanding.{SlotAt, slot_here, each_held, all_shown_held, still_stands, all_alike, stands_same, shown_same}

-- what is refused was never made, was dropped, or is held
pub refusal_cases : (e : SlotFault) (x : ℕ) → IsRefusal e x → ((x ≡ 0) × (e ≡ faults.Missing)) ⊎ (((x ≡ 2) × (e ≡ faults.Missing)) ⊎ ((2 < x) × (e ≡ faults.InUse)))
refusal_cases e zero r = inl (refl, r)
refusal_cases e (suc zero) r = absurd (omega (arith, r.0))
refusal_cases e (suc (suc zero)) r = inr (inl (refl, r))
refusal_cases e (suc (suc (suc n))) r = inr (inr (
    subst (λ (b : Bool). cond b (e ≡ faults.Missing) ((2 < suc (suc (suc n))) × (e ≡ faults.InUse))) (ne_eqb (suc (suc (suc n))) 2 (λ h. omega (arith, h)))
    (subst (λ (b : Bool). cond b (e ≡ faults.Missing) (cond (eqb (suc (suc (suc n))) 2) (e ≡ faults.Missing) ((2 < suc (suc (suc n))) × (e ≡ faults.InUse)))) (ne_eqb (suc (suc (suc n))) 0 (λ h. omega (arith, h))) r)
    ))

pub not_free : (e : SlotFault) (x : ℕ) → IsRefusal e x → x ≡ 1 → ⊥
not_free e x r is = ⊎_elim (λ t. omega (arith, is, t.0)) (λ u. ⊎_elim (λ t. omega (arith, is, t.0)) (λ t. omega (arith, is, t.0)) u) (refusal_cases e x r)

-- a place whose slot is free or held is refused only where it is held
module _ (number : ℕ) (f : Facts) (state : f.state ≡ cond f.held (held_by number) 1) where
  by_held : (b : Bool) → f.held ≡ b → f.state ≡ cond b (held_by number) 1
  by_held b is = state ∙ ap (λ (c : Bool). cond c (held_by number) 1) is

  pub free_there : 1 ≡ f.state → f.held ≡ false
  free_there is = by_test f.held refl
    where
      by_test : (b : Bool) → f.held ≡ b → f.held ≡ false
      by_test true h = let s = by_held true h in absurd (omega (arith, s, is))
      by_test false h = h

  pub held_there : (x : ℕ) (e : SlotFault) → x ≡ f.state → IsRefusal e x → (f.held ≡ true) × (e ≡ faults.InUse)
  held_there x e is r = by_test f.held refl
    where
      by_test : (b : Bool) → f.held ≡ b → (f.held ≡ true) × (e ≡ faults.InUse)
      by_test false h = let s = by_held false h in absurd (not_free e x r (is ∙ s))
      by_test true h = let s = by_held true h in (h, ⊎_elim (λ t. let z = t.0 in absurd (omega (arith, s, is, z))) (λ u. ⊎_elim (λ t. let z = t.0 in absurd (omega (arith, s, is, z))) (λ t. t.1) u) (refusal_cases e x r))

-- the slot that a name was found by
pub record Found (v : SeatView) (ss : List Slot) (name : List ℕ) (p : ℕ) : Type 0 where
  pub slot : NamedSlot
  pub of : slot_of name (map (shown_slot v) ss) ≡ Some slot
  pub at : SlotAt p v slot
  pub all : AllByRecursion (NamedThere name p) ss

pub found_slot : (v : SeatView) (d : Directory) (ss : List Slot) (places : ℕ) (name : List ℕ) (p : ℕ) → IsNamed d ss places → StandsIn v ss places → names.place_of d name ≡ Some p → Found v ss name p
found_slot v d ss places name p named stands found = by_slot (slot_of name (map (shown_slot v) ss)) refl
  where
    all : AllByRecursion (NamedThere name p) ss
    all = all_named_there d name p found ss (λ other. named.one name other p) named.listed

    is : option_map (λ (t : NamedSlot). t.place) (slot_of name (map (shown_slot v) ss)) ≡ Some p
    is = place_shown v name ss ∙ sym (named.same name) ∙ found

    by_slot : (o : Option NamedSlot) → slot_of name (map (shown_slot v) ss) ≡ o → Found v ss name p
    by_slot None none = let never : Option.None ≡ Option.Some p = sym (ap (option_map (λ (t : NamedSlot). t.place)) none) ∙ is in absurd cc
    by_slot (Some t) there = record { slot = t; of = there; at = slot_here v p ss t stands.each (sym (slot_as_named v name p ss all) ∙ there); all = all }

module _ {A : Type 0} (place : A → ℕ) (v w : SeatView) (d : Directory) (ss : List Slot) (places : ℕ) (name : List ℕ) (p : ℕ) (named : IsNamed d ss places) (stands : StandsIn v ss places) (found : names.place_of d name ≡ Some p) where
  abbrev pub IsClaim : Result A SlotFault → Type 0
  IsClaim r = MatchResult r
      (λ lease. (place lease ≡ p) × Holds p w × Did Claim p 1 (held_by v.number) v w)
      (λ e. (x : ℕ) × IsRefusal e x × Did Claim p x x v w)

  low : p < 1024
  low = let b = named.below name p found in let f = stands.few in omega (arith, b, f)

  the : Found v ss name p
  the = found_slot v d ss places name p named stands found

  won : Did Claim p 1 (held_by v.number) v w → Changes v w p (facts_after (slot_step Claim p 1 (held_by v.number)) (facts p v.steps))
  won did = one_step v w (slot_step Claim p 1 (held_by v.number)) did.0

  lost : (e : SlotFault) (x : ℕ) → IsRefusal e x → Did Claim p x x v w → (q : ℕ) → Alike (facts q v.steps) (facts q w.steps)
  lost e x r did = all_alike v w p _ (one_step v w (slot_step Claim p x x) did.0) (record {
    state = did.1.alone stands.alone low;
    position = refl;
    held = ap (λ (b : Bool). b || (facts p v.steps).held) (ne_eqb x 1 (not_free e x r));
  })

  pub claim_stands : (r : Result A SlotFault) → IsClaim r → StandsIn w ss places
  claim_stands (Ok lease) is = still_stands v w p _ (won is.2) ss ss places stands (named.below name p found) refl (λ e. let f = is.2.1.alone stands.alone low in omega (arith, e, f))
      (each_held v w p _ (won is.2) true refl refl refl ss stands.each)
  claim_stands (Err e) is = stands_same v w (ap (λ (z : SeatView). z.number) is.2.0) (ap (λ (z : SeatView). z.seats) is.2.0) (lost e is.0 is.1 is.2) ss places stands

  now_held : Did Claim p 1 (held_by v.number) v w → slots_in_view w ss places ≡ slots_after_claim name (slots_in_view v ss places)
  now_held did = ap (λ ts. record { slots = ts; places = places }) (all_shown_held v w p _ (won did) true refl refl refl ss ∙ at_as_named v name p (slot_with_hold true) ss the.all)

  pub claim_ok : (s : SlotsState) → slots_in_view v ss places ≡ s → (r : Result A SlotFault) → IsClaim r → OnOk r (slots_in_view w ss places ≡ slots_after_claim name s)
  claim_ok s old (Ok lease) is = now_held is.2 ∙ ap (slots_after_claim name) old
  claim_ok s old (Err e) is = tt

  pub claim_err : (s : SlotsState) → slots_in_view v ss places ≡ s → (r : Result A SlotFault) → IsClaim r → OnErr r (slots_in_view w ss places ≡ s)
  claim_err s old (Ok lease) is = tt
  claim_err s old (Err e) is = ap (λ ts. record { slots = ts; places = places })
      (shown_same v w (ap (λ (z : SeatView). z.number) is.2.0) (ap (λ (z : SeatView). z.seats) is.2.0) (lost e is.0 is.1 is.2) ss)
      ∙ old

  pub claim_lease : (s : SlotsState) → slots_in_view v ss places ≡ s → (r : Result A SlotFault) → IsClaim r
      → IfOk r (λ lease. (place_of name (slots_in_view w ss places) ≡ Some (place lease)) × (holds_at (place lease) s ≡ false) × (holds_at (place lease) (slots_in_view w ss places) ≡ true))
  claim_lease s old (Err e) is = tt
  claim_lease s old (Ok lease) is =
      let after = found_slot w d ss places name p named (claim_stands (Ok lease) is) found in (
        place_shown w name ss ∙ sym (named.same name) ∙ found ∙ ap (λ (q : ℕ). Option.Some q) (sym is.0),
        ap (holds_at (place lease)) (sym old) ∙ ap (λ (q : ℕ). holds_at q (slots_in_view v ss places)) is.0
            ∙ ap is_in_use (sym (slot_as_named v name p ss the.all) ∙ the.of) ∙ the.at.is_held ∙ free_there v.number (facts p v.steps) the.at.fits.1 (is.2.1.alone stands.alone low),
        ap (λ (q : ℕ). holds_at q (slots_in_view w ss places)) is.0
            ∙ ap is_in_use (sym (slot_as_named w name p ss after.all) ∙ after.of) ∙ after.at.is_held ∙ is.1,
      )

  pub claim_within : (r : Result A SlotFault) → IsClaim r → IfOk r (λ lease. place lease < 16)
  claim_within (Err e) is = tt
  claim_within (Ok lease) is = let b = named.below name p found in let f = stands.few in let e = is.0 in omega (arith, b, f, e)

  pub claim_only : (s : SlotsState) → slots_in_view v ss places ≡ s → (r : Result A SlotFault) → IsClaim r → IfOk r (λ lease. IsOnlyAt name (place lease) s.slots)
  claim_only s old (Err e) is = tt
  claim_only s old (Ok lease) is = subst (λ (t : SlotsState). IsOnlyAt name (place lease) t.slots) old (subst (λ (q : ℕ). IsOnlyAt name q (map (shown_slot v) ss)) (sym is.0) (only_shown v name p ss the.all))

  pub claim_refused : (r : Result A SlotFault) → IsClaim r → RefusedExactly (claim_refusal name (slots_in_view v ss places)) r
  claim_refused (Ok lease) is = ap claim_refusal_of the.of
      ∙ ap (λ (b : Bool). cond b (Option.Some faults.InUse) None) (the.at.is_held ∙ free_there v.number (facts p v.steps) the.at.fits.1 (is.2.1.alone stands.alone low))
  claim_refused (Err e) is = let h = held_there v.number (facts p v.steps) the.at.fits.1 is.0 e (is.2.1.alone stands.alone low) is.1 in
      ap claim_refusal_of the.of ∙ ap (λ (b : Bool). cond b (Option.Some faults.InUse) None) (the.at.is_held ∙ h.0) ∙ ap (λ (x : SlotFault). Option.Some x) (sym h.1)

-- what is done at a name's place is done to the slot of the name
pub done_by_name : (v : SeatView) (d : Directory) (ss : List Slot) (places : ℕ) (s : SlotsState) (p : ℕ) (change : NamedSlot → NamedSlot) → IsNamed d ss places → StandsIn v ss places → slots_in_view v ss places ≡ s
    → (name : List ℕ) → place_of name s ≡ Some p → map (if_at p change) s.slots ≡ map (if_named name change) s.slots
done_by_name v d ss places s p change named stands old name found = subst (λ (t : SlotsState). map (if_at p change) t.slots ≡ map (if_named name change) t.slots) old
    (at_as_named v name p change ss (found_slot v d ss places name p named stands (named.same name ∙ sym (place_shown v name ss) ∙ ap (place_of name) old ∙ found)).all)
