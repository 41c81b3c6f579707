-- What a claim, a create and a confirmation leave of the other places, and of their own.
use Rattle.std.proofs.Common.{◌≡◌, ℕ, Bool, true, false, cond, List, map, Option, Some, None, Result, Ok, Err, OnOk, IfErr, option_map, refl, sym, ap, subst, ◌∙◌}
use Rattle.slots.specs.declared.fault.SlotFault.{SlotFault}
use Rattle.slots.specs.declared.fault.SlotFault.TheVariants as faults
use Rattle.std.proofs.lemmas.Option.{same_Some}
use Rattle.slots.specs.State.{IsHeldAs, IsOnlyAt, IsUnnamed, NamedSlot, SlotsState, claim_refusal, claim_refusal_of, slots_after_claim, confirmed_of, slot_with_confirmed, slots_after_create, slot_with_hold, holds_at, if_at, is_in_use, place_of, slots_after_raise_by_name, slots_after_raise, slots_after_refusal, slots_after_release, slots_after_release_by_name, slot_at, slot_of}
use Rattle.slots.proofs.Leasing.{at_named, changed_at, found_at, free_same, held_behind, held_else, held_raised, not_in_use, once_around, still_named, unnamed_same}

-- a claim holds its place alone
pub claimed_else : (name : List ℕ) (p : ℕ) (s t : SlotsState) → IsOnlyAt name p s.slots → t ≡ slots_after_claim name s → (q : ℕ) → (q ≡ p → ⊥) → holds_at q t ≡ holds_at q s
claimed_else name p s t only is q not = ap (holds_at q) is ∙ ap (λ (l : List NamedSlot). is_in_use (slot_at q l)) (at_named name p (slot_with_hold true) s.slots only) ∙ held_else q p (slot_with_hold true) s.slots (λ _. refl) not

-- and its slot stands where it stood
pub claimed_value : (name : List ℕ) (p : ℕ) (s t : SlotsState) → IsOnlyAt name p s.slots → t ≡ slots_after_claim name s → confirmed_of (slot_at p t.slots) ≡ confirmed_of (slot_of name s.slots)
claimed_value name p s t only is = ap (λ (z : SlotsState). confirmed_of (slot_at p z.slots)) is
    ∙ ap (λ (l : List NamedSlot). confirmed_of (slot_at p l)) (at_named name p (slot_with_hold true) s.slots only)
    ∙ ap confirmed_of (changed_at p (slot_with_hold true) s.slots (λ _. refl))
    ∙ same (slot_at p s.slots)
    ∙ ap confirmed_of (sym (found_at name p s.slots only))
  where
    same : (o : Option NamedSlot) → confirmed_of (option_map (slot_with_hold true) o) ≡ confirmed_of o
    same None = refl
    same (Some x) = refl

refused_same : (fault : SlotFault) (s : SlotsState) (q : ℕ) → holds_at q (slots_after_refusal fault s) ≡ holds_at q s
refused_same faults.Missing s q = refl
refused_same faults.InUse s q = refl
refused_same faults.Exists s q = refl
refused_same faults.NoPlace s q = refl
refused_same faults.Memory s q = refl

pub create_else : (name : List ℕ) (position : ℕ) (s t : SlotsState) {A : Type 0} (r : Result A SlotFault) → OnOk r (t ≡ slots_after_create name position s) → IfErr r (λ fault. t ≡ slots_after_refusal fault s) → (q : ℕ) → holds_at q t ≡ holds_at q s
create_else name position s t (Ok place) ok err q = ap (holds_at q) ok ∙ held_behind q s.slots (record { name = name; place = s.places; confirmed = position; is_held = false }) refl
create_else name position s t (Err fault) ok err q = ap (holds_at q) err ∙ refused_same fault s q

-- a slot that nobody holds can be claimed
pub claims_free : (name : List ℕ) (p : ℕ) (s : SlotsState) → IsOnlyAt name p s.slots → IsHeldAs false p s.slots → place_of name s ≡ Some p → (fault : SlotFault) → claim_refusal name s ≡ Some fault → ⊥
claims_free name p s only free found fault refusal = by_slot (slot_of name s.slots) refl
  where
    by_slot : (o : Option NamedSlot) → slot_of name s.slots ≡ o → ⊥
    by_slot None none = let never : Option.None ≡ Option.Some p = sym (ap (option_map (λ (t : NamedSlot). t.place)) none) ∙ found in cc
    by_slot (Some t) there =
        let held : t.is_held ≡ false = ap is_in_use (sym there ∙ found_at name p s.slots only) ∙ not_in_use p s.slots free in
        let never : Option.None ≡ Option.Some fault = ap (λ (b : Bool). cond b (Option.Some faults.InUse) None) (sym held) ∙ ap claim_refusal_of (sym there) ∙ refusal in cc

-- claimed, confirmed and released, it was confirmed
pub around_free : (name : List ℕ) (p by : ℕ) (s t u w : SlotsState) → IsOnlyAt name p s.slots → IsHeldAs false p s.slots → t ≡ slots_after_claim name s → u ≡ slots_after_raise p by t → w ≡ slots_after_release p u → w ≡ slots_after_raise_by_name name by s
around_free name p by s t u w only free claim confirm release =
    release ∙ ap (slots_after_release p) (confirm ∙ ap (slots_after_raise p by) claim)
    ∙ ap (λ (l : List NamedSlot). record { slots = map (if_at p (slot_with_hold false)) (map (if_at p (slot_with_confirmed by)) l); places = s.places }) (at_named name p (slot_with_hold true) s.slots only)
    ∙ ap (λ (l : List NamedSlot). record { slots = l; places = s.places }) (once_around p by s.slots free ∙ sym (at_named name p (slot_with_confirmed by) s.slots only))

pub held_confirmed : (p by : ℕ) (s t : SlotsState) → t ≡ slots_after_raise p by s → (q : ℕ) → holds_at q t ≡ holds_at q s
held_confirmed p by s t is q = ap (holds_at q) is ∙ held_raised q p by s.slots

pub claim_place : (name : List ℕ) (p q : ℕ) (s t : SlotsState) → t ≡ slots_after_claim name s → place_of name t ≡ Some q → place_of name s ≡ Some p → q ≡ p
claim_place name p q s t is now before = same_Some q p (sym now ∙ ap (place_of name) is ∙ still_named name (slot_with_hold true) s.slots (λ _. (refl, refl)) ∙ before)

-- a name that no slot has
pub none_raised : (name : List ℕ) (by : ℕ) (s t : SlotsState) → IsUnnamed name s.slots → s ≡ t → t ≡ slots_after_raise_by_name name by t
none_raised name by s t none is = subst (λ (z : SlotsState). z ≡ slots_after_raise_by_name name by z) is (ap (λ (l : List NamedSlot). record { slots = l; places = s.places }) (sym (unnamed_same name (slot_with_confirmed by) s.slots none)))

pub none_released : (name : List ℕ) (s t : SlotsState) → IsUnnamed name s.slots → s ≡ t → t ≡ slots_after_release_by_name name t
none_released name s t none is = subst (λ (z : SlotsState). z ≡ slots_after_release_by_name name z) is (ap (λ (l : List NamedSlot). record { slots = l; places = s.places }) (sym (unnamed_same name (slot_with_hold false) s.slots none)))

pub raised_at : (name : List ℕ) (p by : ℕ) (s t : SlotsState) → IsOnlyAt name p s.slots → t ≡ slots_after_raise_by_name name by s → t ≡ slots_after_raise p by s
raised_at name p by s t only is = is ∙ ap (λ (l : List NamedSlot). record { slots = l; places = s.places }) (at_named name p (slot_with_confirmed by) s.slots only)

-- a slot that nobody holds is free already
pub free_already : (name : List ℕ) (p : ℕ) (s : SlotsState) → IsOnlyAt name p s.slots → IsHeldAs false p s.slots → s ≡ slots_after_release_by_name name s
free_already name p s only free = ap (λ (l : List NamedSlot). record { slots = l; places = s.places }) (sym (free_same p s.slots free) ∙ sym (at_named name p (slot_with_hold false) s.slots only))

pub released_here : (p : ℕ) (s t : SlotsState) → t ≡ slots_after_release p s → holds_at p t ≡ false
released_here p s t is = ap (holds_at p) is ∙ ap is_in_use (changed_at p (slot_with_hold false) s.slots (λ _. refl)) ∙ let_go (slot_at p s.slots)
  where
    let_go : (o : Option NamedSlot) → is_in_use (option_map (slot_with_hold false) o) ≡ false
    let_go None = refl
    let_go (Some x) = refl

pub released_else : (p : ℕ) (s t : SlotsState) → t ≡ slots_after_release p s → (q : ℕ) → (q ≡ p → ⊥) → holds_at q t ≡ holds_at q s
released_else p s t is q not = ap (holds_at q) is ∙ held_else q p (slot_with_hold false) s.slots (λ _. refl) not
