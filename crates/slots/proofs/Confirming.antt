-- What reading and raising a position find, and leave.
use Rattle.std.proofs.Common.{◌≡◌, ℕ, ◌<◌, max, Bool, true, false, cond, eqb, List, [], ◌∷◌, map, Option, Some, option_map, refl, sym, ap, ◌∙◌}
use Rattle.slots.specs.declared.words_kept.step.SlotKind.TheVariants.{Raise, Read}
use Rattle.slots.specs.declared.words_kept.step.SeatView.{SeatView}
use Rattle.slots.specs.Facts.{facts, facts_after}
use Rattle.slots.specs.Rule.{slot_step}
use Rattle.slots.specs.Seats.{DidAt}
use Rattle.slots.specs.declared.by_name.slot.Slot.{Slot}
use Rattle.slots.specs.State.{NamedSlot, confirmed_of, if_at, slot_at, slot_with_confirmed}
use Rattle.slots.specs.Keeping.{StandsIn, shown_slot, slot_with_noted_position}
use Rattle.slots.proofs.NamedFacts.{Alike, Changes, one_step}
use Rattle.slots.proofs.Listing.{places_noted}
use Rattle.slots.proofs.NamedStanding.{IsHeldAt, all_alike, all_shown_noted, each_noted, is_low, is_made, still_stands}

-- where the seat is alone it finds what it has left
pub read_same : (v w : SeatView) (p x : ℕ) → v.seats ≡ 1 → p < 1024 → DidAt Read p x x v w → (q : ℕ) → Alike (facts q v.steps) (facts q w.steps)
read_same v w p x one low did = all_alike v w p _ (one_step v w (slot_step Read p x x) did.0) (record { state = refl; position = did.1.alone one low; held = refl })

confirmed_there : (p by : ℕ) (ss : List NamedSlot) → slot_at p (map (if_at p (slot_with_confirmed by)) ss) ≡ option_map (slot_with_confirmed by) (slot_at p ss)
confirmed_there p by [] = refl
confirmed_there p by (s ∷ ss) = by_test (eqb s.place p) refl (confirmed_there p by ss)
  where
    rest : Option NamedSlot
    rest = slot_at p (map (if_at p (slot_with_confirmed by)) ss)

    by_test : (b : Bool) → eqb s.place p ≡ b → rest ≡ option_map (slot_with_confirmed by) (slot_at p ss)
        → cond (eqb (cond b (slot_with_confirmed by s) s).place p) (Some (cond b (slot_with_confirmed by s) s)) rest ≡ option_map (slot_with_confirmed by) (cond b (Some s) (slot_at p ss))
    by_test true is later = ap (λ (b : Bool). cond b (Some (slot_with_confirmed by s)) rest) is
    by_test false is later = ap (λ (b : Bool). cond b (Some s) rest) is ∙ later

module _ (v w : SeatView) (p by to : ℕ) (ss : List Slot) (places : ℕ) (stands : StandsIn v ss places) (is : IsHeldAt p v ss) (raised : (x : ℕ) × (to ≡ max x by) × DidAt Raise p x to v w) where
  low : p < 1024
  low = is_low v p ss places stands is

  changes : Changes v w p (facts_after (slot_step Raise p raised.0 to) (facts p v.steps))
  changes = one_step v w (slot_step Raise p raised.0 to) raised.2.0

  is_to : to ≡ max (facts p v.steps).position by
  is_to = raised.1 ∙ ap (λ (x : ℕ). max x by) (raised.2.1.alone stands.alone low)

  pub raised_stands : StandsIn w (map (slot_with_noted_position p to) ss) places
  raised_stands = still_stands v w p _ changes ss (map (slot_with_noted_position p to) ss) places stands (is_made v p ss places stands is) (places_noted p to ss) (λ gone. gone)
      (each_noted v w p _ changes to by is_to refl refl refl ss stands.each)

  pub raised_shown : map (shown_slot w) (map (slot_with_noted_position p to) ss) ≡ map (if_at p (slot_with_confirmed by)) (map (shown_slot v) ss)
  raised_shown = all_shown_noted v w p _ changes to by is_to refl refl refl ss stands.each

  pub raised_value : to ≡ confirmed_of (slot_at p (map (shown_slot w) (map (slot_with_noted_position p to) ss)))
  raised_value = is_to ∙ ap (λ (x : ℕ). max x by) (sym is.at.confirmed) ∙ ap (λ (o : Option NamedSlot). confirmed_of (option_map (slot_with_confirmed by) o)) (sym is.found)
      ∙ ap confirmed_of (sym (ap (slot_at p) raised_shown ∙ confirmed_there p by (map (shown_slot v) ss)))
