-- What is found of a name: its place, where no other slot stands.
use Rattle.std.proofs.Common.{◌≡◌, ℕ, Bool, true, false, cond, List, [], ◌∷◌, map, Option, Some, None, refl, sym, ap, subst, ◌∙◌}
use Rattle.std.specs.Prelude.{IfSome, IsNone}
use Rattle.std.specs.Str.{bytes_eq}
use Rattle.slots.specs.declared.by_name.directory.Directory.{Directory}
use Rattle.slots.specs.declared.words_kept.step.SeatView.{SeatView}
use Rattle.slots.specs.Directories as names
use Rattle.slots.specs.Facts.{facts}
use Rattle.slots.specs.declared.by_name.slot.Slot.{Slot}
use Rattle.slots.specs.State.{IsHeldAs, IsOnlyAt, IsUnnamed, NamedSlot, SlotsState, holds_at, is_in_use, place_of, slot_of}
use Rattle.slots.specs.Keeping.{IsNamed, StandsIn, shown_slot, slots_in_view}
use Rattle.slots.proofs.Names.{none_shown, only_shown, place_shown, slot_as_named}
use Rattle.slots.proofs.Claiming.{Found, found_slot}

alike_shown : (v : SeatView) (p : ℕ) (ss : List Slot) → IsHeldAs (facts p v.steps).held p (map (shown_slot v) ss)
alike_shown v p [] = tt
alike_shown v p (s ∷ ss) = (λ is. ap (λ (q : ℕ). (facts q v.steps).held) is, alike_shown v p ss)

none_named : (name : List ℕ) (ss : List NamedSlot) → slot_of name ss ≡ None → IsUnnamed name ss
none_named name [] none = tt
none_named name (s ∷ ss) none = by_test (bytes_eq s.name name) none (none_named name ss)
  where
    by_test : (b : Bool) → cond b (Some s) (slot_of name ss) ≡ None → (slot_of name ss ≡ None → IsUnnamed name ss) → (b ≡ false) × IsUnnamed name ss
    by_test true is later = absurd cc
    by_test false is later = (refl, later is)

module _ (v : SeatView) (d : Directory) (ss : List Slot) (places : ℕ) (name : List ℕ) (named : IsNamed d ss places) (stands : StandsIn v ss places) (s : SlotsState) (is : slots_in_view v ss places ≡ s) where
  pub only_at : (o : Option ℕ) → o ≡ names.place_of d name → IfSome o (λ p. IsOnlyAt name p s.slots)
  only_at None found = tt
  only_at (Some p) found = subst (λ (t : SlotsState). IsOnlyAt name p t.slots) is (only_shown v name p ss (found_slot v d ss places name p named stands (sym found)).all)

  pub alike_at : (o : Option ℕ) → o ≡ names.place_of d name → IfSome o (λ p. IsHeldAs (holds_at p s) p s.slots)
  alike_at None found = tt
  alike_at (Some p) found =
      let the : Found v ss name p = found_slot v d ss places name p named stands (sym found) in
      let held : holds_at p (slots_in_view v ss places) ≡ (facts p v.steps).held = ap is_in_use (sym (slot_as_named v name p ss the.all) ∙ the.of) ∙ the.at.is_held in
      subst (λ (t : SlotsState). IsHeldAs (holds_at p t) p t.slots) is (subst (λ (b : Bool). IsHeldAs b p (map (shown_slot v) ss)) (sym held) (alike_shown v p ss))

  pub found_by : (o : Option ℕ) → o ≡ names.place_of d name → IfSome o (λ p. place_of name s ≡ Some p)
  found_by None found = tt
  found_by (Some p) found = ap (place_of name) (sym is) ∙ place_shown v name ss ∙ sym (named.same name) ∙ sym found

  pub none_by : (o : Option ℕ) → o ≡ names.place_of d name → IsNone o → IsUnnamed name s.slots
  none_by None found none = subst (λ (t : SlotsState). IsUnnamed name t.slots) is (none_named name (map (shown_slot v) ss) (none_shown v d ss places name named (sym found)))
  none_by (Some p) found none = absurd cc
