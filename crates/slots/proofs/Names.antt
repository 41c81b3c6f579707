-- Slots by their names and by their places.
use Rattle.std.proofs.Common.{◌≡◌, ℕ, Bool, true, false, cond, eqb, List, [], ◌∷◌, map, Option, Some, None, refl, sym, ap, ap₂, ◌∙◌, ⊎_elim, eq-eqb, ne_eqb}
use Rattle.std.specs.List.{AllByRecursion}
use Rattle.std.specs.Prelude.{is_some, option_map}
use Rattle.std.specs.Str.{bytes_eq}
use Rattle.std.proofs.lemmas.Bool.{cases_eq, cases_Bool}
use Rattle.std.proofs.lemmas.Slice.Eq.{bytes_eq-Decides}
use Rattle.slots.specs.declared.by_name.directory.Directory.{Directory}
use Rattle.slots.specs.declared.words_kept.step.SeatView.{SeatView}
use Rattle.slots.specs.Directories as names
use Rattle.slots.specs.declared.by_name.slot.Slot.{Slot}
use Rattle.slots.specs.State.{IsOnlyAt, NamedSlot, if_at, if_named, slot_at, slot_of}
use Rattle.slots.specs.Keeping.{IsNamed, place_in, shown_slot, confirmed_slot}

pub lent : (v : SeatView) (ss : List Slot) → map confirmed_slot (map (shown_slot v) ss) ≡ ss
lent v [] = refl
lent v (s ∷ ss) = ap (λ (l : List Slot). s ∷ l) (lent v ss)

-- the list of slots tells the place of a name as the directory does
pub place_shown : (v : SeatView) (name : List ℕ) (ss : List Slot) → option_map (λ (t : NamedSlot). t.place) (slot_of name (map (shown_slot v) ss)) ≡ place_in name ss
place_shown v name [] = refl
place_shown v name (s ∷ ss) = by_test (bytes_eq s.name name) (place_shown v name ss)
  where
    by_test : (b : Bool) → option_map (λ (t : NamedSlot). t.place) (slot_of name (map (shown_slot v) ss)) ≡ place_in name ss
        → option_map (λ (t : NamedSlot). t.place) (cond b (Some (shown_slot v s)) (slot_of name (map (shown_slot v) ss))) ≡ cond b (Some s.place) (place_in name ss)
    by_test true later = refl
    by_test false later = later

-- a slot has the name where it has the name's place
abbrev pub NamedThere : List ℕ → ℕ → Slot → Type 0
NamedThere name p s = bytes_eq s.name name ≡ eqb s.place p

module _ (d : Directory) (name : List ℕ) (p : ℕ) (found : names.place_of d name ≡ Some p) where
  place_inside : (x y : ℕ) → Option.Some x ≡ Option.Some y → x ≡ y
  place_inside x y e = ap (or_that x) e
    where
      or_that : ℕ → Option ℕ → ℕ
      or_that n None = n
      or_that n (Some z) = z

  named_there : (s : Slot) → ((other : List ℕ) → names.place_of d name ≡ Some p → names.place_of d other ≡ Some p → name ≡ other) → names.place_of d s.name ≡ Some s.place → NamedThere name p s
  named_there s one listed = ⊎_elim
      (λ is. let same = one s.name found (listed ∙ ap (λ (q : ℕ). Option.Some q) is) in (bytes_eq-Decides s.name name).1 (sym same) ∙ sym (eq-eqb s.place p is))
      (λ not. ⊎_elim
      (λ same. absurd (not (place_inside s.place p (sym listed ∙ ap (names.place_of d) ((bytes_eq-Decides s.name name).0 same) ∙ found))))
      (λ other. other ∙ sym (ne_eqb s.place p not))
      (cases_Bool (bytes_eq s.name name)))
      (cases_eq s.place p)

  pub all_named_there : (ss : List Slot) → ((other : List ℕ) → names.place_of d name ≡ Some p → names.place_of d other ≡ Some p → name ≡ other) → AllByRecursion (λ (s : Slot). names.place_of d s.name ≡ Some s.place) ss → AllByRecursion (NamedThere name p) ss
  all_named_there [] one all = tt
  all_named_there (s ∷ ss) one all = (named_there s one all.0, all_named_there ss one all.1)

-- then what is done at the place is done to the slot of the name
pub at_as_named : (v : SeatView) (name : List ℕ) (p : ℕ) (change : NamedSlot → NamedSlot) (ss : List Slot) → AllByRecursion (NamedThere name p) ss
    → map (if_at p change) (map (shown_slot v) ss) ≡ map (if_named name change) (map (shown_slot v) ss)
at_as_named v name p change [] all = refl
at_as_named v name p change (s ∷ ss) all = ap₂ (λ (t : NamedSlot) (ts : List NamedSlot). t ∷ ts)
    (ap (λ (b : Bool). cond b (change (shown_slot v s)) (shown_slot v s)) (sym all.0)) (at_as_named v name p change ss all.1)

pub only_shown : (v : SeatView) (name : List ℕ) (p : ℕ) (ss : List Slot) → AllByRecursion (NamedThere name p) ss → IsOnlyAt name p (map (shown_slot v) ss)
only_shown v name p [] all = tt
only_shown v name p (s ∷ ss) all = (all.0, only_shown v name p ss all.1)

pub slot_as_named : (v : SeatView) (name : List ℕ) (p : ℕ) (ss : List Slot) → AllByRecursion (NamedThere name p) ss → slot_of name (map (shown_slot v) ss) ≡ slot_at p (map (shown_slot v) ss)
slot_as_named v name p [] all = refl
slot_as_named v name p (s ∷ ss) all = ap₂ (λ (b : Bool) (o : Option NamedSlot). cond b (Some (shown_slot v s)) o) all.0 (slot_as_named v name p ss all.1)

is_some_map : (f : NamedSlot → ℕ) (o : Option NamedSlot) → is_some (option_map f o) ≡ is_some o
is_some_map f None = refl
is_some_map f (Some t) = refl

-- a name is shown where the directory has it
pub there_shown : (v : SeatView) (d : Directory) (ss : List Slot) (places : ℕ) (name : List ℕ) → IsNamed d ss places → is_some (slot_of name (map (shown_slot v) ss)) ≡ is_some (names.place_of d name)
there_shown v d ss places name named = sym (is_some_map (λ (t : NamedSlot). t.place) (slot_of name (map (shown_slot v) ss))) ∙ ap is_some (place_shown v name ss ∙ sym (named.same name))

pub none_shown : (v : SeatView) (d : Directory) (ss : List Slot) (places : ℕ) (name : List ℕ) → IsNamed d ss places → names.place_of d name ≡ None → slot_of name (map (shown_slot v) ss) ≡ None
none_shown v d ss places name named none = by_slot (slot_of name (map (shown_slot v) ss)) refl
  where
    by_slot : (o : Option NamedSlot) → slot_of name (map (shown_slot v) ss) ≡ o → slot_of name (map (shown_slot v) ss) ≡ None
    by_slot None is = is
    by_slot (Some t) is = let never : true ≡ false = sym (ap is_some is) ∙ there_shown v d ss places name named ∙ ap is_some none in absurd cc
