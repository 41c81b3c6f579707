-- What is done at one place leaves the others as they are, and what is done to a name is done at its place.
use Rattle.std.proofs.Common.{◌≡◌, ℕ, max, Bool, true, false, cond, eqb, List, [], ◌∷◌, ◌++◌, map, Option, Some, None, option_map, refl, sym, ap, ap₂, ◌∙◌, ⊎_elim, eq-eqb, ne_eqb}
use Rattle.std.specs.Str.{bytes_eq}
use Rattle.std.proofs.lemmas.Bool.{cases_eq}
use Rattle.slots.specs.State.{IsHeldAs, IsOnlyAt, IsUnnamed, NamedSlot, if_at, if_named, is_in_use, slot_at, slot_of, slot_with_confirmed, slot_with_hold}

-- ---- A name and its place.

pub at_named : (name : List ℕ) (p : ℕ) (change : NamedSlot → NamedSlot) (ss : List NamedSlot) → IsOnlyAt name p ss → map (if_named name change) ss ≡ map (if_at p change) ss
at_named name p change [] only = refl
at_named name p change (s ∷ ss) only = ap₂ (λ (t : NamedSlot) (ts : List NamedSlot). t ∷ ts) (ap (λ (b : Bool). cond b (change s) s) only.0) (at_named name p change ss only.1)

pub found_at : (name : List ℕ) (p : ℕ) (ss : List NamedSlot) → IsOnlyAt name p ss → slot_of name ss ≡ slot_at p ss
found_at name p [] only = refl
found_at name p (s ∷ ss) only = ap₂ (λ (b : Bool) (o : Option NamedSlot). cond b (Some s) o) only.0 (found_at name p ss only.1)

pub unnamed_same : (name : List ℕ) (change : NamedSlot → NamedSlot) (ss : List NamedSlot) → IsUnnamed name ss → map (if_named name change) ss ≡ ss
unnamed_same name change [] none = refl
unnamed_same name change (s ∷ ss) none = ap₂ (λ (t : NamedSlot) (ts : List NamedSlot). t ∷ ts) (ap (λ (b : Bool). cond b (change s) s) none.0) (unnamed_same name change ss none.1)

-- ---- What is held.

pub unnamed_free : (name : List ℕ) (ss : List NamedSlot) → IsUnnamed name ss → is_in_use (slot_of name ss) ≡ false
unnamed_free name [] none = refl
unnamed_free name (s ∷ ss) none = ap (λ (b : Bool). is_in_use (cond b (Some s) (slot_of name ss))) none.0 ∙ unnamed_free name ss none.1

-- a change that leaves a slot at its place, of a slot elsewhere
pub held_else : (q p : ℕ) (change : NamedSlot → NamedSlot) (ss : List NamedSlot) → ((s : NamedSlot) → (change s).place ≡ s.place) → (q ≡ p → ⊥) → is_in_use (slot_at q (map (if_at p change) ss)) ≡ is_in_use (slot_at q ss)
held_else q p change [] stays not = refl
held_else q p change (s ∷ ss) stays not = by_place (held_else q p change ss stays not)
  where
    rest : List NamedSlot
    rest = map (if_at p change) ss

    elsewhere : (n : ℕ) → n ≡ p → eqb n q ≡ false
    elsewhere n is = ne_eqb n q (λ e. not (sym e ∙ is))

    either : (c : Bool) → is_in_use (slot_at q rest) ≡ is_in_use (slot_at q ss) → is_in_use (cond c (Some s) (slot_at q rest)) ≡ is_in_use (cond c (Some s) (slot_at q ss))
    either true later = refl
    either false later = later

    by_place : is_in_use (slot_at q rest) ≡ is_in_use (slot_at q ss) → is_in_use (slot_at q (if_at p change s ∷ rest)) ≡ is_in_use (slot_at q (s ∷ ss))
    by_place later = ⊎_elim
        (λ is. ap (λ (b : Bool). is_in_use (slot_at q (cond b (change s) s ∷ rest))) (eq-eqb s.place p is)
        ∙ ap (λ (b : Bool). is_in_use (cond b (Some (change s)) (slot_at q rest))) (elsewhere (change s).place (stays s ∙ is)) ∙ later ∙ ap (λ (b : Bool). is_in_use (cond b (Some s) (slot_at q ss))) (sym (elsewhere s.place is)))
        (λ other. ap (λ (b : Bool). is_in_use (slot_at q (cond b (change s) s ∷ rest))) (ne_eqb s.place p other) ∙ either (eqb s.place q) later)
        (cases_eq s.place p)

pub held_raised : (q p by : ℕ) (ss : List NamedSlot) → is_in_use (slot_at q (map (if_at p (slot_with_confirmed by)) ss)) ≡ is_in_use (slot_at q ss)
held_raised q p by [] = refl
held_raised q p by (s ∷ ss) = by_test (eqb s.place p) (held_raised q p by ss)
  where
    rest : List NamedSlot
    rest = map (if_at p (slot_with_confirmed by)) ss

    either : (c : Bool) (x y : NamedSlot) → x.is_held ≡ y.is_held → is_in_use (slot_at q rest) ≡ is_in_use (slot_at q ss) → is_in_use (cond c (Some x) (slot_at q rest)) ≡ is_in_use (cond c (Some y) (slot_at q ss))
    either true x y same later = same
    either false x y same later = later

    by_test : (b : Bool) → is_in_use (slot_at q rest) ≡ is_in_use (slot_at q ss) → is_in_use (slot_at q (cond b (slot_with_confirmed by s) s ∷ rest)) ≡ is_in_use (slot_at q (s ∷ ss))
    by_test true later = either (eqb s.place q) (slot_with_confirmed by s) s refl later
    by_test false later = either (eqb s.place q) s s refl later

pub held_behind : (q : ℕ) (ss : List NamedSlot) (new : NamedSlot) → new.is_held ≡ false → is_in_use (slot_at q (ss ++ new ∷ [])) ≡ is_in_use (slot_at q ss)
held_behind q [] new free = by_test (eqb new.place q)
  where
    by_test : (b : Bool) → is_in_use (cond b (Some new) None) ≡ false
    by_test true = free
    by_test false = refl
held_behind q (s ∷ ss) new free = by_test (eqb s.place q) (held_behind q ss new free)
  where
    by_test : (b : Bool) → is_in_use (slot_at q (ss ++ new ∷ [])) ≡ is_in_use (slot_at q ss) → is_in_use (cond b (Some s) (slot_at q (ss ++ new ∷ []))) ≡ is_in_use (cond b (Some s) (slot_at q ss))
    by_test true later = refl
    by_test false later = later

pub still_named : (name : List ℕ) (change : NamedSlot → NamedSlot) (ss : List NamedSlot) → ((s : NamedSlot) → ((change s).name ≡ s.name) × ((change s).place ≡ s.place))
    → option_map (λ (t : NamedSlot). t.place) (slot_of name (map (if_named name change) ss)) ≡ option_map (λ (t : NamedSlot). t.place) (slot_of name ss)
still_named name change [] stays = refl
still_named name change (s ∷ ss) stays = by_name (bytes_eq s.name name) refl (still_named name change ss stays)
  where
    rest : List NamedSlot
    rest = map (if_named name change) ss

    by_name : (b : Bool) → bytes_eq s.name name ≡ b → option_map (λ (t : NamedSlot). t.place) (slot_of name rest) ≡ option_map (λ (t : NamedSlot). t.place) (slot_of name ss)
        → option_map (λ (t : NamedSlot). t.place) (slot_of name (cond b (change s) s ∷ rest)) ≡ option_map (λ (t : NamedSlot). t.place) (cond b (Some s) (slot_of name ss))
    by_name true is later = ap (λ (n : List ℕ). option_map (λ (t : NamedSlot). t.place) (cond (bytes_eq n name) (Some (change s)) (slot_of name rest))) (stays s).0
        ∙ ap (λ (b : Bool). option_map (λ (t : NamedSlot). t.place) (cond b (Some (change s)) (slot_of name rest))) is ∙ ap (λ (p : ℕ). Option.Some p) (stays s).1
    by_name false is later = ap (λ (b : Bool). option_map (λ (t : NamedSlot). t.place) (cond b (Some s) (slot_of name rest))) is ∙ later

-- the slot at a place that a change finds
pub changed_at : (p : ℕ) (change : NamedSlot → NamedSlot) (ss : List NamedSlot) → ((s : NamedSlot) → (change s).place ≡ s.place) → slot_at p (map (if_at p change) ss) ≡ option_map change (slot_at p ss)
changed_at p change [] stays = refl
changed_at p change (s ∷ ss) stays = by_place (eqb s.place p) refl (changed_at p change ss stays)
  where
    rest : List NamedSlot
    rest = map (if_at p change) ss

    by_place : (b : Bool) → eqb s.place p ≡ b → slot_at p rest ≡ option_map change (slot_at p ss) → slot_at p (cond b (change s) s ∷ rest) ≡ option_map change (cond b (Some s) (slot_at p ss))
    by_place true is later = ap (λ (n : ℕ). cond (eqb n p) (Some (change s)) (slot_at p rest)) (stays s) ∙ ap (λ (b : Bool). cond b (Some (change s)) (slot_at p rest)) is
    by_place false is later = ap (λ (b : Bool). cond b (Some s) (slot_at p rest)) is ∙ later

-- what nobody holds is as it was, once it is let go
pub free_same : (p : ℕ) (ss : List NamedSlot) → IsHeldAs false p ss → map (if_at p (slot_with_hold false)) ss ≡ ss
free_same p [] free = refl
free_same p (s ∷ ss) free = ap₂ (λ (t : NamedSlot) (ts : List NamedSlot). t ∷ ts)
    (⊎_elim
    (λ is. ap (λ (b : Bool). cond b (slot_with_hold false s) s) (eq-eqb s.place p is) ∙ ap (λ (h : Bool). record { name = s.name; place = s.place; confirmed = s.confirmed; is_held = h }) (sym (free.0 is)))
    (λ not. ap (λ (b : Bool). cond b (slot_with_hold false s) s) (ne_eqb s.place p not))
    (cases_eq s.place p))
    (free_same p ss free.1)

-- a free slot that is taken, confirmed and let go was confirmed
pub once_around : (p by : ℕ) (ss : List NamedSlot) → IsHeldAs false p ss
    → map (if_at p (slot_with_hold false)) (map (if_at p (slot_with_confirmed by)) (map (if_at p (slot_with_hold true)) ss)) ≡ map (if_at p (slot_with_confirmed by)) ss
once_around p by [] free = refl
once_around p by (s ∷ ss) free = ap₂ (λ (t : NamedSlot) (ts : List NamedSlot). t ∷ ts)
    (⊎_elim (λ is. by_place true (eq-eqb s.place p is) (free.0 is)) (λ not. away (ne_eqb s.place p not)) (cases_eq s.place p)) (once_around p by ss free.1)
  where
    around : NamedSlot → NamedSlot
    around t = if_at p (slot_with_hold false) (if_at p (slot_with_confirmed by) (if_at p (slot_with_hold true) t))

    away : eqb s.place p ≡ false → around s ≡ if_at p (slot_with_confirmed by) s
    away is = ap (λ (b : Bool). if_at p (slot_with_hold false) (if_at p (slot_with_confirmed by) (cond b (slot_with_hold true s) s))) is
        ∙ ap (λ (b : Bool). if_at p (slot_with_hold false) (cond b (slot_with_confirmed by s) s)) is ∙ ap (λ (b : Bool). cond b (slot_with_hold false s) s) is ∙ ap (λ (b : Bool). cond b (slot_with_confirmed by s) s) (sym is)

    by_place : (b : Bool) → eqb s.place p ≡ b → s.is_held ≡ false → around s ≡ if_at p (slot_with_confirmed by) s
    by_place true is free_here = ap (λ (b : Bool). if_at p (slot_with_hold false) (if_at p (slot_with_confirmed by) (cond b (slot_with_hold true s) s))) is
        ∙ ap (λ (b : Bool). if_at p (slot_with_hold false) (cond b (slot_with_confirmed by (slot_with_hold true s)) (slot_with_hold true s))) is
        ∙ ap (λ (b : Bool). cond b (slot_with_hold false (slot_with_confirmed by (slot_with_hold true s))) (slot_with_confirmed by (slot_with_hold true s))) is
        ∙ ap (λ (h : Bool). record { name = s.name; place = s.place; confirmed = max s.confirmed by; is_held = h }) (sym free_here)
        ∙ ap (λ (b : Bool). cond b (slot_with_confirmed by s) s) (sym is)
    by_place false is free_here = away is

pub not_in_use : (p : ℕ) (ss : List NamedSlot) → IsHeldAs false p ss → is_in_use (slot_at p ss) ≡ false
not_in_use p [] free = refl
not_in_use p (s ∷ ss) free = ⊎_elim
    (λ is. ap (λ (b : Bool). is_in_use (cond b (Some s) (slot_at p ss))) (eq-eqb s.place p is) ∙ free.0 is)
    (λ not. ap (λ (b : Bool). is_in_use (cond b (Some s) (slot_at p ss))) (ne_eqb s.place p not) ∙ not_in_use p ss free.1)
    (cases_eq s.place p)
