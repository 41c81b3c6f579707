-- A list of slots in which a position is noted, and one with a slot more.
use Rattle.std.proofs.Common.{◌≡◌, ℕ, zero, suc, ◌+◌, ◌<◌, Bool, true, false, cond, eqb, List, [], ◌∷◌, ◌++◌, length, get_or, set, take, drop, map, Option, Some, None, refl, sym, ap, ap₂, ◌∙◌, arith, ⊎_elim, eq-eqb, ne_eqb}
use Rattle.std.specs.List.{AllByRecursion}
use Rattle.std.specs.Str.{bytes_eq}
use Rattle.std.proofs.lemmas.Bool.{cases_Bool}
use Rattle.std.proofs.lemmas.Slice.Eq.{bytes_eq-Decides}
use Rattle.slots.specs.declared.by_name.directory.Directory.{Directory}
use Rattle.slots.specs.Directories as names
use Rattle.slots.specs.declared.by_name.slot.Slot.{Slot}
use Rattle.slots.specs.State.{NamedSlot, confirmed_of, slot_of}
use Rattle.slots.specs.Words.{confirmed_in}
use Rattle.slots.specs.Keeping.{IsNamed, confirmed_slot, place_in, places_in, slot_with_noted_position}

-- ---- Noting, slot by slot.

pub note_here : (p to : ℕ) (s : Slot) → s.place ≡ p → record s { confirmed = to } ≡ slot_with_noted_position p to s
note_here p to s is = ap (λ (b : Bool). cond b (record s { confirmed = to }) s) (sym (eq-eqb s.place p is))

pub note_else : (p to : ℕ) (s : Slot) → (s.place ≡ p → ⊥) → s ≡ slot_with_noted_position p to s
note_else p to s not = ap (λ (b : Bool). cond b (record s { confirmed = to }) s) (sym (ne_eqb s.place p not))

abbrev pub so_far : (Slot → Slot) → ℕ → List Slot → List Slot
so_far f i xs = map f (take i xs) ++ drop i xs

next_set : (f : Slot → Slot) (xs : List Slot) (i : ℕ) (x y : Slot) → i < length xs → x ≡ get_or (so_far f i xs) i x → y ≡ f x → set (so_far f i xs) i y ≡ so_far f (suc i) xs
next_set f [] i x y low is to = absurd (omega (arith, low))
next_set f (z ∷ zs) zero x y low is to = ap (λ (s : Slot). s ∷ zs) (to ∙ ap f is)
next_set f (z ∷ zs) (suc i) x y low is to = ap (λ (l : List Slot). f z ∷ l) (next_set f zs i x y (omega (arith, low)) is to)

module _ (f : Slot → Slot) (xs now : List Slot) (i : ℕ) (x : Slot) (low : i < length xs) (so : now ≡ so_far f i xs) (is : x ≡ get_or now i x) where
  there : x ≡ get_or (so_far f i xs) i x
  there = is ∙ ap (λ (l : List Slot). get_or l i x) so

  next : so_far f (suc i) xs ≡ so_far f (i + 1) xs
  next = let e : suc i ≡ i + 1 = omega arith in ap (λ (n : ℕ). so_far f n xs) e

  pub set_on : (y : Slot) → y ≡ f x → set now i y ≡ so_far f (i + 1) xs
  set_on y to = ap (λ (l : List Slot). set l i y) so ∙ next_set f xs i x y low there to ∙ next

-- ---- The names, where a position was noted.

kept_name : (p to : ℕ) (s : Slot) → (slot_with_noted_position p to s).name ≡ s.name
kept_name p to s = by_test (eqb s.place p)
  where
    by_test : (b : Bool) → (cond b (record s { confirmed = to }) s).name ≡ s.name
    by_test true = refl
    by_test false = refl

kept_place : (p to : ℕ) (s : Slot) → (slot_with_noted_position p to s).place ≡ s.place
kept_place p to s = by_test (eqb s.place p)
  where
    by_test : (b : Bool) → (cond b (record s { confirmed = to }) s).place ≡ s.place
    by_test true = refl
    by_test false = refl

places_kept : (p to : ℕ) (name : List ℕ) (ss : List Slot) → place_in name (map (slot_with_noted_position p to) ss) ≡ place_in name ss
places_kept p to name [] = refl
places_kept p to name (s ∷ ss) = ap₂ (λ (b : Bool) (o : Option ℕ). cond b (Some (slot_with_noted_position p to s).place) o) (ap (λ (n : List ℕ). bytes_eq n name) (kept_name p to s)) (places_kept p to name ss)
    ∙ ap (λ (q : ℕ). cond (bytes_eq s.name name) (Some q) (place_in name ss)) (kept_place p to s)

pub places_noted : (p to : ℕ) (ss : List Slot) → places_in (map (slot_with_noted_position p to) ss) ≡ places_in ss
places_noted p to [] = refl
places_noted p to (s ∷ ss) = ap₂ (λ (q : ℕ) (l : List ℕ). q ∷ l) (kept_place p to s) (places_noted p to ss)

pub still_named : (d : Directory) (ss : List Slot) (places p to : ℕ) → IsNamed d ss places → IsNamed d (map (slot_with_noted_position p to) ss) places
still_named d ss places p to named = record {
  same = λ name. named.same name ∙ sym (places_kept p to name ss);
  listed = all ss named.listed;
  one = named.one;
  below = named.below;
}
  where
    all : (ts : List Slot) → AllByRecursion (λ (s : Slot). names.place_of d s.name ≡ Some s.place) ts → AllByRecursion (λ (s : Slot). names.place_of d s.name ≡ Some s.place) (map (slot_with_noted_position p to) ts)
    all [] is = tt
    all (s ∷ ts) is = (ap (names.place_of d) (kept_name p to s) ∙ is.0 ∙ ap (λ (q : ℕ). Option.Some q) (sym (kept_place p to s)), all ts is.1)

-- ---- A slot more.

found_before : (name : List ℕ) (ss : List Slot) (s : Slot) → place_in name ss ≡ None → place_in name (ss ++ s ∷ []) ≡ cond (bytes_eq s.name name) (Some s.place) None
found_before name [] s none = refl
found_before name (t ∷ ss) s none = by_test (bytes_eq t.name name) none (found_before name ss s)
  where
    by_test : (b : Bool) → cond b (Some t.place) (place_in name ss) ≡ None → (place_in name ss ≡ None → place_in name (ss ++ s ∷ []) ≡ cond (bytes_eq s.name name) (Some s.place) None)
        → cond b (Some t.place) (place_in name (ss ++ s ∷ [])) ≡ cond (bytes_eq s.name name) (Some s.place) None
    by_test true is later = absurd cc
    by_test false is later = later is

found_else : (name : List ℕ) (ss : List Slot) (s : Slot) → bytes_eq s.name name ≡ false → place_in name (ss ++ s ∷ []) ≡ place_in name ss
found_else name [] s not = ap (λ (b : Bool). cond b (Some s.place) None) not
found_else name (t ∷ ss) s not = ap (λ (o : Option ℕ). cond (bytes_eq t.name name) (Some t.place) o) (found_else name ss s not)

pub all_snoc : (P : Slot → Type 0) (ss : List Slot) (s : Slot) → AllByRecursion P ss → P s → AllByRecursion P (ss ++ s ∷ [])
all_snoc P [] s all is = (is, tt)
all_snoc P (t ∷ ss) s all is = (all.0, all_snoc P ss s all.1 is)

-- a name that was refused leaves the names as they were
pub same_names : (d e : Directory) (ss : List Slot) (places : ℕ) → IsNamed d ss places → names.AreSame d e → IsNamed e ss (places + 1)
same_names d e ss places named same = record {
  same = λ name. same name ∙ named.same name;
  listed = all ss named.listed;
  one = λ name other p a b. named.one name other p (sym (same name) ∙ a) (sym (same other) ∙ b);
  below = λ name p a. let low = named.below name p (sym (same name) ∙ a) in omega (arith, low);
}
  where
    all : (ts : List Slot) → AllByRecursion (λ (s : Slot). names.place_of d s.name ≡ Some s.place) ts → AllByRecursion (λ (s : Slot). names.place_of e s.name ≡ Some s.place) ts
    all [] is = tt
    all (s ∷ ts) is = (same s.name ∙ is.0, all ts is.1)

module _ (d e : Directory) (ss : List Slot) (s : Slot) (named : IsNamed d ss s.place) (none : names.place_of d s.name ≡ None) (changes : names.ChangesOnly d e s.name (Some s.place)) where
  is_here : (name : List ℕ) → bytes_eq s.name name ≡ true → names.place_of e name ≡ Some s.place
  is_here name is = changes name ∙ ap (λ (b : Bool). cond b (Option.Some s.place) (names.place_of d name)) is

  is_else : (name : List ℕ) → bytes_eq s.name name ≡ false → names.place_of e name ≡ names.place_of d name
  is_else name not = changes name ∙ ap (λ (b : Bool). cond b (Option.Some s.place) (names.place_of d name)) not

  abbrev inside : ℕ → Option ℕ → ℕ
  inside n None = n
  inside n (Some z) = z

  same_inside : (x y : ℕ) → Option.Some x ≡ Option.Some y → x ≡ y
  same_inside x y is = ap (inside x) is

  is_named : (name : List ℕ) → bytes_eq s.name name ≡ true → s.name ≡ name
  is_named name is = (bytes_eq-Decides s.name name).0 is

  found_same : (name : List ℕ) → names.place_of e name ≡ place_in name (ss ++ s ∷ [])
  found_same name = ⊎_elim
      (λ is. is_here name is ∙ sym (found_before name ss s (sym (named.same name) ∙ ap (names.place_of d) (sym (is_named name is)) ∙ none) ∙ ap (λ (b : Bool). cond b (Option.Some s.place) None) is))
      (λ not. is_else name not ∙ named.same name ∙ sym (found_else name ss s not))
      (cases_Bool (bytes_eq s.name name))

  below_new : (name : List ℕ) (p : ℕ) → names.place_of e name ≡ Some p → p < s.place + 1
  below_new name p found = ⊎_elim
      (λ is. let here = same_inside s.place p (sym (is_here name is) ∙ found) in omega (arith, here))
      (λ not. let low = named.below name p (sym (is_else name not) ∙ found) in omega (arith, low))
      (cases_Bool (bytes_eq s.name name))

  one_name : (name other : List ℕ) (p : ℕ) → names.place_of e name ≡ Some p → names.place_of e other ≡ Some p → name ≡ other
  one_name name other p a b = ⊎_elim
      (λ is. ⊎_elim
      (λ there. sym (is_named name is) ∙ is_named other there)
      (λ not. let here = same_inside s.place p (sym (is_here name is) ∙ a) in let low = named.below other p (sym (is_else other not) ∙ b) in absurd (omega (arith, here, low)))
      (cases_Bool (bytes_eq s.name other)))
      (λ not. ⊎_elim
      (λ there. let here = same_inside s.place p (sym (is_here other there) ∙ b) in let low = named.below name p (sym (is_else name not) ∙ a) in absurd (omega (arith, here, low)))
      (λ neither. named.one name other p (sym (is_else name not) ∙ a) (sym (is_else other neither) ∙ b))
      (cases_Bool (bytes_eq s.name other)))
      (cases_Bool (bytes_eq s.name name))

  still_there : (t : Slot) → names.place_of d t.name ≡ Some t.place → names.place_of e t.name ≡ Some t.place
  still_there t is = ⊎_elim
      (λ same. let never : Option.None ≡ Option.Some t.place = sym none ∙ ap (names.place_of d) (is_named t.name same) ∙ is in absurd cc)
      (λ not. is_else t.name not ∙ is)
      (cases_Bool (bytes_eq s.name t.name))

  all_there : (ts : List Slot) → AllByRecursion (λ (t : Slot). names.place_of d t.name ≡ Some t.place) ts → AllByRecursion (λ (t : Slot). names.place_of e t.name ≡ Some t.place) ts
  all_there [] all = tt
  all_there (t ∷ ts) all = (still_there t all.0, all_there ts all.1)

  pub more_names : IsNamed e (ss ++ s ∷ []) (s.place + 1)
  more_names = record {
    same = found_same;
    listed = all_snoc (λ (t : Slot). names.place_of e t.name ≡ Some t.place) ss s (all_there ss named.listed) (is_here s.name ((bytes_eq-Decides s.name s.name).1 refl));
    one = one_name;
    below = below_new;
  }

-- ---- How far slots are confirmed.

pub confirmed-named : (name : List ℕ) (named : List NamedSlot) → confirmed_in name (map confirmed_slot named) ≡ confirmed_of (slot_of name named)
confirmed-named name [] = refl
confirmed-named name (s ∷ named) = by_test (bytes_eq s.name name) (confirmed-named name named)
  where
    by_test : (b : Bool) → confirmed_in name (map confirmed_slot named) ≡ confirmed_of (slot_of name named) → cond b s.confirmed (confirmed_in name (map confirmed_slot named)) ≡ confirmed_of (cond b (Some s) (slot_of name named))
    by_test true rest = refl
    by_test false rest = rest
