-- Slots, and what undoing a change leaves at each place.
use Rattle.std.proofs.Common.{◌≡◌, ℕ, ◌-◌, ◌≤◌, Bool, true, false, cond, not, ◌&&◌, ◌||◌, List, [], ◌∷◌, ◌++◌, length, get_or, set, position, swap_remove, All, Some, refl, sym, ap, subst, ◌∙◌, arith}
use Rattle.std.proofs.lemmas.List.Elements.{All-from_recursion, recursion_from_All, All-take, All-set, All-get_or}
use Rattle.std.specs.Cmp.Lexicographic.{nat_list_eq_equiv}
use Rattle.std.proofs.lemmas.Bool.Decides.{Decides-eqb}
use Rattle.std.proofs.lemmas.Slice.Eq.{slice_eq-Decides}
use Rattle.std.specs.Map.{lookup, set_value, keys_of, KeepsOthers}
use Rattle.std.specs.Option.{option_map_or}
use Rattle.std.specs.Cmp.Lexicographic.{pointwise}
use Rattle.std.specs.Prelude.{Option, unwrap_or, None, IsSome, is_some, Vec, nat_eq}
use Rattle.indexmap.specs.IndexMap.{insert_entry, swap_remove_entry}
use Rattle.std.specs.List.{AllByRecursion}
use Rattle.store.specs.declared.places.stored_place.StoredPlace.{StoredPlace}
use Rattle.store.specs.declared.places.stored_place.Undo.{Undo}
use Rattle.store.specs.Slots.{same_key, vacant, Entries, entries_of, slot_at, slots_with, is_used, AreUsed, CanUndo, undone_at}
use Rattle.store.specs.declared.places.key.TheConstants.{MAX_KEY_LENGTH}
use Rattle.store.specs.History.{is_top, owner_after_end}
use Rattle.store.specs.Keeping.{AreShort, SameSlots, is_noted, slot_after_end}

-- KEYS THAT ARE KEPT AS VECTORS

abbrev same_vec : {A : Type 0} → Vec ℕ A → Vec ℕ A → Bool
same_vec x y = pointwise nat_eq x.items y.items

pub found : {A : Type 0} (es : List (Vec ℕ A × StoredPlace)) (key : List ℕ) → lookup (λ k. pointwise nat_eq key k.items) es ≡ lookup (same_key key) (entries_of es)
found [] key = refl
found (e ∷ es) key = ap (λ (o : Option StoredPlace). cond (same_key key e.0.items) (Some e.1) o) (found es key)

pub placed : {A : Type 0} (es : List (Vec ℕ A × StoredPlace)) (key : Vec ℕ A) (slot : StoredPlace) → entries_of (insert_entry same_vec es key slot) ≡ slots_with key.items slot (entries_of es)
placed [] key slot = refl
placed (e ∷ es) key slot = by_test (same_key key.items e.0.items) (placed es key slot)
  where
    by_test : (a : Bool) → entries_of (insert_entry same_vec es key slot) ≡ slots_with key.items slot (entries_of es) →
        entries_of (cond a ((e.0, slot) ∷ es) (e ∷ insert_entry same_vec es key slot)) ≡ cond a ((e.0.items, slot) ∷ entries_of es) ((e.0.items, e.1) ∷ slots_with key.items slot (entries_of es))
    by_test true rest = refl
    by_test false rest = ap (λ (fs : Entries). (e.0.items, e.1) ∷ fs) rest

pub swapped : {A : Type 0} (inside new : List (Vec ℕ A × StoredPlace)) (es : Entries) (key : Vec ℕ A) (slot : StoredPlace) → entries_of inside ≡ es → new ≡ insert_entry same_vec inside key slot →
    entries_of new ≡ slots_with key.items slot es
swapped inside new es key slot shown made = ap entries_of made ∙ placed inside key slot ∙ ap (slots_with key.items slot) shown

pub stood : {A : Type 0} (inside : List (Vec ℕ A × StoredPlace)) (es : Entries) (key : Vec ℕ A) (before : Option StoredPlace) (none : StoredPlace) → entries_of inside ≡ es → before ≡ lookup (same_vec key) inside →
    none ≡ vacant → unwrap_or before none ≡ slot_at es key.items
stood inside es key before none shown is empty =
    ap (λ (o : Option StoredPlace). unwrap_or o none) (is ∙ found inside key.items) ∙ ap (λ (s : StoredPlace). unwrap_or (lookup (same_key key.items) (entries_of inside)) s) empty
    ∙ ap (λ (l : Entries). slot_at l key.items) shown

pub was_there : {A : Type 0} (inside : List (Vec ℕ A × StoredPlace)) (es : Entries) (key : Vec ℕ A) (text : List ℕ) → entries_of inside ≡ es → key.items ≡ text →
    lookup (same_vec key) inside ≡ None → IsSome (lookup (same_key text) es) → ⊥
was_there inside es key text shown named none there =
    let gone : lookup (same_key text) es ≡ None = ap (λ (l : Entries). lookup (same_key text) l) (sym shown) ∙ ap (λ (t : List ℕ). lookup (same_key t) (entries_of inside)) (sym named) ∙ sym (found inside key.items) ∙ none in
    let P : Option StoredPlace → Type 0 = λ o. IsSome o in
    refuted (subst P gone there)
  where
    none_there : Option StoredPlace
    none_there = None

    refuted : IsSome none_there → ⊥
    refuted h = absurd cc

-- PLACES

pub same_self : (k : List ℕ) → same_key k k ≡ true
same_self k = nat_list_eq_equiv.refl k

pub used_there : (es : Entries) (k : List ℕ) → is_used (slot_at es k) ≡ true → IsSome (lookup (same_key k) es)
used_there es k used = by_found (lookup (same_key k) es) used
  where
    by_found : (o : Option StoredPlace) → is_used (unwrap_or o vacant) ≡ true → IsSome o
    by_found None used = absurd cc
    by_found (Some s) used = refl

pub used_put : (k : List ℕ) (v : StoredPlace) (es : Entries) → is_used v ≡ true → AreUsed es → AreUsed (slots_with k v es)
used_put k v [] used all = (used, tt)
used_put k v (e ∷ es) used all = by_test (same_key k e.0) (used_put k v es used all.1)
  where
    by_test : (a : Bool) → AreUsed (slots_with k v es) → AreUsed (cond a ((e.0, v) ∷ es) (e ∷ slots_with k v es))
    by_test true rest = (used, all.1)
    by_test false rest = (all.0, rest)

-- WHAT STANDS AT A KEY

at_one : (a b c : Bool) (v w : Option StoredPlace) (rest : Option StoredPlace) → b ≡ c → cond b v rest ≡ cond c v (cond b w rest)
at_one a true true v w rest same = refl
at_one a true false v w rest same = absurd cc
at_one a false true v w rest same = absurd cc
at_one a false false v w rest same = refl

at_other : (b c : Bool) (v w rest : Option StoredPlace) → (b ≡ true → c ≡ true → ⊥) → cond b w (cond c v rest) ≡ cond c v (cond b w rest)
at_other true true v w rest apart = absurd (apart refl refl)
at_other true false v w rest apart = refl
at_other false true v w rest apart = refl
at_other false false v w rest apart = refl

lookup_put : (k : List ℕ) (v : StoredPlace) (es : Entries) (j : List ℕ) → lookup (same_key j) (slots_with k v es) ≡ cond (same_key j k) (Some v) (lookup (same_key j) es)
lookup_put k v [] j = refl
lookup_put k v (e ∷ es) j = by_test (same_key k e.0) refl (lookup_put k v es j)
  where
    by_test : (a : Bool) → same_key k e.0 ≡ a → lookup (same_key j) (slots_with k v es) ≡ cond (same_key j k) (Some v) (lookup (same_key j) es) →
        lookup (same_key j) (cond a ((e.0, v) ∷ es) (e ∷ slots_with k v es)) ≡ cond (same_key j k) (Some v) (cond (same_key j e.0) (Some e.1) (lookup (same_key j) es))
    by_test true is rest =
        at_one true (same_key j e.0) (same_key j k) (Some v) (Some e.1) (lookup (same_key j) es)
        (nat_list_eq_equiv.symm j e.0 ∙ sym (nat_list_eq_equiv.congr k e.0 j is) ∙ nat_list_eq_equiv.symm k j)
    by_test false is rest =
        ap (λ (o : Option StoredPlace). cond (same_key j e.0) (Some e.1) o) rest
        ∙ at_other (same_key j e.0) (same_key j k) (Some v) (Some e.1) (lookup (same_key j) es)
        (λ here there. let never : true ≡ false = sym here ∙ nat_list_eq_equiv.congr j k e.0 there ∙ is in absurd cc)

pub slot_put : (k : List ℕ) (v : StoredPlace) (es : Entries) (j : List ℕ) → slot_at (slots_with k v es) j ≡ cond (same_key j k) v (slot_at es j)
slot_put k v es j = ap (λ (o : Option StoredPlace). unwrap_or o vacant) (lookup_put k v es j) ∙ by_test (same_key j k)
  where
    by_test : (a : Bool) → unwrap_or (cond a (Some v) (lookup (same_key j) es)) vacant ≡ cond a v (unwrap_or (lookup (same_key j) es) vacant)
    by_test true = refl
    by_test false = refl

pub put_there : (k : List ℕ) (v : StoredPlace) (es : Entries) → slot_at (slots_with k v es) k ≡ v
put_there k v es = slot_put k v es k ∙ ap (λ (a : Bool). cond a v (slot_at es k)) (same_self k)

pub keys_same : (j k : List ℕ) → same_key j k ≡ true → j ≡ k
keys_same j k same = (slice_eq-Decides Decides-eqb j k _ refl).0 same

-- UNDOING

abbrev At : Type 0
At = List ℕ → StoredPlace

pub can_on : (us : List Undo) (at to : At) → AllByRecursion (λ u. at u.key ≡ to u.key) us → CanUndo us at → CanUndo us to
can_on [] at to same can = tt
can_on (u ∷ us) at to same can = (ap (λ (s : StoredPlace). is_used (undone_at us u.key s)) (sym same.0) ∙ can.0, can_on us at to same.1 can.1)

pub can_same : (us : List Undo) (at to : At) → ((k : List ℕ) → at k ≡ to k) → CanUndo us at → CanUndo us to
can_same [] at to same can = tt
can_same (u ∷ us) at to same can = (ap (λ (s : StoredPlace). is_used (undone_at us u.key s)) (sym (same u.key)) ∙ can.0, can_same us at to same can.1)

pub undone_last : (us : List Undo) (u : Undo) (k : List ℕ) (s : StoredPlace) → undone_at (us ++ u ∷ []) k s ≡ undone_at us k (cond (same_key k u.key) u.before s)
undone_last [] u k s = refl
undone_last (x ∷ us) u k s = ap (λ (t : StoredPlace). cond (same_key k x.key) x.before t) (undone_last us u k s)

-- one change more, whose place is used
pub can_more : (us : List Undo) (u : Undo) (at to : At) → ((k : List ℕ) → cond (same_key k u.key) u.before (to k) ≡ at k) → is_used (to u.key) ≡ true → CanUndo us at → CanUndo (us ++ u ∷ []) to
can_more [] u at to back used can = (used, tt)
can_more (x ∷ us) u at to back used can =
    (ap is_used (undone_last us u x.key (to x.key) ∙ ap (undone_at us x.key) (back x.key)) ∙ can.0, can_more us u at to back used can.1)

can_less : (us : List Undo) (u : Undo) (at to : At) → ((k : List ℕ) → to k ≡ cond (same_key k u.key) u.before (at k)) → CanUndo (us ++ u ∷ []) at → CanUndo us to × (is_used (at u.key) ≡ true)
can_less [] u at to step can = (tt, can.0)
can_less (x ∷ us) u at to step can =
    let rest = can_less us u at to step can.1 in
    ((ap (λ (s : StoredPlace). is_used (undone_at us x.key s)) (step x.key) ∙ ap is_used (sym (undone_last us u x.key (at x.key))) ∙ can.0, rest.0), rest.1)

can_first : (us : List Undo) (u : Undo) (at : At) → CanUndo (us ++ u ∷ []) at → is_used (at u.key) ≡ true
can_first [] u at can = can.0
can_first (x ∷ us) u at can = can_first us u at can.1

-- as far as a loop has come
pub record Undone (us : List Undo) (all : List Undo) (now old : Entries) : Type 0 where
  pub can : CanUndo us (slot_at now)
  pub slots : (k : List ℕ) → undone_at us k (slot_at now k) ≡ undone_at all k (slot_at old k)
  pub short : AreShort old → AreShort now

pub undoing_next : (now next old : Entries) (us less all : List Undo) (u : Undo) → us ≡ less ++ u ∷ [] →
    (is_used (slot_at now u.key) ≡ true → (k : List ℕ) → slot_at next k ≡ cond (same_key k u.key) u.before (slot_at now k)) →
    (is_used (slot_at now u.key) ≡ true → AreShort now → AreShort next) → Undone us all now old → Undone less all next old
undoing_next now next old us less all u popped step short so_far =
    let can : CanUndo (less ++ u ∷ []) (slot_at now) = subst (λ (xs : List Undo). CanUndo xs (slot_at now)) popped so_far.can in
    let used : is_used (slot_at now u.key) ≡ true = can_first less u (slot_at now) can in
    record {
      can = (can_less less u (slot_at now) (slot_at next) (step used) can).0;
      slots = λ k. ap (undone_at less k) (step used k) ∙ sym (undone_last less u k (slot_at now k)) ∙ ap (λ (xs : List Undo). undone_at xs k (slot_at now k)) (sym popped) ∙ so_far.slots k;
      short = λ all_short. short used (so_far.short all_short);
    }

-- THE SAME AT EACH PLACE

if_same : (a : Bool) (s t : StoredPlace) → (a ≡ true → s ≡ t) → cond a s t ≡ t
if_same true s t same = same refl
if_same false s t same = refl

put_twice : (k : List ℕ) (v : StoredPlace) (es : Entries) (j : List ℕ) → slot_at (slots_with k (slot_at es k) (slots_with k v es)) j ≡ slot_at es j
put_twice k v es j =
    slot_put k (slot_at es k) (slots_with k v es) j ∙ ap (λ (s : StoredPlace). cond (same_key j k) (slot_at es k) s) (slot_put k v es j) ∙ by_test (same_key j k) (keys_same j k)
  where
    by_test : (a : Bool) → (a ≡ true → j ≡ k) → cond a (slot_at es k) (cond a v (slot_at es j)) ≡ slot_at es j
    by_test true same = ap (slot_at es) (sym (same refl))
    by_test false same = refl

pub short_put : (k : List ℕ) (v : StoredPlace) (es : Entries) → length k ≤ MAX_KEY_LENGTH → AreShort es → AreShort (slots_with k v es)
short_put k v [] le all = (le, tt)
short_put k v (e ∷ es) le all = by_test (same_key k e.0) (short_put k v es le all.1)
  where
    by_test : (a : Bool) → AreShort (slots_with k v es) → AreShort (cond a ((e.0, v) ∷ es) (e ∷ slots_with k v es))
    by_test true rest = (all.0, all.1)
    by_test false rest = (all.0, rest)

pub same_itself : (es new : Entries) → new ≡ es → SameSlots es new
same_itself es new is = let P : Entries → Type 0 = λ l. SameSlots es l in subst P (sym is) (record { slots = λ j. refl; short = λ all. all })

pub undo_same : (es made also new : Entries) (k : List ℕ) (v : StoredPlace) (us : List Undo) → is_used v ≡ true → length k ≤ MAX_KEY_LENGTH → made ≡ slots_with k v es → SameSlots made also →
    us ≡ record { key = k; before = slot_at es k } ∷ [] → (CanUndo us (slot_at also) → (j : List ℕ) → slot_at new j ≡ undone_at us j (slot_at also j)) →
    (CanUndo us (slot_at also) → AreShort also → AreShort new) → SameSlots es new
undo_same es made also new k v us used le put_is same noted back short = record {
  slots = λ j. back can j ∙ ap (λ (xs : List Undo). undone_at xs j (slot_at also j)) noted
      ∙ ap (λ (s : StoredPlace). cond (same_key j k) (slot_at es k) s) (same.slots j ∙ ap (λ (l : Entries). slot_at l j) put_is)
      ∙ sym (slot_put k (slot_at es k) (slots_with k v es) j) ∙ put_twice k v es j;
  short = λ all. short can (same.short (subst AreShort (sym put_is) (short_put k v es le all)));
}
  where
    there : slot_at also k ≡ v
    there = same.slots k ∙ ap (λ (l : Entries). slot_at l k) put_is ∙ put_there k v es

    can : CanUndo us (slot_at also)
    can = subst (λ (xs : List Undo). CanUndo xs (slot_at also)) (sym noted) (ap is_used there ∙ used, tt)

-- A PLACE THAT IS FREED

by_option : (o : Option StoredPlace) (s : StoredPlace) → o ≡ Some s → IsSome o
by_option o s is = let P : Option StoredPlace → Type 0 = λ x. IsSome x in subst P (sym is) refl

set_there : {A : Type 0} (es : List (Vec ℕ A × StoredPlace)) (key : List ℕ) (v : StoredPlace) → IsSome (lookup (λ k. pointwise nat_eq key k.items) es) →
    entries_of (set_value (λ k. pointwise nat_eq key k.items) es v) ≡ slots_with key v (entries_of es)
set_there [] key v there = absurd cc
set_there (e ∷ es) key v there = by_test (same_key key e.0.items) there (set_there es key v)
  where
    by_test : (a : Bool) → IsSome (cond a (Some e.1) (lookup (λ k. pointwise nat_eq key k.items) es)) →
        (IsSome (lookup (λ k. pointwise nat_eq key k.items) es) → entries_of (set_value (λ k. pointwise nat_eq key k.items) es v) ≡ slots_with key v (entries_of es)) →
        entries_of (cond a ((e.0, v) ∷ es) (e ∷ set_value (λ k. pointwise nat_eq key k.items) es v)) ≡ cond a ((e.0.items, v) ∷ entries_of es) ((e.0.items, e.1) ∷ slots_with key v (entries_of es))
    by_test true there rest = refl
    by_test false there rest = ap (λ (fs : Entries). (e.0.items, e.1) ∷ fs) (rest there)

pub short_there : (k : List ℕ) (v : StoredPlace) (es : Entries) → IsSome (lookup (same_key k) es) → AreShort es → AreShort (slots_with k v es)
short_there k v [] there all = absurd cc
short_there k v (e ∷ es) there all = by_test (same_key k e.0) there (λ h. short_there k v es h all.1)
  where
    by_test : (a : Bool) → IsSome (cond a (Some e.1) (lookup (same_key k) es)) → (IsSome (lookup (same_key k) es) → AreShort (slots_with k v es)) → AreShort (cond a ((e.0, v) ∷ es) (e ∷ slots_with k v es))
    by_test true there rest = (all.0, all.1)
    by_test false there rest = (all.0, rest there)

pub record Frees (top : ℕ) (key : List ℕ) (old new : Entries) : Type 0 where
  pub slots : (place : List ℕ) → slot_at new place ≡ cond (same_key place key) (slot_after_end top (slot_at old place)) (slot_at old place)
  pub short : AreShort old → AreShort new

frees_put : (top : ℕ) (key : List ℕ) (es : Entries) → IsSome (lookup (same_key key) es) → Frees top key es (slots_with key (slot_after_end top (slot_at es key)) es)
frees_put top key es there = record {
  slots = λ j. slot_put key (slot_after_end top (slot_at es key)) es j ∙ by_test j (same_key j key) (keys_same j key);
  short = short_there key (slot_after_end top (slot_at es key)) es there;
}
  where
    by_test : (j : List ℕ) (a : Bool) → (a ≡ true → j ≡ key) → cond a (slot_after_end top (slot_at es key)) (slot_at es j) ≡ cond a (slot_after_end top (slot_at es j)) (slot_at es j)
    by_test j true same = ap (λ (k : List ℕ). slot_after_end top (slot_at es k)) (sym (same refl))
    by_test j false same = refl

-- what is written at a place that is there
written_is : {A : Type 0} (top : ℕ) (key : List ℕ) (inside new : List (Vec ℕ A × StoredPlace)) (es : Entries) (slot : StoredPlace) → entries_of inside ≡ es →
    Some slot ≡ lookup (λ k. pointwise nat_eq key k.items) inside → new ≡ set_value (λ k. pointwise nat_eq key k.items) inside (slot_after_end top slot) →
    (slot_at es key ≡ slot) × (lookup (same_key key) es ≡ Some slot) × (entries_of new ≡ slots_with key (slot_after_end top (slot_at es key)) es)
written_is top key inside new es slot shown found_is written = (
  stands,
  at,
  ap entries_of written ∙ set_there inside key (slot_after_end top slot) (by_option (lookup (λ k. pointwise nat_eq key k.items) inside) slot (sym found_is))
      ∙ ap (λ (l : Entries). slots_with key (slot_after_end top slot) l) shown ∙ ap (λ (s : StoredPlace). slots_with key (slot_after_end top s) es) (sym stands),
)
  where
    at : lookup (same_key key) es ≡ Some slot
    at = ap (λ (l : Entries). lookup (same_key key) l) (sym shown) ∙ sym (found inside key) ∙ sym found_is

    stands : slot_at es key ≡ slot
    stands = ap (λ (o : Option StoredPlace). unwrap_or o vacant) at

pub frees_there : {A : Type 0} (top : ℕ) (key : List ℕ) (inside new : List (Vec ℕ A × StoredPlace)) (es : Entries) (slot : StoredPlace) → entries_of inside ≡ es →
    Some slot ≡ lookup (λ k. pointwise nat_eq key k.items) inside → new ≡ set_value (λ k. pointwise nat_eq key k.items) inside (slot_after_end top slot) → Frees top key es (entries_of new)
frees_there top key inside new es slot shown found_is written =
    let is = written_is top key inside new es slot shown found_is written in
    let P : Entries → Type 0 = λ l. Frees top key es l in
    subst P (sym is.2) (frees_put top key es (by_option (lookup (same_key key) es) slot is.1))

used_at : (es : Entries) (k : List ℕ) (s : StoredPlace) → AreUsed es → lookup (same_key k) es ≡ Some s → is_used s ≡ true
used_at [] k s all is = absurd cc
used_at (e ∷ es) k s all is = by_test (same_key k e.0) is (used_at es k s all.1)
  where
    by_test : (a : Bool) → cond a (Some e.1) (lookup (same_key k) es) ≡ Some s → (lookup (same_key k) es ≡ Some s → is_used s ≡ true) → is_used s ≡ true
    by_test true is rest = let same : e.1 ≡ s = cc in ap is_used (sym same) ∙ all.0
    by_test false is rest = rest is

-- what stands beside a hold stays
used_after : (top : ℕ) (s : StoredPlace) → is_used s ≡ true → (is_top top s.owner && not (is_some s.row)) ≡ false → is_used (slot_after_end top s) ≡ true
used_after top s used more = by_test (is_top top s.owner) (is_some s.row) more used
  where
    by_test : (a b : Bool) → (a && not b) ≡ false → (is_some s.owner || b) ≡ true → (is_some (cond a None s.owner) || b) ≡ true
    by_test true true more used = refl
    by_test true false more used = absurd cc
    by_test false b more used = used

pub used_released : {A : Type 0} (top : ℕ) (key : List ℕ) (inside new : List (Vec ℕ A × StoredPlace)) (es : Entries) (slot : StoredPlace) → entries_of inside ≡ es →
    Some slot ≡ lookup (λ k. pointwise nat_eq key k.items) inside → new ≡ set_value (λ k. pointwise nat_eq key k.items) inside (slot_after_end top slot) → AreUsed (entries_of inside) →
    (is_top top (slot_at es key).owner && not (is_some (slot_at es key).row)) ≡ false → AreUsed (entries_of new)
used_released top key inside new es slot shown found_is written all more =
    let is = written_is top key inside new es slot shown found_is written in
    let before : AreUsed es = subst AreUsed shown all in
    subst AreUsed (sym is.2) (used_put key (slot_after_end top (slot_at es key)) es
    (used_after top (slot_at es key) (ap is_used is.0 ∙ used_at es key slot before is.1) more) before)

pub frees_none : {A : Type 0} (top : ℕ) (key : List ℕ) (inside new : List (Vec ℕ A × StoredPlace)) (es : Entries) → entries_of inside ≡ es →
    None ≡ lookup (λ k. pointwise nat_eq key k.items) inside → new ≡ inside → Frees top key es (entries_of new)
frees_none top key inside new es shown found_is kept =
    let none : lookup (same_key key) es ≡ None = ap (λ (l : Entries). lookup (same_key key) l) (sym shown) ∙ sym (found inside key) ∙ sym found_is in
    let empty : slot_at es key ≡ vacant = ap (λ (o : Option StoredPlace). unwrap_or o vacant) none in
    let P : Entries → Type 0 = λ l. Frees top key es l in
    subst P (sym (ap entries_of kept ∙ shown)) (record {
      slots = λ j. by_test empty j (same_key j key) (keys_same j key);
      short = λ all. all;
    })
  where
    by_test : slot_at es key ≡ vacant → (j : List ℕ) (a : Bool) → (a ≡ true → j ≡ key) → slot_at es j ≡ cond a (slot_after_end top (slot_at es j)) (slot_at es j)
    by_test empty j true same =
        let gone : slot_at es j ≡ vacant = ap (slot_at es) (same refl) ∙ empty in
        gone ∙ sym (ap (slot_after_end top) gone)
    by_test empty j false same = refl

-- A PLACE THAT IS LET GO OF

all_removed : {A : Type 0} (P : Vec ℕ A × StoredPlace → Type 0) (t : Vec ℕ A → Bool) (es : List (Vec ℕ A × StoredPlace)) → AllByRecursion P es → AllByRecursion P (swap_remove_entry t es)
all_removed P t [] all = tt
all_removed P t (e ∷ es) all = by_found (position t (keys_of (e ∷ es)))
  where
    by_found : (o : Option ℕ) → AllByRecursion P (option_map_or (λ i. swap_remove (e ∷ es) i e) o (e ∷ es))
    by_found None = all
    by_found (Some i) =
        let last = get_or (e ∷ es) (length (e ∷ es) - 1) e in
        let every : All P (e ∷ es) = All-from_recursion P (e ∷ es) all in
        recursion_from_All P (swap_remove (e ∷ es) i e) (All-take P (length (e ∷ es) - 1) (set (e ∷ es) i last)
        (All-set P (e ∷ es) i last (All-get_or P (e ∷ es) (length (e ∷ es) - 1) e (omega arith) every) every))

of_entries : {A : Type 0} (P : List ℕ × StoredPlace → Type 0) (es : List (Vec ℕ A × StoredPlace)) → AllByRecursion P (entries_of es) → AllByRecursion (λ e. P (e.0.items, e.1)) es
of_entries P [] all = tt
of_entries P (e ∷ es) all = (all.0, of_entries P es all.1)

to_entries : {A : Type 0} (P : List ℕ × StoredPlace → Type 0) (es : List (Vec ℕ A × StoredPlace)) → AllByRecursion (λ e. P (e.0.items, e.1)) es → AllByRecursion P (entries_of es)
to_entries P [] all = tt
to_entries P (e ∷ es) all = (all.0, to_entries P es all.1)

pub all_left : {A : Type 0} (P : List ℕ × StoredPlace → Type 0) (t : Vec ℕ A → Bool) (es new : List (Vec ℕ A × StoredPlace)) → new ≡ swap_remove_entry t es → AllByRecursion P (entries_of es) →
    AllByRecursion P (entries_of new)
all_left P t es new left all =
    to_entries P new (subst (AllByRecursion (λ e. P (e.0.items, e.1))) (sym left) (all_removed (λ e. P (e.0.items, e.1)) t es (of_entries P es all)))

pub left_at : {A : Type 0} (key : List ℕ) (inside new : List (Vec ℕ A × StoredPlace)) (es : Entries) (j : List ℕ) → entries_of inside ≡ es → lookup (λ k. pointwise nat_eq key k.items) new ≡ None →
    KeepsOthers same_vec (λ k. pointwise nat_eq key k.items) inside new → slot_at (entries_of new) j ≡ cond (same_key j key) vacant (slot_at es j)
unfolding KeepsOthers
left_at {A} key inside new es j shown gone others = by_test (same_key j key) refl
  where
    apart : same_key j key ≡ false → (x : Vec ℕ A) → pointwise nat_eq key x.items ≡ true → pointwise nat_eq j x.items ≡ false
    apart off x on = ap (same_key j) (sym (keys_same key x.items on)) ∙ off

    by_test : (a : Bool) → same_key j key ≡ a → slot_at (entries_of new) j ≡ cond a vacant (slot_at es j)
    by_test true on =
        ap (slot_at (entries_of new)) (keys_same j key on) ∙ ap (λ (o : Option StoredPlace). unwrap_or o vacant) (sym (found new key) ∙ gone)
    by_test false off =
        ap (λ (o : Option StoredPlace). unwrap_or o vacant) (sym (found new j) ∙ others (λ k. pointwise nat_eq j k.items) (λ x y on. nat_list_eq_equiv.congr j x.items y.items on) (apart off) ∙ found inside j)
        ∙ ap (λ (l : Entries). slot_at l j) shown

-- one more of a change's places
is_noted-last : (us : List Undo) (u : Undo) (j : List ℕ) (s t : StoredPlace) → cond (is_noted j (us ++ u ∷ [])) s t ≡ cond (is_noted j us) s (cond (same_key j u.key) s t)
is_noted-last [] u j s t = by_test (same_key j u.key)
  where
    by_test : (a : Bool) → cond (a || false) s t ≡ cond a s t
    by_test true = refl
    by_test false = refl
is_noted-last (x ∷ us) u j s t = by_test (same_key j x.key) (is_noted-last us u j s t)
  where
    by_test : (a : Bool) → cond (is_noted j (us ++ u ∷ [])) s t ≡ cond (is_noted j us) s (cond (same_key j u.key) s t) →
        cond (a || is_noted j (us ++ u ∷ [])) s t ≡ cond (a || is_noted j us) s (cond (same_key j u.key) s t)
    by_test true rest = refl
    by_test false rest = rest

freed_twice : (top : ℕ) (s : StoredPlace) → slot_after_end top (slot_after_end top s) ≡ slot_after_end top s
freed_twice top s = ap (λ (o : Option ℕ). let t : StoredPlace = record { row = s.row; owner = o } in t) (by_test (is_top top s.owner) refl)
  where
    by_test : (a : Bool) → is_top top s.owner ≡ a → owner_after_end top (cond a None s.owner) ≡ cond a None s.owner
    by_test true on = refl
    by_test false off = rw off refl

pub freeing_next : (top : ℕ) (now next : Entries) (us less : List Undo) (u : Undo) (end : StoredPlace) (j : List ℕ) → us ≡ less ++ u ∷ [] →
    slot_at next j ≡ cond (same_key j u.key) (slot_after_end top (slot_at now j)) (slot_at now j) → cond (is_noted j us) (slot_after_end top (slot_at now j)) (slot_at now j) ≡ end →
    cond (is_noted j less) (slot_after_end top (slot_at next j)) (slot_at next j) ≡ end
freeing_next top now next us less u end j popped step so_far =
    ap (λ (s : StoredPlace). cond (is_noted j less) (slot_after_end top s) s) step ∙ by_test (is_noted j less) (same_key j u.key)
    ∙ sym (is_noted-last less u j (slot_after_end top (slot_at now j)) (slot_at now j)) ∙ ap (λ (l : List Undo). cond (is_noted j l) (slot_after_end top (slot_at now j)) (slot_at now j)) (sym popped) ∙ so_far
  where
    by_test : (a b : Bool) → cond a (slot_after_end top (cond b (slot_after_end top (slot_at now j)) (slot_at now j))) (cond b (slot_after_end top (slot_at now j)) (slot_at now j)) ≡
        cond a (slot_after_end top (slot_at now j)) (cond b (slot_after_end top (slot_at now j)) (slot_at now j))
    by_test true true = freed_twice top (slot_at now j)
    by_test true false = refl
    by_test false b = refl
