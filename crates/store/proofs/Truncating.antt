-- Tables that are emptied: what stands then, and that undoing it leaves what stood before.
use Rattle.std.proofs.Common.{◌≡◌, ℕ, zero, suc, ◌+◌, ◌<◌, Bool, true, false, cond, ◌||◌, ◌&&◌, List, [], ◌∷◌, ◌++◌, length, length-append, drop, get_or, Some, None, refl, sym, ap, subst, ◌∙◌, arith}
use Rattle.std.specs.Prelude.{Option, Vec, is_some, nat_eq}
use Rattle.std.specs.Cmp.Lexicographic.{pointwise, nat_list_eq_equiv}
use Rattle.std.specs.List.{AllByRecursion, IsDistinct, list_any}
use Rattle.std.specs.Map.{keys_of}
use Rattle.std.proofs.lemmas.Map.Keys.{IsDistinct-head, IsDistinct-tail}
use Rattle.pqformat.specs.Fields.{int32}
use Rattle.pqformat.proofs.Numbers.{length-int32}
use Rattle.store.specs.declared.places.stored_place.StoredPlace.{StoredPlace}
use Rattle.store.specs.declared.places.stored_place.Undo.{Undo}
use Rattle.tables.specs.declared.kinds.Value.{Value}
use Rattle.store.specs.Slots.{same_key, Entries, entries_of, slot_at, slots_with, is_used, CanUndo, undone_at}
use Rattle.store.specs.History.{is_other, is_within, is_among, table_place}
use Rattle.store.specs.Keeping.{all_emptied, put_at, emptied_slot, AreShort, SameSlots}
use Rattle.store.specs.Emptying.{AreAtPlace, is_other_within, filled_within, taken_at, IsOf, AreNoted}
use Rattle.store.proofs.Undoing.{slot_put, put_there, keys_same, same_self, short_put, undone_last, can_more}
use Rattle.store.proofs.Histories.{all_more}
use Rattle.store.proofs.Holding.{and_left, and_right, front_of_table, right_true}

abbrev slot : Option (List Value) → Option ℕ → StoredPlace
slot row owner = record { row = row; owner = owner }

-- ONE SLOT A PLACE

tails : {A : Type 0} (k : Vec ℕ A) (v : StoredPlace) (all : Entries) (es : List (Vec ℕ A × StoredPlace)) → AllByRecursion (λ y. pointwise nat_eq k.items y.items ≡ false) (keys_of es) →
    AllByRecursion (λ e. slot_at all e.0 ≡ e.1) (entries_of es) → AllByRecursion (λ e. slot_at ((k.items, v) ∷ all) e.0 ≡ e.1) (entries_of es)
tails k v all [] apart at = tt
tails k v all (e ∷ es) apart at = (
  rw (nat_list_eq_equiv.symm e.0.items k.items ∙ apart.0) at.0,
  tails k v all es apart.1 at.1,
)

pub at_place : {A : Type 0} (es : List (Vec ℕ A × StoredPlace)) → IsDistinct (λ x y. pointwise nat_eq x.items y.items) (keys_of es) → AreAtPlace (entries_of es)
at_place [] distinct = tt
at_place (e ∷ es) distinct = (
  rw (same_self e.0.items) refl,
  tails e.0 e.1 (entries_of es) es (IsDistinct-head (λ x y. pointwise nat_eq x.items y.items) e.0 (keys_of es) distinct)
      (at_place es (IsDistinct-tail (λ x y. pointwise nat_eq x.items y.items) e.0 (keys_of es) distinct)),
)

-- WHO HOLDS A PLACE OF THESE TABLES

pub other_found : (top : ℕ) (oids : List ℕ) (es : Entries) (k : List ℕ) → is_within oids k ≡ true → is_other top (slot_at es k).owner ≡ true → is_other_within top oids es ≡ true
other_found top oids [] k within on = absurd cc
other_found top oids (e ∷ es) k within on = by_test (same_key k e.0) refl (keys_same k e.0) (other_found top oids es k within)
  where
    by_test : (a : Bool) → same_key k e.0 ≡ a → (same_key k e.0 ≡ true → k ≡ e.0) → (is_other top (slot_at es k).owner ≡ true → is_other_within top oids es ≡ true) →
        is_other_within top oids (e ∷ es) ≡ true
    by_test true is same later =
        let here : is_other top e.1.owner ≡ true = sym (rw is refl) ∙ on in
        let there : is_within oids e.0 ≡ true = subst (λ (j : List ℕ). is_within oids j ≡ true) (same is) within in
        rw (here, there) refl
    by_test false is same later =
        let rest : is_other top (slot_at es k).owner ≡ true = sym (rw is refl) ∙ on in
        right_true (is_other top e.1.owner && is_within oids e.0) (is_other_within top oids es) (later rest)

pub none_other : (top : ℕ) (oids : List ℕ) (all es : Entries) → AllByRecursion (λ e. slot_at all e.0 ≡ e.1) es →
    ((k : List ℕ) → is_within oids k ≡ true → is_other top (slot_at all k).owner ≡ false) → is_other_within top oids es ≡ false
none_other top oids all [] at free = refl
none_other top oids all (e ∷ es) at free =
    by_test (is_other top e.1.owner) (is_within oids e.0) refl refl (none_other top oids all es at.1 free)
  where
    by_test : (a b : Bool) → is_other top e.1.owner ≡ a → is_within oids e.0 ≡ b → is_other_within top oids es ≡ false → ((a && b) || is_other_within top oids es) ≡ false
    by_test true true on within rest =
        let off : is_other top e.1.owner ≡ false = ap (λ (s : StoredPlace). is_other top s.owner) (sym at.0) ∙ free e.0 within in
        absurd cc
    by_test true false on within rest = rest
    by_test false b on within rest = rest

-- ROWS THAT ARE TAKEN AWAY

pub filled_of : (oids : List ℕ) (start es : Entries) → (AreShort start → AreShort es) → AllByRecursion (IsOf oids start) (filled_within oids es)
filled_of oids start [] short = tt
filled_of oids start (e ∷ es) short = by_test (is_some e.1.row && is_within oids e.0) refl (filled_of oids start es (λ all. (short all).1))
  where
    by_test : (a : Bool) → (is_some e.1.row && is_within oids e.0) ≡ a → AllByRecursion (IsOf oids start) (filled_within oids es) →
        AllByRecursion (IsOf oids start) (cond a (e.0 ∷ filled_within oids es) (filled_within oids es))
    by_test true on rest = (record { within = and_right (is_some e.1.row) (is_within oids e.0) on; short = λ all. (short all).0 }, rest)
    by_test false on rest = rest

filled_is : (oids : List ℕ) (es : Entries) (k : List ℕ) → is_some (slot_at es k).row ≡ true → is_within oids k ≡ true → is_among k (filled_within oids es) ≡ true
filled_is oids [] k some within = absurd cc
filled_is oids (e ∷ es) k some within = by_test (same_key k e.0) refl (keys_same k e.0) (λ more. filled_is oids es k more within)
  where
    skipped : (a : Bool) → is_among k (filled_within oids es) ≡ true → is_among k (cond a (e.0 ∷ filled_within oids es) (filled_within oids es)) ≡ true
    skipped true rest = right_true (same_key k e.0) (is_among k (filled_within oids es)) rest
    skipped false rest = rest

    by_test : (a : Bool) → same_key k e.0 ≡ a → (same_key k e.0 ≡ true → k ≡ e.0) → (is_some (slot_at es k).row ≡ true → is_among k (filled_within oids es) ≡ true) →
        is_among k (filled_within oids (e ∷ es)) ≡ true
    by_test true is same later =
        let here : is_some e.1.row ≡ true = sym (rw is refl) ∙ some in
        let there : is_within oids e.0 ≡ true = subst (λ (j : List ℕ). is_within oids j ≡ true) (same is) within in
        rw (here, there) (rw is refl)
    by_test false is same later =
        let rest : is_some (slot_at es k).row ≡ true = sym (rw is refl) ∙ some in
        skipped (is_some e.1.row && is_within oids e.0) (later rest)

filled_off : (oids : List ℕ) (es : Entries) (k : List ℕ) → is_within oids k ≡ false → is_among k (filled_within oids es) ≡ false
filled_off oids [] k off = refl
filled_off oids (e ∷ es) k off = by_test (is_some e.1.row && is_within oids e.0) refl (filled_off oids es k off)
  where
    apart : (a : Bool) → (a ≡ true → k ≡ e.0) → is_within oids e.0 ≡ true → is_among k (filled_within oids es) ≡ false → (a || is_among k (filled_within oids es)) ≡ false
    apart true same within rest =
        let on : is_within oids k ≡ true = subst (λ (j : List ℕ). is_within oids j ≡ true) (sym (same refl)) within in
        absurd cc
    apart false same within rest = rest

    by_test : (a : Bool) → (is_some e.1.row && is_within oids e.0) ≡ a → is_among k (filled_within oids es) ≡ false → is_among k (cond a (e.0 ∷ filled_within oids es) (filled_within oids es)) ≡ false
    by_test true on rest = apart (same_key k e.0) (keys_same k e.0) (and_right (is_some e.1.row) (is_within oids e.0) on) rest
    by_test false on rest = rest

taken_is : (top : ℕ) (ps : List (List ℕ)) (k : List ℕ) (s : StoredPlace) → taken_at top ps k s ≡ cond (is_among k ps) (slot None (Some top)) s
taken_is top [] k s = refl
taken_is top (p ∷ ps) k s = taken_is top ps k (cond (same_key k p) (slot None (Some top)) s) ∙ by_test (same_key k p) (is_among k ps)
  where
    by_test : (a b : Bool) → cond b (slot None (Some top)) (cond a (slot None (Some top)) s) ≡ cond (a || b) (slot None (Some top)) s
    by_test true true = refl
    by_test true false = refl
    by_test false b = refl

-- a row stands at each of the places that are found
filled_row : (oids : List ℕ) (all es : Entries) (k : List ℕ) → AllByRecursion (λ e. slot_at all e.0 ≡ e.1) es → is_among k (filled_within oids es) ≡ true → is_some (slot_at all k).row ≡ true
filled_row oids all [] k at among = absurd cc
filled_row oids all (e ∷ es) k at among = by_test (is_some e.1.row && is_within oids e.0) refl among (filled_row oids all es k at.1)
  where
    here : is_some e.1.row ≡ true → (a : Bool) → (a ≡ true → k ≡ e.0) → (a || is_among k (filled_within oids es)) ≡ true →
        (is_among k (filled_within oids es) ≡ true → is_some (slot_at all k).row ≡ true) → is_some (slot_at all k).row ≡ true
    here some true same on later = ap (λ (j : List ℕ). is_some (slot_at all j).row) (same refl) ∙ ap (λ (s : StoredPlace). is_some s.row) at.0 ∙ some
    here some false same on later = later on

    by_test : (a : Bool) → (is_some e.1.row && is_within oids e.0) ≡ a → is_among k (cond a (e.0 ∷ filled_within oids es) (filled_within oids es)) ≡ true →
        (is_among k (filled_within oids es) ≡ true → is_some (slot_at all k).row ≡ true) → is_some (slot_at all k).row ≡ true
    by_test true is on later = here (and_left (is_some e.1.row) (is_within oids e.0) is) (same_key k e.0) (keys_same k e.0) on later
    by_test false is on later = later on

-- all rows of these tables go
pub taken_all : (top : ℕ) (oids : List ℕ) (es : Entries) (k : List ℕ) → AreAtPlace es →
    taken_at top (filled_within oids es) k (slot_at es k) ≡ cond (is_within oids k) (emptied_slot (Some top) (slot_at es k)) (slot_at es k)
taken_all top oids es k at = taken_is top (filled_within oids es) k (slot_at es k) ∙ by_test (is_within oids k) refl
  where
    s : StoredPlace
    s = slot_at es k

    gone : StoredPlace
    gone = slot None (Some top)

    by_row : (a : Bool) → is_some s.row ≡ a → is_within oids k ≡ true → cond (is_among k (filled_within oids es)) gone s ≡ cond a gone s
    by_row true some within = ap (λ (b : Bool). cond b gone s) (filled_is oids es k some within)
    by_row false none within = by_among (is_among k (filled_within oids es)) refl
      where
        by_among : (b : Bool) → is_among k (filled_within oids es) ≡ b → cond b gone s ≡ s
        by_among true among =
            let some : is_some s.row ≡ true = filled_row oids es es k at among in
            absurd cc
        by_among false away = refl

    by_test : (a : Bool) → is_within oids k ≡ a → cond (is_among k (filled_within oids es)) gone s ≡ cond a (emptied_slot (Some top) s) s
    by_test true within = by_row (is_some s.row) refl within
    by_test false off = ap (λ (b : Bool). cond b gone s) (filled_off oids es k off)

-- STEP BY STEP

pub taken_next : (top : ℕ) (places : List (List ℕ)) (i : ℕ) (p : List ℕ) (now next : Entries) (k : List ℕ) (total : StoredPlace) → drop i places ≡ p ∷ drop (i + 1) places →
    next ≡ slots_with p (slot None (Some top)) now → taken_at top (drop i places) k (slot_at now k) ≡ total → taken_at top (drop (i + 1) places) k (slot_at next k) ≡ total
taken_next top places i p now next k total left made so_far =
    ap (taken_at top (drop (i + 1) places) k) (ap (λ (es : Entries). slot_at es k) made ∙ slot_put p (slot None (Some top)) now k)
    ∙ ap (λ (ps : List (List ℕ)). taken_at top ps k (slot_at now k)) (sym left) ∙ so_far

pub held_next : (top : ℕ) (oids : List ℕ) (i oid : ℕ) (now next : Entries) (k : List ℕ) (total : StoredPlace) → drop i oids ≡ oid ∷ drop (i + 1) oids → next ≡ slots_with (table_place oid) (slot None (Some top)) now →
    put_at (Some top) (all_emptied (drop i oids)) k (slot_at now k) ≡ total → put_at (Some top) (all_emptied (drop (i + 1) oids)) k (slot_at next k) ≡ total
held_next top oids i oid now next k total left made so_far =
    ap (put_at (Some top) (all_emptied (drop (i + 1) oids)) k) (ap (λ (es : Entries). slot_at es k) made ∙ slot_put (table_place oid) (slot None (Some top)) now k)
    ∙ ap (λ (xs : List ℕ). put_at (Some top) (all_emptied xs) k (slot_at now k)) (sym left) ∙ so_far

-- WHAT IS NOTED

pub noted_none : (oids : List ℕ) (es : Entries) → AreNoted oids es es []
noted_none oids es = record { restore = λ k. refl; undoable = tt; within = tt; short = λ all. all }

pub noted_next : (oids : List ℕ) (start now next : Entries) (undos more : List Undo) (p : List ℕ) (v : StoredPlace) → is_used v ≡ true → IsOf oids start p → next ≡ slots_with p v now →
    more ≡ undos ++ record { key = p; before = slot_at now p } ∷ [] → AreNoted oids start now undos → AreNoted oids start next more
noted_next oids start now next undos more p v used here made noted h =
    let P : Entries → List Undo → Type 0 = AreNoted oids start in
    subst (λ (es : Entries). P es more) (sym made) (subst (P (slots_with p v now)) (sym noted) (record {
      restore = λ k. undone_last undos u k (slot_at (slots_with p v now) k) ∙ ap (undone_at undos k) (by_place k) ∙ h.restore k;
      undoable = can_more undos u (slot_at now) (slot_at (slots_with p v now)) by_place (ap is_used (put_there p v now) ∙ used) h.undoable;
      within = all_more (λ x. is_within oids x.key ≡ true) undos u h.within here.within;
      short = λ all. short_put p v now (here.short all) (h.short all);
    }))
  where
    u : Undo
    u = record { key = p; before = slot_at now p }

    by_place : (k : List ℕ) → cond (same_key k p) (slot_at now p) (slot_at (slots_with p v now) k) ≡ slot_at now k
    by_place k = ap (λ (s : StoredPlace). cond (same_key k p) (slot_at now p) s) (slot_put p v now k) ∙ by_test (same_key k p) (keys_same k p)
      where
        by_test : (a : Bool) → (a ≡ true → k ≡ p) → cond a (slot_at now p) (cond a v (slot_at now k)) ≡ slot_at now k
        by_test true same = ap (slot_at now) (sym (same refl))
        by_test false same = refl

pub noted_same : (oids : List ℕ) (start now next : Entries) (undos more : List Undo) → next ≡ now → more ≡ undos → AreNoted oids start now undos → AreNoted oids start next more
noted_same oids start now next undos more same noted h = subst (λ (es : Entries). AreNoted oids start es more) (sym same) (subst (AreNoted oids start now) (sym noted) h)

pub noted_undone : (oids : List ℕ) (old now new : Entries) (undos : List Undo) → AreNoted oids old now undos →
    (CanUndo undos (slot_at now) → (k : List ℕ) → slot_at new k ≡ undone_at undos k (slot_at now k)) → (CanUndo undos (slot_at now) → AreShort now → AreShort new) → SameSlots old new
noted_undone oids old now new undos h back short = record { slots = λ k. back h.undoable k ∙ h.restore k; short = λ all. short h.undoable (h.short all) }

-- A TABLE'S PLACE

pub table_within : (oids : List ℕ) (i oid : ℕ) → i < length oids → oid ≡ get_or oids i 0 → is_within oids (table_place oid) ≡ true
table_within oids i oid lt is = rw (front_of_table oid) (among oids i lt is)
  where
    among : (xs : List ℕ) (j : ℕ) → j < length xs → oid ≡ get_or xs j 0 → list_any (λ x. same_key (int32 oid) (int32 x)) xs ≡ true
    among [] j lt is = absurd (omega (arith, lt))
    among (x ∷ xs) zero lt is = rw (← is) (rw (same_self (int32 oid)) refl)
    among (x ∷ xs) (suc j) lt is = right_true (same_key (int32 oid) (int32 x)) (list_any (λ y. same_key (int32 oid) (int32 y)) xs) (among xs j (omega (arith, lt)) is)

pub table_is_of : (oids : List ℕ) (start : Entries) (i oid : ℕ) → i < length oids → oid ≡ get_or oids i 0 → IsOf oids start (table_place oid)
table_is_of oids start i oid lt is =
    record { within = table_within oids i oid lt is; short = λ all. omega (arith, length-append (int32 oid) (255 ∷ []), length-int32 oid) }

-- what is said of all is said of one
pub all_at : {A : Type 0} (P : A → Type 0) (xs : List A) (i : ℕ) (x : A) → AllByRecursion P xs → i < length xs → x ≡ get_or xs i x → P x
all_at P [] i x all lt is = absurd (omega (arith, lt))
all_at P (y ∷ xs) zero x all lt is = subst P (sym is) all.0
all_at P (y ∷ xs) (suc i) x all lt is = all_at P xs i x all.1 (omega (arith, lt)) is
