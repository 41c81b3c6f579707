-- A store keeps its history through each of its calls.
use Rattle.std.proofs.Common.{◌≡◌, ℕ, ◌<◌, ◌≤◌, Bool, true, false, cond, ◌||◌, List, [], ◌∷◌, ◌++◌, length, length-append, Some, None, refl, sym, ap, subst, ◌∙◌, arith}
use Rattle.std.specs.Prelude.{Option, nat_eq, unwrap_or}
use Rattle.std.proofs.lemmas.Bool.{eqb-true}
use Rattle.std.specs.List.{AllByRecursion}
use Rattle.std.specs.Map.{lookup}
use Rattle.store.specs.declared.places.key.TheConstants.{MAX_KEY_LENGTH}
use Rattle.store.specs.declared.places.stored_place.StoredPlace.{StoredPlace}
use Rattle.store.specs.declared.places.stored_place.Undo.{Undo}
use Rattle.tables.specs.declared.table.Table.{Table}
use Rattle.tables.specs.declared.changes.change.Change.{Change}
use Rattle.store.specs.Slots.{same_key, vacant, Entries, slot_at, slots_with, is_used, CanUndo, undone_at}
use Rattle.store.specs.Rows.{Key, key_text}
use Rattle.tables.specs.Tables.{FitsChange}
use Rattle.store.specs.Emptying.{Does}
use Rattle.store.specs.History.{Made, change_made, is_top, is_other, is_held, is_key_held, table_place, rows_after, history_after_rollback, count_of, history_after_end}
use Rattle.store.specs.Keeping.{Journals, StoreState, journal_of, Put, put_at, put_all, noted_of, is_put, puts_of, is_emptied, touches, slot_by, slot_from, slot_after_end, is_in_journal, IsUndo, AreNotes, KeepsOff, nothing_at, Keeps, AreShort, Makes, IsSame, key_held, row_at}
use Rattle.store.proofs.Undoing.{slot_put, put_there, can_same, keys_same, same_self, short_put}
use Rattle.store.proofs.Histories.{all_map, all_more, emptied_off, top_self, slot_more, notes_more, notes_beside, apart_more, all_rolled, apart_rolled, undone_rolled, can_rolled, notes_rolled, notes_others, notes_count, rolled_all, rolled_twice}
use Rattle.store.proofs.Holding.{rows_are, held, key_held_is, OffAll, keeps_off}
use Rattle.store.proofs.Forgetting.{from_freed, notes_forgotten, notes_settled, unowned_vacant, apart_forgotten, fits_forgotten, freed_noted}

-- the state with other slots and journals
abbrev pub state : List Table → Entries → Journals → StoreState
state tables slots journals = record { tables = tables; slots = slots; journals = journals }

with_tables : (s : StoreState) (tables : List Table) (h : List Made) → s.tables ≡ tables → Keeps (state tables s.slots s.journals) h → Keeps s h
with_tables s tables h same keeps = subst (λ (ts : List Table). Keeps (state ts s.slots s.journals) h) (sym same) keeps

-- THE START

pub keeps_new : (tables : List Table) → Keeps (state tables [] []) []
keeps_new tables = record {
  stands = λ place. refl;
  notes = λ top. refl;
  apart = tt;
  short = tt;
  fits = tt;
}

-- WHAT IS PUT

slot_all : (top : Option ℕ) (ps : List Put) (es : Entries) (k : List ℕ) → slot_at (put_all top ps es) k ≡ put_at top ps k (slot_at es k)
slot_all top [] es k = refl
slot_all top (p ∷ ps) es k =
    slot_all top ps (slots_with p.0 (record { row = p.1; owner = top }) es) k ∙ ap (put_at top ps k) (slot_put p.0 (record { row = p.1; owner = top }) es k)

puts_undone : (top : Option ℕ) (ps : List Put) (es : Entries) (k : List ℕ) → undone_at (noted_of top ps es) k (put_at top ps k (slot_at es k)) ≡ slot_at es k
puts_undone top [] es k = refl
puts_undone top (p ∷ ps) es k =
    ap (λ (s : StoredPlace). cond (same_key k p.0) (slot_at es p.0) (undone_at (noted_of top ps next) k (put_at top ps k s))) (sym (slot_put p.0 slot es k))
    ∙ ap (λ (s : StoredPlace). cond (same_key k p.0) (slot_at es p.0) s) (puts_undone top ps next k ∙ slot_put p.0 slot es k) ∙ by_test (same_key k p.0) (keys_same k p.0)
  where
    slot : StoredPlace
    slot = record { row = p.1; owner = top }

    next : Entries
    next = slots_with p.0 (record { row = p.1; owner = top }) es

    by_test : (a : Bool) → (a ≡ true → k ≡ p.0) → cond a (slot_at es p.0) (cond a slot (slot_at es k)) ≡ slot_at es k
    by_test true same = ap (slot_at es) (sym (same refl))
    by_test false same = refl

can_puts : (top : ℕ) (ps : List Put) (es : Entries) → CanUndo (noted_of (Some top) ps es) (λ k. put_at (Some top) ps k (slot_at es k))
can_puts top [] es = tt
can_puts top (p ∷ ps) es = (
  ap (λ (s : StoredPlace). is_used (undone_at (noted_of (Some top) ps next) p.0 (put_at (Some top) ps p.0 s))) (sym (slot_put p.0 slot es p.0))
      ∙ ap is_used (puts_undone (Some top) ps next p.0 ∙ put_there p.0 slot es),
  can_same (noted_of (Some top) ps next) (λ k. put_at (Some top) ps k (slot_at next k)) (λ k. put_at (Some top) (p ∷ ps) k (slot_at es k)) (λ k. ap (put_at (Some top) ps k) (slot_put p.0 slot es k))
      (can_puts top ps next),
)
  where
    slot : StoredPlace
    slot = record { row = p.1; owner = Some top }

    next : Entries
    next = slots_with p.0 (record { row = p.1; owner = Some top }) es

abbrev pub ShortPuts : List Put → Type 0
ShortPuts ps = AllByRecursion (λ p. length p.0 ≤ MAX_KEY_LENGTH) ps

short_all : (top : Option ℕ) (ps : List Put) (es : Entries) → ShortPuts ps → AreShort es → AreShort (put_all top ps es)
short_all top [] es le all = all
short_all top (p ∷ ps) es le all = short_all top ps (slots_with p.0 (record { row = p.1; owner = top }) es) le.1 (short_put p.0 (record { row = p.1; owner = top }) es le.0 all)

puts_noted : (P : List ℕ → Type 0) (top : Option ℕ) (ps : List Put) (es : Entries) → AllByRecursion (λ p. P p.0) ps → AllByRecursion (λ u. P u.key) (noted_of top ps es)
puts_noted P top [] es all = tt
puts_noted P top (p ∷ ps) es all = (all.0, puts_noted P top ps (slots_with p.0 (record { row = p.1; owner = top }) es) all.1)

left_true : (a b : Bool) → a ≡ true → (a || b) ≡ true
left_true true b is = refl
left_true false b is = absurd cc

right_true : (a b : Bool) → b ≡ true → (a || b) ≡ true
right_true true b is = refl
right_true false b is = is

all_put : (all ps : List Put) → ((k : List ℕ) → is_put k ps ≡ true → is_put k all ≡ true) → AllByRecursion (λ p. is_put p.0 all ≡ true) ps
all_put all [] among = tt
all_put all (p ∷ ps) among =
    (among p.0 (left_true (same_key p.0 p.0) (is_put p.0 ps) (same_self p.0)), all_put all ps (λ k is. among k (right_true (same_key k p.0) (is_put k ps) is)))

-- A CHANGE

-- a change of places that no other transaction holds
pub keeps_does : (s new : StoreState) (top : ℕ) (change : Change) (h : List Made) → FitsChange s.tables change → AllByRecursion (λ e. KeepsOff s.tables e (change_made top change)) h →
    Does top change s new → Keeps s h → Keeps new (h ++ change_made top change ∷ [])
keeps_does s new top change h fits off does keeps = with_tables new s.tables (h ++ m ∷ []) does.tables (record {
  stands = λ k. does.slots k ∙ ap (slot_by s.tables m k) (keeps.stands k) ∙ sym (slot_more s.tables h m k vacant);
  notes = λ x. by_own x (is_top x (Some top)) refl;
  apart = apart_more s.tables h m keeps.apart off;
  short = does.short keeps.short;
  fits = all_more (λ e. FitsChange s.tables e.change) h m keeps.fits fits;
})
  where
    m : Made
    m = change_made top change

    undo : IsUndo s.tables m (λ k. slot_from s.tables h k (nothing_at k)) does.undos
    undo = record {
      restores = λ k. ap (undone_at does.undos k) (ap (slot_by s.tables m k) (sym (keeps.stands k)) ∙ sym (does.slots k)) ∙ does.restore k ∙ keeps.stands k;
      undoable = can_same does.undos (slot_at new.slots) (λ k. slot_by s.tables m k (slot_from s.tables h k vacant)) (λ k. does.slots k ∙ ap (slot_by s.tables m k) (keeps.stands k)) does.undoable;
      touched = does.touched;
    }

    journal_is : (x : ℕ) (a : Bool) → is_top x (Some top) ≡ a → journal_of x new.journals ≡ cond a (journal_of x s.journals ++ does.undos ∷ []) (journal_of x s.journals)
    journal_is x a is = does.journals x ∙ ap (λ (b : Bool). cond b (journal_of x s.journals ++ does.undos ∷ []) (journal_of x s.journals)) is

    by_own : (x : ℕ) (a : Bool) → is_top x (Some top) ≡ a → AreNotes s.tables x (h ++ m ∷ []) nothing_at (journal_of x new.journals)
    by_own x true own =
        subst (AreNotes s.tables x (h ++ m ∷ []) nothing_at) (sym (journal_is x true own))
        (notes_more s.tables x h m nothing_at (journal_of x s.journals) does.undos own (keeps.notes x) undo)
    by_own x false own =
        subst (AreNotes s.tables x (h ++ m ∷ []) nothing_at) (sym (journal_is x false own)) (notes_beside s.tables x h m nothing_at (journal_of x s.journals) own (keeps.notes x))

-- rows that are put
does_puts : (s new : StoreState) (top : ℕ) (change : Change) → ((k : List ℕ) → is_emptied change k ≡ false) → ShortPuts (puts_of s.tables change) → Makes top (puts_of s.tables change) s new →
    Does top change s new
does_puts s new top change puts_alone short makes = record {
  undos = noted_of (Some top) ps s.slots;
  tables = makes.tables;
  slots = λ k. after k ∙ ap (put_at (Some top) ps k) (sym (emptied_off (Some top) change k (slot_at s.slots k) (puts_alone k)));
  restore = λ k. ap (undone_at (noted_of (Some top) ps s.slots) k) (after k) ∙ puts_undone (Some top) ps s.slots k;
  touched = puts_noted (λ k. touches s.tables change k ≡ true) (Some top) ps s.slots
      (all_map (λ p. is_put p.0 ps ≡ true) (λ p. touches s.tables change p.0 ≡ true) ps (λ p on. left_true (is_put p.0 ps) (is_emptied change p.0) on) (all_put ps ps (λ k on. on)));
  undoable = can_same (noted_of (Some top) ps s.slots) (λ k. put_at (Some top) ps k (slot_at s.slots k)) (slot_at new.slots) (λ k. sym (after k)) (can_puts top ps s.slots);
  short = λ all. subst AreShort (sym makes.slots) (short_all (Some top) ps s.slots short all);
  journals = makes.journals;
}
  where
    ps : List Put
    ps = puts_of s.tables change

    after : (k : List ℕ) → slot_at new.slots k ≡ put_at (Some top) ps k (slot_at s.slots k)
    after k = ap (λ (es : Entries). slot_at es k) makes.slots ∙ slot_all (Some top) ps s.slots k

pub keeps_made : (s new : StoreState) (top : ℕ) (change : Change) (h : List Made) → ((k : List ℕ) → is_emptied change k ≡ false) → FitsChange s.tables change →
    ShortPuts (puts_of s.tables change) → AllByRecursion (OffAll s.tables top (puts_of s.tables change)) h → Makes top (puts_of s.tables change) s new → Keeps s h → Keeps new (h ++ change_made top change ∷ [])
keeps_made s new top change h puts_alone fits short off makes keeps =
    keeps_does s new top change h fits
    (all_map (OffAll s.tables top (puts_of s.tables change)) (λ e. KeepsOff s.tables e (change_made top change)) h (λ e free. keeps_off s.tables top e (change_made top change) refl puts_alone free) off)
    (does_puts s new top change puts_alone short makes) keeps

-- NO CHANGE

pub keeps_same : (s new : StoreState) (h : List Made) → IsSame s new → Keeps s h → Keeps new h
keeps_same s new h same keeps = with_tables new s.tables h same.tables (record {
  stands = λ k. same.slots.slots k ∙ keeps.stands k;
  notes = λ x. subst (AreNotes s.tables x h nothing_at) (sym (same.journals x)) (keeps.notes x);
  apart = keeps.apart;
  short = same.slots.short keeps.short;
  fits = keeps.fits;
})

pub same_puts : (s new : StoreState) (top : ℕ) (ps : List Put) (slots : Entries) → new.tables ≡ s.tables → slots ≡ put_all (Some top) ps s.slots → ShortPuts ps →
    (CanUndo (noted_of (Some top) ps s.slots) (slot_at slots) → (k : List ℕ) → slot_at new.slots k ≡ undone_at (noted_of (Some top) ps s.slots) k (slot_at slots k)) →
    (CanUndo (noted_of (Some top) ps s.slots) (slot_at slots) → AreShort slots → AreShort new.slots) → ((x : ℕ) → journal_of x new.journals ≡ journal_of x s.journals) → IsSame s new
same_puts s new top ps slots same made short back kept journals = record {
  tables = same;
  journals = journals;
  slots = record {
    slots = λ k. back can k ∙ ap (λ (t : StoredPlace). undone_at us k t) (stands k) ∙ puts_undone (Some top) ps s.slots k;
    short = λ all. kept can (subst AreShort (sym made) (short_all (Some top) ps s.slots short all));
  };
}
  where
    us : List Undo
    us = noted_of (Some top) ps s.slots

    stands : (k : List ℕ) → slot_at slots k ≡ put_at (Some top) ps k (slot_at s.slots k)
    stands k = ap (λ (es : Entries). slot_at es k) made ∙ slot_all (Some top) ps s.slots k

    can : CanUndo us (slot_at slots)
    can = can_same us (λ k. put_at (Some top) ps k (slot_at s.slots k)) (slot_at slots) (λ k. sym (stands k)) (can_puts top ps s.slots)

-- UNDOING

differ : (x top : ℕ) → nat_eq top x ≡ false → (o : Option ℕ) → is_top x o ≡ true → is_top top o ≡ false
differ x top apart None own = absurd cc
differ x top apart (Some y) own = by_test (nat_eq y top) refl
  where
    by_test : (a : Bool) → nat_eq y top ≡ a → a ≡ false
    by_test false off = refl
    by_test true on =
        let at : y ≡ x = eqb-true y x own in
        let here : y ≡ top = eqb-true y top on in
        let same : nat_eq top x ≡ true = subst (λ (n : ℕ). nat_eq top n ≡ true) at (subst (λ (n : ℕ). nat_eq n y ≡ true) here (top_self y)) in
        absurd cc

-- the last change of a transaction is undone
pub keeps_popped : (s new : StoreState) (top : ℕ) (undos : List Undo) (h : List Made) → new.tables ≡ s.tables → journal_of top s.journals ≡ journal_of top new.journals ++ undos ∷ [] →
    ((x : ℕ) → nat_eq top x ≡ false → journal_of x new.journals ≡ journal_of x s.journals) →
    (CanUndo undos (slot_at s.slots) → (k : List ℕ) → slot_at new.slots k ≡ undone_at undos k (slot_at s.slots k)) → (CanUndo undos (slot_at s.slots) → AreShort s.slots → AreShort new.slots) →
    Keeps s h → Keeps new (history_after_rollback top (length (journal_of top new.journals)) h)
keeps_popped s new top undos h same popped others back short keeps = with_tables new s.tables (history_after_rollback top n h) same (record {
  stands = λ k. back can k ∙ ap (λ (t : StoredPlace). undone_at undos k t) (keeps.stands k)
      ∙ undone_rolled s.tables top h nothing_at left undos k keeps.apart own;
  notes = λ x. by_test x (nat_eq top x) refl;
  apart = apart_rolled s.tables top n h keeps.apart;
  short = short can keeps.short;
  fits = all_rolled (λ m. FitsChange s.tables m.change) top n h keeps.fits;
})
  where
    left : List (List Undo)
    left = journal_of top new.journals

    n : ℕ
    n = length (journal_of top new.journals)

    own : AreNotes s.tables top h nothing_at (journal_of top new.journals ++ undos ∷ [])
    own = subst (AreNotes s.tables top h nothing_at) popped (keeps.notes top)

    can : CanUndo undos (slot_at s.slots)
    can = can_same undos (λ k. slot_from s.tables h k vacant) (slot_at s.slots) (λ k. sym (keeps.stands k)) (can_rolled s.tables top h nothing_at left undos keeps.apart own)

    top_of : (x : ℕ) → nat_eq top x ≡ true → top ≡ x
    top_of x is = eqb-true top x is

    by_test : (x : ℕ) (a : Bool) → nat_eq top x ≡ a → AreNotes s.tables x (history_after_rollback top n h) nothing_at (journal_of x new.journals)
    by_test x true is =
        subst (λ (y : ℕ). AreNotes s.tables y (history_after_rollback top n h) nothing_at (journal_of y new.journals)) (top_of x is) (notes_rolled s.tables top h nothing_at left undos own)
    by_test x false is =
        subst (AreNotes s.tables x (history_after_rollback top n h) nothing_at) (sym (others x is)) (notes_others s.tables x top n h nothing_at (journal_of x s.journals) (differ x top is) keeps.apart (keeps.notes x))

-- as far as a loop has come
abbrev pub Undoing : ℕ → ℕ → StoreState → List Made → Type 0
Undoing top mark s h = (now : List Made) × Keeps s now × (history_after_rollback top mark now ≡ history_after_rollback top mark h)

pub undoing_more : (s new : StoreState) (top mark : ℕ) (undos : List Undo) (h : List Made) → new.tables ≡ s.tables → journal_of top s.journals ≡ journal_of top new.journals ++ undos ∷ [] →
    ((x : ℕ) → nat_eq top x ≡ false → journal_of x new.journals ≡ journal_of x s.journals) →
    (CanUndo undos (slot_at s.slots) → (k : List ℕ) → slot_at new.slots k ≡ undone_at undos k (slot_at s.slots k)) → (CanUndo undos (slot_at s.slots) → AreShort s.slots → AreShort new.slots) →
    mark < length (journal_of top s.journals) → Undoing top mark s h → Undoing top mark new h
undoing_more s new top mark undos h same popped others back short behind (now, keeps, is) =
    let n : ℕ = length (journal_of top new.journals) in
    let le : mark ≤ n = omega (arith, behind, ap (λ (gs : List (List Undo)). length gs) popped, length-append (journal_of top new.journals) (undos ∷ [])) in
    (history_after_rollback top n now, keeps_popped s new top undos now same popped others back short keeps, rolled_twice top mark n now le ∙ is)

pub undoing_done : (s new : StoreState) (top mark : ℕ) (h : List Made) → IsSame s new → length (journal_of top s.journals) ≤ mark → Undoing top mark s h → Keeps new (history_after_rollback top mark h)
undoing_done s new top mark h same le (now, keeps, is) =
    let few : count_of top now ≤ mark = omega (arith, le, notes_count s.tables top now nothing_at (journal_of top s.journals) (keeps.notes top)) in
    subst (Keeps new) (sym (rolled_all top mark now few) ∙ is) (keeps_same s new now same keeps)

pub mark_is : (s : StoreState) (top : ℕ) (h : List Made) → Keeps s h → length (journal_of top s.journals) ≡ count_of top h
mark_is s top h keeps = notes_count s.tables top h nothing_at (journal_of top s.journals) (keeps.notes top)

-- FORGETTING

pub keeps_forgotten : (s new : StoreState) (top : ℕ) (h : List Made) → new.tables ≡ s.tables →
    ((x : ℕ) → journal_of x new.journals ≡ cond (nat_eq top x) [] (journal_of x s.journals)) →
    ((k : List ℕ) → slot_at new.slots k ≡ cond (is_in_journal k (journal_of top s.journals)) (slot_after_end top (slot_at s.slots k)) (slot_at s.slots k)) →
    (AreShort s.slots → AreShort new.slots) → Keeps s h → Keeps new (history_after_end top h)
keeps_forgotten s new top h same journals slots short keeps = with_tables new s.tables (history_after_end top h) same (record {
  stands = λ k. slots k ∙ ap (λ (t : StoredPlace). cond (is_in_journal k (journal_of top s.journals)) (slot_after_end top t) t) (keeps.stands k)
      ∙ freed_noted s.tables top h (journal_of top s.journals) k (keeps.notes top) ∙ sym (from_freed s.tables top h k vacant);
  notes = λ x. by_test x (nat_eq top x) refl;
  apart = apart_forgotten s.tables top h keeps.apart;
  short = short keeps.short;
  fits = fits_forgotten s.tables top h keeps.fits;
})
  where
    journal_is : (x : ℕ) (a : Bool) → nat_eq top x ≡ a → journal_of x new.journals ≡ cond a [] (journal_of x s.journals)
    journal_is x a is = journals x ∙ ap (λ (b : Bool). cond b [] (journal_of x s.journals)) is

    by_test : (x : ℕ) (a : Bool) → nat_eq top x ≡ a → AreNotes s.tables x (history_after_end top h) nothing_at (journal_of x new.journals)
    by_test x true is =
        subst (AreNotes s.tables x (history_after_end top h) nothing_at) (sym (journal_is x true is))
        (subst (λ (y : ℕ). AreNotes s.tables y (history_after_end top h) nothing_at []) (eqb-true top x is) (notes_settled s.tables top h nothing_at))
    by_test x false is =
        subst (AreNotes s.tables x (history_after_end top h) nothing_at) (sym (journal_is x false is))
        (notes_forgotten s.tables top x h nothing_at nothing_at (journal_of x s.journals) (differ x top is) keeps.apart (λ k. refl) (unowned_vacant s.tables top x h) (keeps.notes x))

-- WHAT THE SLOTS TELL

pub row_is : (s : StoreState) (h : List Made) (key : Key) → Keeps s h → row_at s key ≡ rows_after s.tables h key
row_is s h key keeps = ap (λ (t : StoredPlace). t.row) (keeps.stands (key_text key)) ∙ rows_are s.tables h key vacant (λ k. None) refl

pub place_held : (s : StoreState) (h : List Made) (top : ℕ) (k : List ℕ) → Keeps s h → is_held s.tables top h k ≡ true → is_other top (slot_at s.slots k).owner ≡ true
place_held s h top k keeps on = ap (λ (t : StoredPlace). is_other top t.owner) (keeps.stands k) ∙ held s.tables top h k vacant keeps.apart on

pub held_key : (s : StoreState) (h : List Made) (top : ℕ) (key : Key) → Keeps s h → key_held s top key ≡ is_key_held s.tables top h key
held_key s h top key keeps =
    ap (λ (t : StoredPlace). is_other top t.owner || is_other top (slot_at s.slots (key_text key)).owner) (keeps.stands (table_place key.oid))
    ∙ ap (λ (t : StoredPlace). is_other top (slot_from s.tables h (table_place key.oid) vacant).owner || is_other top t.owner) (keeps.stands (key_text key))
    ∙ key_held_is s.tables top h key keeps.apart

-- nothing stands at a key that is too long
long_away : (es : Entries) (k : List ℕ) → MAX_KEY_LENGTH < length k → AreShort es → slot_at es k ≡ vacant
long_away [] k long all = refl
long_away (e ∷ es) k long all = by_test (same_key k e.0) (keys_same k e.0) (long_away es k long all.1)
  where
    by_test : (a : Bool) → (a ≡ true → k ≡ e.0) → slot_at es k ≡ vacant → unwrap_or (cond a (Some e.1) (lookup (same_key k) es)) vacant ≡ vacant
    by_test true same rest = absurd (omega (arith, long, all.0, ap (λ (l : List ℕ). length l) (same refl)))
    by_test false same rest = rest

pub long_slot : (s : StoreState) (key : Key) → MAX_KEY_LENGTH < length (key_text key) → AreShort s.slots → slot_at s.slots (key_text key) ≡ vacant
long_slot s key long short = long_away s.slots (key_text key) long short

pub long_vacant : (s : StoreState) (key : Key) → MAX_KEY_LENGTH < length (key_text key) → AreShort s.slots → row_at s key ≡ None
long_vacant s key long short = ap (λ (t : StoredPlace). t.row) (long_slot s key long short)

pub shown_forgotten : (tables : List Table) (slots freed_slots : Entries) (journals rest : Journals) (top : ℕ) (journal : List (List Undo)) (s : StoreState) (h : List Made) → state tables slots journals ≡ s →
    journal ≡ journal_of top journals → ((x : ℕ) → journal_of x rest ≡ cond (nat_eq top x) [] (journal_of x journals)) →
    ((k : List ℕ) → slot_at freed_slots k ≡ cond (is_in_journal k journal) (slot_after_end top (slot_at slots k)) (slot_at slots k)) →
    (AreShort slots → AreShort freed_slots) → Keeps s h → Keeps (state tables freed_slots rest) (history_after_end top h)
shown_forgotten tables slots freed_slots journals rest top journal s h shown is others freed_is short keeps =
    keeps_forgotten (state tables slots journals) (state tables freed_slots rest) top h refl others
    (λ k. freed_is k ∙ ap (λ (gs : List (List Undo)). cond (is_in_journal k gs) (slot_after_end top (slot_at slots k)) (slot_at slots k)) is) short (subst (λ (t : StoreState). Keeps t h) (sym shown) keeps)

pub none_forgotten : (tables : List Table) (slots : Entries) (journals rest : Journals) (top : ℕ) (s : StoreState) (h : List Made) → state tables slots journals ≡ s → journal_of top journals ≡ [] →
    ((x : ℕ) → journal_of x rest ≡ cond (nat_eq top x) [] (journal_of x journals)) → Keeps s h → Keeps (state tables slots rest) (history_after_end top h)
none_forgotten tables slots journals rest top s h shown none others keeps =
    shown_forgotten tables slots slots journals rest top [] s h shown (sym none) others (λ k. refl) (λ all. all) keeps

pub same_rest : (s : StoreState) (top : ℕ) (rest : Journals) → journal_of top rest ≡ journal_of top s.journals → ((x : ℕ) → nat_eq top x ≡ false → journal_of x rest ≡ journal_of x s.journals) →
    IsSame s (state s.tables s.slots rest)
same_rest s top rest own others = record {
  tables = refl;
  slots = record { slots = λ k. refl; short = λ all. all };
  journals = λ x. by_test x (nat_eq top x) refl;
}
  where
    by_test : (x : ℕ) (a : Bool) → nat_eq top x ≡ a → journal_of x rest ≡ journal_of x s.journals
    by_test x true is = subst (λ (y : ℕ). journal_of y rest ≡ journal_of y s.journals) (eqb-true top x is) own
    by_test x false is = others x is
