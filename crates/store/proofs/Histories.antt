-- The slots and journals of a history: when it grows, and when the last change of a transaction is undone.
use Rattle.std.proofs.Common.{◌≡◌, ℕ, zero, suc, ◌≤◌, Bool, true, false, cond, ◌||◌, List, [], ◌∷◌, ◌++◌, length, Some, None, refl, sym, ap, subst, ◌∙◌, arith, eq-eqb}
use Rattle.std.proofs.lemmas.Bool.{eqb-true}
use Rattle.std.specs.Prelude.{Option}
use Rattle.std.specs.List.{AllByRecursion}
use Rattle.store.specs.declared.places.stored_place.StoredPlace.{StoredPlace}
use Rattle.store.specs.declared.places.stored_place.Undo.{Undo}
use Rattle.tables.specs.declared.table.Table.{Table}
use Rattle.tables.specs.declared.changes.change.Change.{Change}
use Rattle.tables.specs.declared.changes.change.Change.TheVariants as changes
use Rattle.store.specs.Slots.{same_key, undone_at, CanUndo}
use Rattle.store.specs.History.{Made, is_top, history_after_rollback, count_of}
use Rattle.store.specs.Keeping.{Put, put_at, is_put, puts_of, slot_after_emptying, is_emptied, touches, slot_by, slot_from, IsUndo, OwnFirst, AreNotes, Follows, KeepsOff, AreApart}
use Rattle.store.proofs.Undoing.{keys_same, can_on}

abbrev Slots : Type 0
Slots = List ℕ → StoredPlace

-- LISTS

pub all_map : {A : Type 0} (P Q : A → Type 0) (xs : List A) → ((x : A) → P x → Q x) → AllByRecursion P xs → AllByRecursion Q xs
all_map P Q [] f all = tt
all_map P Q (x ∷ xs) f all = (f x all.0, all_map P Q xs f all.1)

pub all_more : {A : Type 0} (P : A → Type 0) (xs : List A) (x : A) → AllByRecursion P xs → P x → AllByRecursion P (xs ++ x ∷ [])
all_more P [] x all one = (one, tt)
all_more P (y ∷ xs) x all one = (all.0, all_more P xs x all.1 one)

pub or_left : (a b : Bool) → (a || b) ≡ false → a ≡ false
or_left true b off = absurd cc
or_left false b off = refl

pub or_right : (a b : Bool) → (a || b) ≡ false → b ≡ false
or_right true b off = absurd cc
or_right false b off = off

-- TOPS

pub top_self : (top : ℕ) → is_top top (Some top) ≡ true
top_self top = eq-eqb top top refl

pub top_is : (top : ℕ) (o : Option ℕ) → is_top top o ≡ true → o ≡ Some top
top_is top None own = absurd cc
top_is top (Some x) own = ap (λ (n : ℕ). Some n) (eqb-true x top own)

-- A SLOT AND ONE CHANGE

pub put_off : (top : Option ℕ) (ps : List Put) (k : List ℕ) (s : StoredPlace) → is_put k ps ≡ false → put_at top ps k s ≡ s
put_off top [] k s off = refl
put_off top (p ∷ ps) k s off = by_test (same_key k p.0) off (put_off top ps k s)
  where
    by_test : (a : Bool) → (a || is_put k ps) ≡ false → (is_put k ps ≡ false → put_at top ps k s ≡ s) → put_at top ps k (cond a (record { row = p.1; owner = top }) s) ≡ s
    by_test true off rest = absurd cc
    by_test false off rest = rest off

pub emptied_off : (top : Option ℕ) (change : Change) (k : List ℕ) (s : StoredPlace) → is_emptied change k ≡ false → slot_after_emptying top change k s ≡ s
emptied_off top (changes.Truncate oids) k s off = rw off refl
emptied_off top (changes.Insert oid row) k s off = refl
emptied_off top (changes.Update oid old row) k s off = refl
emptied_off top (changes.Delete oid old) k s off = refl
emptied_off top (changes.Message message) k s off = refl

pub off_touch : (tables : List Table) (m : Made) (k : List ℕ) (s : StoredPlace) → touches tables m.change k ≡ false → slot_by tables m k s ≡ s
off_touch tables m k s off =
    ap (put_at m.top (puts_of tables m.change) k) (emptied_off m.top m.change k s (or_right (is_put k (puts_of tables m.change)) (is_emptied m.change k) off))
    ∙ put_off m.top (puts_of tables m.change) k s (or_left (is_put k (puts_of tables m.change)) (is_emptied m.change k) off)

pub undone_off : (tables : List Table) (change : Change) (us : List Undo) (k : List ℕ) (s : StoredPlace) → AllByRecursion (λ u. touches tables change u.key ≡ true) us → touches tables change k ≡ false →
    undone_at us k s ≡ s
undone_off tables change [] k s all off = refl
undone_off tables change (u ∷ us) k s all off = by_test (same_key k u.key) (keys_same k u.key) (undone_off tables change us k s all.1 off)
  where
    by_test : (a : Bool) → (a ≡ true → k ≡ u.key) → undone_at us k s ≡ s → cond a u.before (undone_at us k s) ≡ s
    by_test true same rest =
        let on : touches tables change k ≡ true = subst (λ (j : List ℕ). touches tables change j ≡ true) (sym (same refl)) all.0 in
        absurd cc
    by_test false same rest = rest

pub slot_more : (tables : List Table) (ms : List Made) (m : Made) (k : List ℕ) (s : StoredPlace) → slot_from tables (ms ++ m ∷ []) k s ≡ slot_by tables m k (slot_from tables ms k s)
slot_more tables [] m k s = refl
slot_more tables (x ∷ ms) m k s = slot_more tables ms m k (slot_by tables x k s)

-- JOURNALS

abbrev after : List Table → Made → Slots → Slots
after tables m b = λ k. slot_by tables m k (b k)

pub undo_agrees : (tables : List Table) (m : Made) (b c : Slots) (us : List Undo) → ((k : List ℕ) → touches tables m.change k ≡ true → b k ≡ c k) → IsUndo tables m b us → IsUndo tables m c us
undo_agrees tables m b c us same h = record {
  restores = λ k. by_test k (touches tables m.change k) refl;
  undoable = can_on us (after tables m b) (after tables m c)
      (all_map (λ u. touches tables m.change u.key ≡ true) (λ u. after tables m b u.key ≡ after tables m c u.key) us (λ u on. ap (slot_by tables m u.key) (same u.key on)) h.touched) h.undoable;
  touched = h.touched;
}
  where
    by_test : (k : List ℕ) (a : Bool) → touches tables m.change k ≡ a → undone_at us k (slot_by tables m k (c k)) ≡ c k
    by_test k true on = subst (λ (s : StoredPlace). undone_at us k (slot_by tables m k s) ≡ s) (same k on) (h.restores k)
    by_test k false off = undone_off tables m.change us k (slot_by tables m k (c k)) h.touched off ∙ off_touch tables m k (c k) off

-- what a transaction's changes touch is the same in both
abbrev Agree : List Table → ℕ → List Made → Slots → Slots → Type 0
Agree tables top ms b c = AllByRecursion (λ n. is_top top n.top ≡ true → (k : List ℕ) → touches tables n.change k ≡ true → b k ≡ c k) ms

pub notes_agree : (tables : List Table) (top : ℕ) (ms : List Made) (b c : Slots) (gs : List (List Undo)) → Agree tables top ms b c → AreNotes tables top ms b gs → AreNotes tables top ms c gs
notes_agree tables top [] b c gs same h = h
notes_agree tables top (m ∷ ms) b c gs same h =
    by_own (is_top top m.top) refl gs h (λ hs. notes_agree tables top ms (after tables m b) (after tables m c) hs
    (all_map (λ n. is_top top n.top ≡ true → (k : List ℕ) → touches tables n.change k ≡ true → b k ≡ c k)
    (λ n. is_top top n.top ≡ true → (k : List ℕ) → touches tables n.change k ≡ true → after tables m b k ≡ after tables m c k)
    ms (λ n at own k on. ap (slot_by tables m k) (at own k on)) same.1))
  where
    by_own : (a : Bool) → is_top top m.top ≡ a → (hs : List (List Undo)) → OwnFirst (IsUndo tables m b) (AreNotes tables top ms (after tables m b)) a hs →
        ((hs : List (List Undo)) → AreNotes tables top ms (after tables m b) hs → AreNotes tables top ms (after tables m c) hs) →
        OwnFirst (IsUndo tables m c) (AreNotes tables top ms (after tables m c)) a hs
    by_own false own hs h rest = rest hs h
    by_own true own [] h rest = h
    by_own true own (g ∷ hs) h rest = (undo_agrees tables m b c g (same.0 own) h.0, rest hs h.1)

own_rest : (F : List Undo → Type 0) (R S : List (List Undo) → Type 0) (a : Bool) (gs : List (List Undo)) → ((hs : List (List Undo)) → R hs → S hs) → OwnFirst F R a gs → OwnFirst F S a gs
own_rest F R S false gs f h = f gs h
own_rest F R S true [] f h = h
own_rest F R S true (g ∷ gs) f h = (h.0, f gs h.1)

pub notes_more : (tables : List Table) (top : ℕ) (ms : List Made) (m : Made) (b : Slots) (gs : List (List Undo)) (g : List Undo) → is_top top m.top ≡ true → AreNotes tables top ms b gs →
    IsUndo tables m (λ k. slot_from tables ms k (b k)) g → AreNotes tables top (ms ++ m ∷ []) b (gs ++ g ∷ [])
notes_more tables top [] m b gs g own h undo =
    let P : List (List Undo) → Bool → Type 0 = λ hs a. OwnFirst (IsUndo tables m b) (AreNotes tables top [] (after tables m b)) a (hs ++ g ∷ []) in
    subst (λ (a : Bool). P gs a) (sym own) (subst (λ (hs : List (List Undo)). P hs true) (sym h) (undo, refl))
notes_more tables top (x ∷ ms) m b gs g own h undo = by_own (is_top top x.top) gs h (λ hs rest. notes_more tables top ms m (after tables x b) hs g own rest undo)
  where
    by_own : (a : Bool) (hs : List (List Undo)) → OwnFirst (IsUndo tables x b) (AreNotes tables top ms (after tables x b)) a hs →
        ((hs : List (List Undo)) → AreNotes tables top ms (after tables x b) hs → AreNotes tables top (ms ++ m ∷ []) (after tables x b) (hs ++ g ∷ [])) →
        OwnFirst (IsUndo tables x b) (AreNotes tables top (ms ++ m ∷ []) (after tables x b)) a (hs ++ g ∷ [])
    by_own false hs h rest = rest hs h
    by_own true [] h rest = absurd h
    by_own true (u ∷ hs) h rest = (h.0, rest hs h.1)

pub notes_beside : (tables : List Table) (top : ℕ) (ms : List Made) (m : Made) (b : Slots) (gs : List (List Undo)) → is_top top m.top ≡ false → AreNotes tables top ms b gs →
    AreNotes tables top (ms ++ m ∷ []) b gs
notes_beside tables top [] m b gs own h = subst (λ (a : Bool). OwnFirst (IsUndo tables m b) (AreNotes tables top [] (after tables m b)) a gs) (sym own) h
notes_beside tables top (x ∷ ms) m b gs own h =
    own_rest (IsUndo tables x b) (AreNotes tables top ms (after tables x b)) (AreNotes tables top (ms ++ m ∷ []) (after tables x b)) (is_top top x.top) gs
    (λ hs rest. notes_beside tables top ms m (after tables x b) hs own rest) h

-- APART

pub apart_more : (tables : List Table) (ms : List Made) (m : Made) → AreApart tables ms → AllByRecursion (λ x. KeepsOff tables x m) ms → AreApart tables (ms ++ m ∷ [])
apart_more tables [] m all off = (tt, tt)
apart_more tables (x ∷ ms) m all off = (all_more (KeepsOff tables x) ms m all.0 off.0, apart_more tables ms m all.1 off.1)

pub all_rolled : (P : Made → Type 0) (top n : ℕ) (ms : List Made) → AllByRecursion P ms → AllByRecursion P (history_after_rollback top n ms)
all_rolled P top n [] all = tt
all_rolled P top zero (m ∷ ms) all = by_own (is_top top m.top) (all_rolled P top zero ms all.1)
  where
    by_own : (a : Bool) → AllByRecursion P (history_after_rollback top zero ms) → AllByRecursion P (cond a (history_after_rollback top zero ms) (m ∷ history_after_rollback top zero ms))
    by_own true rest = rest
    by_own false rest = (all.0, rest)
all_rolled P top (suc n) (m ∷ ms) all = by_own (is_top top m.top) (all_rolled P top n ms all.1) (all_rolled P top (suc n) ms all.1)
  where
    by_own : (a : Bool) → AllByRecursion P (history_after_rollback top n ms) → AllByRecursion P (history_after_rollback top (suc n) ms) →
        AllByRecursion P (cond a (m ∷ history_after_rollback top n ms) (m ∷ history_after_rollback top (suc n) ms))
    by_own true less rest = (all.0, less)
    by_own false less rest = (all.0, rest)

pub apart_rolled : (tables : List Table) (top n : ℕ) (ms : List Made) → AreApart tables ms → AreApart tables (history_after_rollback top n ms)
apart_rolled tables top n [] all = tt
apart_rolled tables top zero (m ∷ ms) all = by_own (is_top top m.top) (apart_rolled tables top zero ms all.1) (all_rolled (KeepsOff tables m) top zero ms all.0)
  where
    by_own : (a : Bool) → AreApart tables (history_after_rollback top zero ms) → AllByRecursion (KeepsOff tables m) (history_after_rollback top zero ms) →
        AreApart tables (cond a (history_after_rollback top zero ms) (m ∷ history_after_rollback top zero ms))
    by_own true rest off = rest
    by_own false rest off = (off, rest)
apart_rolled tables top (suc n) (m ∷ ms) all =
    by_own (is_top top m.top) (apart_rolled tables top n ms all.1) (all_rolled (KeepsOff tables m) top n ms all.0) (apart_rolled tables top (suc n) ms all.1)
    (all_rolled (KeepsOff tables m) top (suc n) ms all.0)
  where
    by_own : (a : Bool) → AreApart tables (history_after_rollback top n ms) → AllByRecursion (KeepsOff tables m) (history_after_rollback top n ms) → AreApart tables (history_after_rollback top (suc n) ms) →
        AllByRecursion (KeepsOff tables m) (history_after_rollback top (suc n) ms) → AreApart tables (cond a (m ∷ history_after_rollback top n ms) (m ∷ history_after_rollback top (suc n) ms))
    by_own true less off rest still = (off, less)
    by_own false less off rest still = (still, rest)

-- A TRANSACTION WITHOUT CHANGES

abbrev NoneBy : ℕ → List Made → Type 0
NoneBy top ms = AllByRecursion (λ m. is_top top m.top ≡ false) ms

pub none_noted : (tables : List Table) (top : ℕ) (ms : List Made) (b : Slots) → AreNotes tables top ms b [] → NoneBy top ms
none_noted tables top [] b h = tt
none_noted tables top (m ∷ ms) b h = by_own (is_top top m.top) refl h (none_noted tables top ms (after tables m b))
  where
    by_own : (a : Bool) → is_top top m.top ≡ a → OwnFirst (IsUndo tables m b) (AreNotes tables top ms (after tables m b)) a [] →
        (AreNotes tables top ms (after tables m b) [] → NoneBy top ms) → NoneBy top (m ∷ ms)
    by_own true own h rest = absurd h
    by_own false own h rest = (own, rest h)

pub notes_none : (tables : List Table) (top : ℕ) (ms : List Made) (b : Slots) → NoneBy top ms → AreNotes tables top ms b []
notes_none tables top [] b all = refl
notes_none tables top (m ∷ ms) b all =
    subst (λ (a : Bool). OwnFirst (IsUndo tables m b) (AreNotes tables top ms (after tables m b)) a []) (sym all.0) (notes_none tables top ms (after tables m b) all.1)

rolled_none : (top : ℕ) (ms : List Made) → NoneBy top ms → history_after_rollback top zero ms ≡ ms
rolled_none top [] all = refl
rolled_none top (m ∷ ms) all = rw all.0 (ap (λ (xs : List Made). m ∷ xs) (rolled_none top ms all.1))

-- UNDOING THE LAST CHANGE

-- nothing later altered what a live transaction touched, if it made no later change
stays : (tables : List Table) (top : ℕ) (m : Made) (ms : List Made) (k : List ℕ) (s : StoredPlace) → m.top ≡ Some top → AllByRecursion (KeepsOff tables m) ms → NoneBy top ms →
    touches tables m.change k ≡ true → slot_from tables ms k s ≡ s
stays tables top m [] k s own off none on = refl
stays tables top m (n ∷ ms) k s own off none on =
    ap (slot_from tables ms k) (by_test (touches tables n.change k) refl) ∙ stays tables top m ms k s own off.1 none.1 on
  where
    follows : Follows (Some top) n.top → is_top top n.top ≡ true
    follows same = ap (is_top top) same ∙ top_self top

    by_test : (a : Bool) → touches tables n.change k ≡ a → slot_by tables n k s ≡ s
    by_test true also =
        let own_too : is_top top n.top ≡ true = follows (subst (λ (o : Option ℕ). Follows o n.top) own (off.0 k on also)) in
        let other : is_top top n.top ≡ false = none.0 in
        absurd cc
    by_test false away = off_touch tables n k s away

last_undone : (tables : List Table) (top : ℕ) (m : Made) (ms : List Made) (b : Slots) (g : List Undo) (k : List ℕ) → is_top top m.top ≡ true → AllByRecursion (KeepsOff tables m) ms → NoneBy top ms →
    IsUndo tables m b g → undone_at g k (slot_from tables ms k (slot_by tables m k (b k))) ≡ slot_from tables (history_after_rollback top zero ms) k (b k)
last_undone tables top m ms b g k own off none undo =
    by_test (touches tables m.change k) refl ∙ ap (λ (xs : List Made). slot_from tables xs k (b k)) (sym (rolled_none top ms none))
  where
    by_test : (a : Bool) → touches tables m.change k ≡ a → undone_at g k (slot_from tables ms k (slot_by tables m k (b k))) ≡ slot_from tables ms k (b k)
    by_test true on =
        ap (undone_at g k) (stays tables top m ms k (slot_by tables m k (b k)) (top_is top m.top own) off none on) ∙ undo.restores k
        ∙ sym (stays tables top m ms k (b k) (top_is top m.top own) off none on)
    by_test false away = undone_off tables m.change g k (slot_from tables ms k (slot_by tables m k (b k))) undo.touched away ∙ ap (slot_from tables ms k) (off_touch tables m k (b k) away)

not_empty : (gs : List (List Undo)) (g : List Undo) → gs ++ g ∷ [] ≡ [] → ⊥
not_empty [] g is = absurd cc
not_empty (x ∷ gs) g is = absurd cc

pub undone_rolled : (tables : List Table) (top : ℕ) (ms : List Made) (b : Slots) (gs : List (List Undo)) (g : List Undo) (k : List ℕ) → AreApart tables ms → AreNotes tables top ms b (gs ++ g ∷ []) →
    undone_at g k (slot_from tables ms k (b k)) ≡ slot_from tables (history_after_rollback top (length gs) ms) k (b k)
undone_rolled tables top [] b gs g k apart h = absurd (not_empty gs g h)
undone_rolled tables top (m ∷ ms) b [] g k apart h = by_own (is_top top m.top) refl h (undone_rolled tables top ms (after tables m b) [] g k apart.1)
  where
    by_own : (a : Bool) → is_top top m.top ≡ a → OwnFirst (IsUndo tables m b) (AreNotes tables top ms (after tables m b)) a (g ∷ []) →
        (AreNotes tables top ms (after tables m b) (g ∷ []) →
        undone_at g k (slot_from tables ms k (slot_by tables m k (b k))) ≡ slot_from tables (history_after_rollback top zero ms) k (slot_by tables m k (b k))) →
        undone_at g k (slot_from tables ms k (slot_by tables m k (b k))) ≡ slot_from tables (cond a (history_after_rollback top zero ms) (m ∷ history_after_rollback top zero ms)) k (b k)
    by_own true own h rest = last_undone tables top m ms b g k own apart.0 (none_noted tables top ms (after tables m b) h.1) h.0
    by_own false own h rest = rest h
undone_rolled tables top (m ∷ ms) b (x ∷ gs) g k apart h =
    by_own (is_top top m.top) h (undone_rolled tables top ms (after tables m b) gs g k apart.1) (undone_rolled tables top ms (after tables m b) (x ∷ gs) g k apart.1)
  where
    by_own : (a : Bool) → OwnFirst (IsUndo tables m b) (AreNotes tables top ms (after tables m b)) a (x ∷ (gs ++ g ∷ [])) →
        (AreNotes tables top ms (after tables m b) (gs ++ g ∷ []) →
        undone_at g k (slot_from tables ms k (slot_by tables m k (b k))) ≡ slot_from tables (history_after_rollback top (length gs) ms) k (slot_by tables m k (b k))) →
        (AreNotes tables top ms (after tables m b) (x ∷ (gs ++ g ∷ [])) →
        undone_at g k (slot_from tables ms k (slot_by tables m k (b k))) ≡ slot_from tables (history_after_rollback top (suc (length gs)) ms) k (slot_by tables m k (b k))) →
        undone_at g k (slot_from tables ms k (slot_by tables m k (b k))) ≡ slot_from tables (cond a (m ∷ history_after_rollback top (length gs) ms) (m ∷ history_after_rollback top (suc (length gs)) ms)) k (b k)
    by_own true h less rest = less h.1
    by_own false h less rest = rest h

-- the last change of a transaction can be undone
pub can_rolled : (tables : List Table) (top : ℕ) (ms : List Made) (b : Slots) (gs : List (List Undo)) (g : List Undo) → AreApart tables ms → AreNotes tables top ms b (gs ++ g ∷ []) →
    CanUndo g (λ k. slot_from tables ms k (b k))
can_rolled tables top [] b gs g apart h = absurd (not_empty gs g h)
can_rolled tables top (m ∷ ms) b [] g apart h = by_own (is_top top m.top) refl h (can_rolled tables top ms (after tables m b) [] g apart.1)
  where
    by_own : (a : Bool) → is_top top m.top ≡ a → OwnFirst (IsUndo tables m b) (AreNotes tables top ms (after tables m b)) a (g ∷ []) →
        (AreNotes tables top ms (after tables m b) (g ∷ []) → CanUndo g (λ k. slot_from tables ms k (slot_by tables m k (b k)))) → CanUndo g (λ k. slot_from tables ms k (slot_by tables m k (b k)))
    by_own true own h rest =
        can_on g (after tables m b) (λ k. slot_from tables ms k (slot_by tables m k (b k)))
        (all_map (λ u. touches tables m.change u.key ≡ true) (λ u. after tables m b u.key ≡ slot_from tables ms u.key (slot_by tables m u.key (b u.key))) g
        (λ u on. sym (stays tables top m ms u.key (slot_by tables m u.key (b u.key)) (top_is top m.top own) apart.0 (none_noted tables top ms (after tables m b) h.1) on)) h.0.touched) h.0.undoable
    by_own false own h rest = rest h
can_rolled tables top (m ∷ ms) b (x ∷ gs) g apart h =
    by_own (is_top top m.top) h (can_rolled tables top ms (after tables m b) gs g apart.1) (can_rolled tables top ms (after tables m b) (x ∷ gs) g apart.1)
  where
    by_own : (a : Bool) → OwnFirst (IsUndo tables m b) (AreNotes tables top ms (after tables m b)) a (x ∷ (gs ++ g ∷ [])) →
        (AreNotes tables top ms (after tables m b) (gs ++ g ∷ []) → CanUndo g (λ k. slot_from tables ms k (slot_by tables m k (b k)))) →
        (AreNotes tables top ms (after tables m b) (x ∷ (gs ++ g ∷ [])) → CanUndo g (λ k. slot_from tables ms k (slot_by tables m k (b k)))) → CanUndo g (λ k. slot_from tables ms k (slot_by tables m k (b k)))
    by_own true h less rest = less h.1
    by_own false h less rest = rest h

pub notes_rolled : (tables : List Table) (top : ℕ) (ms : List Made) (b : Slots) (gs : List (List Undo)) (g : List Undo) → AreNotes tables top ms b (gs ++ g ∷ []) →
    AreNotes tables top (history_after_rollback top (length gs) ms) b gs
notes_rolled tables top [] b gs g h = absurd (not_empty gs g h)
notes_rolled tables top (m ∷ ms) b [] g h = by_own (is_top top m.top) refl h (notes_rolled tables top ms (after tables m b) [] g)
  where
    by_own : (a : Bool) → is_top top m.top ≡ a → OwnFirst (IsUndo tables m b) (AreNotes tables top ms (after tables m b)) a (g ∷ []) →
        (AreNotes tables top ms (after tables m b) (g ∷ []) → AreNotes tables top (history_after_rollback top zero ms) (after tables m b) []) →
        AreNotes tables top (cond a (history_after_rollback top zero ms) (m ∷ history_after_rollback top zero ms)) b []
    by_own true own h rest =
        notes_none tables top (history_after_rollback top zero ms) b (all_rolled (λ n. is_top top n.top ≡ false) top zero ms (none_noted tables top ms (after tables m b) h.1))
    by_own false own h rest =
        subst (λ (a : Bool). OwnFirst (IsUndo tables m b) (AreNotes tables top (history_after_rollback top zero ms) (after tables m b)) a []) (sym own) (rest h)
notes_rolled tables top (m ∷ ms) b (x ∷ gs) g h =
    by_own (is_top top m.top) refl h (notes_rolled tables top ms (after tables m b) gs g) (notes_rolled tables top ms (after tables m b) (x ∷ gs) g)
  where
    by_own : (a : Bool) → is_top top m.top ≡ a → OwnFirst (IsUndo tables m b) (AreNotes tables top ms (after tables m b)) a (x ∷ (gs ++ g ∷ [])) →
        (AreNotes tables top ms (after tables m b) (gs ++ g ∷ []) → AreNotes tables top (history_after_rollback top (length gs) ms) (after tables m b) gs) →
        (AreNotes tables top ms (after tables m b) (x ∷ (gs ++ g ∷ [])) → AreNotes tables top (history_after_rollback top (suc (length gs)) ms) (after tables m b) (x ∷ gs)) →
        AreNotes tables top (cond a (m ∷ history_after_rollback top (length gs) ms) (m ∷ history_after_rollback top (suc (length gs)) ms)) b (x ∷ gs)
    by_own true own h less rest =
        subst (λ (a : Bool). OwnFirst (IsUndo tables m b) (AreNotes tables top (history_after_rollback top (length gs) ms) (after tables m b)) a (x ∷ gs)) (sym own) (h.0, less h.1)
    by_own false own h less rest =
        subst (λ (a : Bool). OwnFirst (IsUndo tables m b) (AreNotes tables top (history_after_rollback top (suc (length gs)) ms) (after tables m b)) a (x ∷ gs)) (sym own) (rest h)

-- another transaction's journal stays
abbrev Differ : ℕ → ℕ → Type 0
Differ u top = (o : Option ℕ) → is_top u o ≡ true → is_top top o ≡ false

dropped_agrees : (tables : List Table) (u top : ℕ) (m : Made) (ms : List Made) (b : Slots) → Differ u top → is_top top m.top ≡ true → AllByRecursion (KeepsOff tables m) ms →
    Agree tables u ms (after tables m b) b
dropped_agrees tables u top m ms b differ own off =
    all_map (KeepsOff tables m) (λ n. is_top u n.top ≡ true → (k : List ℕ) → touches tables n.change k ≡ true → after tables m b k ≡ b k) ms
    (λ n keeps theirs k on. by_test n keeps theirs k on (touches tables m.change k) refl) off
  where
    by_test : (n : Made) → KeepsOff tables m n → is_top u n.top ≡ true → (k : List ℕ) → touches tables n.change k ≡ true → (a : Bool) → touches tables m.change k ≡ a → after tables m b k ≡ b k
    by_test n keeps theirs k on true also =
        let same : n.top ≡ Some top = subst (λ (o : Option ℕ). Follows o n.top) (top_is top m.top own) (keeps k also on) in
        let yes : is_top top n.top ≡ true = ap (is_top top) same ∙ top_self top in
        let never : is_top top n.top ≡ false = differ n.top theirs in
        absurd cc
    by_test n keeps theirs k on false away = off_touch tables m k (b k) away

pub notes_others : (tables : List Table) (u top n : ℕ) (ms : List Made) (b : Slots) (gs : List (List Undo)) → Differ u top → AreApart tables ms → AreNotes tables u ms b gs →
    AreNotes tables u (history_after_rollback top n ms) b gs
notes_others tables u top n [] b gs differ apart h = h
notes_others tables u top zero (m ∷ ms) b gs differ apart h =
    by_own (is_top top m.top) refl (λ hs. notes_others tables u top zero ms (after tables m b) hs differ apart.1) (is_top u m.top) refl h
  where
    by_own : (a : Bool) → is_top top m.top ≡ a → ((hs : List (List Undo)) → AreNotes tables u ms (after tables m b) hs → AreNotes tables u (history_after_rollback top zero ms) (after tables m b) hs) →
        (c : Bool) → is_top u m.top ≡ c → OwnFirst (IsUndo tables m b) (AreNotes tables u ms (after tables m b)) c gs →
        AreNotes tables u (cond a (history_after_rollback top zero ms) (m ∷ history_after_rollback top zero ms)) b gs
    by_own true own rest true theirs h = let never : is_top top m.top ≡ false = differ m.top theirs in absurd cc
    by_own true own rest false theirs h =
        notes_agree tables u (history_after_rollback top zero ms) (after tables m b) b gs
        (dropped_agrees tables u top m (history_after_rollback top zero ms) b differ own (all_rolled (KeepsOff tables m) top zero ms apart.0)) (rest gs h)
    by_own false own rest c theirs h =
        subst (λ (x : Bool). OwnFirst (IsUndo tables m b) (AreNotes tables u (history_after_rollback top zero ms) (after tables m b)) x gs) (sym theirs)
        (own_rest (IsUndo tables m b) (AreNotes tables u ms (after tables m b)) (AreNotes tables u (history_after_rollback top zero ms) (after tables m b)) c gs rest h)
notes_others tables u top (suc n) (m ∷ ms) b gs differ apart h =
    by_own (is_top top m.top) (λ hs. notes_others tables u top n ms (after tables m b) hs differ apart.1) (λ hs. notes_others tables u top (suc n) ms (after tables m b) hs differ apart.1)
  where
    by_own : (a : Bool) → ((hs : List (List Undo)) → AreNotes tables u ms (after tables m b) hs → AreNotes tables u (history_after_rollback top n ms) (after tables m b) hs) →
        ((hs : List (List Undo)) → AreNotes tables u ms (after tables m b) hs → AreNotes tables u (history_after_rollback top (suc n) ms) (after tables m b) hs) →
        AreNotes tables u (cond a (m ∷ history_after_rollback top n ms) (m ∷ history_after_rollback top (suc n) ms)) b gs
    by_own true less rest =
        own_rest (IsUndo tables m b) (AreNotes tables u ms (after tables m b)) (AreNotes tables u (history_after_rollback top n ms) (after tables m b)) (is_top u m.top) gs less h
    by_own false less rest =
        own_rest (IsUndo tables m b) (AreNotes tables u ms (after tables m b)) (AreNotes tables u (history_after_rollback top (suc n) ms) (after tables m b)) (is_top u m.top) gs rest h

-- COUNTING

pub notes_count : (tables : List Table) (top : ℕ) (ms : List Made) (b : Slots) (gs : List (List Undo)) → AreNotes tables top ms b gs → length gs ≡ count_of top ms
notes_count tables top [] b gs h = ap (λ (hs : List (List Undo)). length hs) h
notes_count tables top (m ∷ ms) b gs h = by_own (is_top top m.top) gs h (notes_count tables top ms (after tables m b))
  where
    by_own : (a : Bool) (hs : List (List Undo)) → OwnFirst (IsUndo tables m b) (AreNotes tables top ms (after tables m b)) a hs →
        ((hs : List (List Undo)) → AreNotes tables top ms (after tables m b) hs → length hs ≡ count_of top ms) → length hs ≡ cond a (suc (count_of top ms)) (count_of top ms)
    by_own true [] h rest = absurd h
    by_own true (g ∷ hs) h rest = ap suc (rest hs h.1)
    by_own false hs h rest = rest hs h

pub rolled_all : (top n : ℕ) (ms : List Made) → count_of top ms ≤ n → history_after_rollback top n ms ≡ ms
rolled_all top n [] le = refl
rolled_all top zero (m ∷ ms) le = by_own (is_top top m.top) le (rolled_all top zero ms)
  where
    by_own : (a : Bool) → cond a (suc (count_of top ms)) (count_of top ms) ≤ 0 → (count_of top ms ≤ 0 → history_after_rollback top zero ms ≡ ms) →
        cond a (history_after_rollback top zero ms) (m ∷ history_after_rollback top zero ms) ≡ m ∷ ms
    by_own true le rest = absurd (omega (arith, le))
    by_own false le rest = ap (λ (xs : List Made). m ∷ xs) (rest le)
rolled_all top (suc n) (m ∷ ms) le = by_own (is_top top m.top) le (rolled_all top n ms) (rolled_all top (suc n) ms)
  where
    by_own : (a : Bool) → cond a (suc (count_of top ms)) (count_of top ms) ≤ suc n → (count_of top ms ≤ n → history_after_rollback top n ms ≡ ms) → (count_of top ms ≤ suc n → history_after_rollback top (suc n) ms ≡ ms) →
        cond a (m ∷ history_after_rollback top n ms) (m ∷ history_after_rollback top (suc n) ms) ≡ m ∷ ms
    by_own true le less rest = ap (λ (xs : List Made). m ∷ xs) (less (omega (arith, le)))
    by_own false le less rest = ap (λ (xs : List Made). m ∷ xs) (rest le)

pub rolled_twice : (top i n : ℕ) (ms : List Made) → i ≤ n → history_after_rollback top i (history_after_rollback top n ms) ≡ history_after_rollback top i ms
rolled_twice top i n [] le = refl
rolled_twice top zero zero (m ∷ ms) le = by_own (is_top top m.top) refl (rolled_twice top zero zero ms (omega arith))
  where
    by_own : (a : Bool) → is_top top m.top ≡ a → history_after_rollback top zero (history_after_rollback top zero ms) ≡ history_after_rollback top zero ms →
        history_after_rollback top zero (cond a (history_after_rollback top zero ms) (m ∷ history_after_rollback top zero ms)) ≡ cond a (history_after_rollback top zero ms) (m ∷ history_after_rollback top zero ms)
    by_own true own rest = rest
    by_own false own rest = rw own (ap (λ (xs : List Made). m ∷ xs) rest)
rolled_twice top zero (suc n) (m ∷ ms) le = by_own (is_top top m.top) refl (rolled_twice top zero n ms (omega arith)) (rolled_twice top zero (suc n) ms (omega arith))
  where
    by_own : (a : Bool) → is_top top m.top ≡ a → history_after_rollback top zero (history_after_rollback top n ms) ≡ history_after_rollback top zero ms → history_after_rollback top zero (history_after_rollback top (suc n) ms) ≡ history_after_rollback top zero ms →
        history_after_rollback top zero (cond a (m ∷ history_after_rollback top n ms) (m ∷ history_after_rollback top (suc n) ms)) ≡ cond a (history_after_rollback top zero ms) (m ∷ history_after_rollback top zero ms)
    by_own true own less rest = rw own less
    by_own false own less rest = rw own (ap (λ (xs : List Made). m ∷ xs) rest)
rolled_twice top (suc i) zero (m ∷ ms) le = absurd (omega (arith, le))
rolled_twice top (suc i) (suc n) (m ∷ ms) le = by_own (is_top top m.top) refl (rolled_twice top i n ms (omega (arith, le))) (rolled_twice top (suc i) (suc n) ms le)
  where
    by_own : (a : Bool) → is_top top m.top ≡ a → history_after_rollback top i (history_after_rollback top n ms) ≡ history_after_rollback top i ms → history_after_rollback top (suc i) (history_after_rollback top (suc n) ms) ≡ history_after_rollback top (suc i) ms →
        history_after_rollback top (suc i) (cond a (m ∷ history_after_rollback top n ms) (m ∷ history_after_rollback top (suc n) ms)) ≡ cond a (m ∷ history_after_rollback top i ms) (m ∷ history_after_rollback top (suc i) ms)
    by_own true own less rest = rw own (ap (λ (xs : List Made). m ∷ xs) less)
    by_own false own less rest = rw own (ap (λ (xs : List Made). m ∷ xs) rest)
