-- The slots and journals of a history once a transaction has ended.
use Rattle.std.proofs.Common.{◌≡◌, ℕ, Bool, true, false, cond, ◌||◌, List, [], ◌∷◌, Some, None, refl, sym, ap, subst, ◌∙◌}
use Rattle.std.specs.Prelude.{Option, is_some}
use Rattle.std.specs.List.{AllByRecursion}
use Rattle.store.specs.declared.places.stored_place.StoredPlace.{StoredPlace}
use Rattle.store.specs.declared.places.stored_place.Undo.{Undo}
use Rattle.tables.specs.declared.table.Table.{Table}
use Rattle.tables.specs.declared.changes.change.Change.{Change}
use Rattle.tables.specs.declared.changes.change.Change.TheVariants as changes
use Rattle.store.specs.Slots.{same_key, undone_at, vacant}
use Rattle.tables.specs.Tables.{FitsChange}
use Rattle.store.specs.History.{Made, is_top, is_within, owner_after_end, change_after_end, history_after_end}
use Rattle.store.specs.Keeping.{Put, put_at, puts_of, emptied_slot, slot_after_emptying, touches, slot_by, slot_from, slot_after_end, is_noted, is_in_journal, IsUndo, OwnFirst, AreNotes, Follows, KeepsOff, AreApart}
use Rattle.store.proofs.Histories.{or_left, or_right, top_self, top_is, undo_agrees, notes_none}
use Rattle.store.proofs.Holding.{owner_by, takes, takes_touch}

abbrev Slots : Type 0
Slots = List ℕ → StoredPlace

abbrev after : List Table → Made → Slots → Slots
after tables m b = λ k. slot_by tables m k (b k)

-- OWNERS

longer_still : (top : ℕ) (o : Option ℕ) → is_top top o ≡ false → owner_after_end top o ≡ o
longer_still top o off = rw off refl

longer_gone : (top : ℕ) (o : Option ℕ) → is_top top (owner_after_end top o) ≡ false
longer_gone top o = by_test (is_top top o) refl
  where
    by_test : (a : Bool) → is_top top o ≡ a → is_top top (cond a None o) ≡ false
    by_test true on = refl
    by_test false off = off

-- SLOTS

freed_if : (top : ℕ) (a : Bool) (s t : StoredPlace) → cond a (slot_after_end top s) (slot_after_end top t) ≡ slot_after_end top (cond a s t)
freed_if top true s t = refl
freed_if top false s t = refl

put_freed : (top : ℕ) (owner : Option ℕ) (ps : List Put) (k : List ℕ) (s : StoredPlace) → put_at (owner_after_end top owner) ps k (slot_after_end top s) ≡ slot_after_end top (put_at owner ps k s)
put_freed top owner [] k s = refl
put_freed top owner (p ∷ ps) k s =
    ap (put_at (owner_after_end top owner) ps k) (freed_if top (same_key k p.0) (record { row = p.1; owner = owner }) s)
    ∙ put_freed top owner ps k (cond (same_key k p.0) (record { row = p.1; owner = owner }) s)

emptied_freed : (top : ℕ) (owner : Option ℕ) (change : Change) (k : List ℕ) (s : StoredPlace) →
    slot_after_emptying (owner_after_end top owner) change k (slot_after_end top s) ≡ slot_after_end top (slot_after_emptying owner change k s)
emptied_freed top owner (changes.Insert oid row) k s = refl
emptied_freed top owner (changes.Update oid old row) k s = refl
emptied_freed top owner (changes.Delete oid old) k s = refl
emptied_freed top owner (changes.Message message) k s = refl
emptied_freed top owner (changes.Truncate oids) k s =
    ap (λ (t : StoredPlace). cond (is_within oids k) t (slot_after_end top s)) (freed_if top (is_some s.row) (record { row = None; owner = owner }) s)
    ∙ freed_if top (is_within oids k) (emptied_slot owner s) s

by_freed : (tables : List Table) (top : ℕ) (m : Made) (k : List ℕ) (s : StoredPlace) → slot_by tables (change_after_end top m) k (slot_after_end top s) ≡ slot_after_end top (slot_by tables m k s)
by_freed tables top m k s =
    ap (put_at (owner_after_end top m.top) (puts_of tables m.change) k) (emptied_freed top m.top m.change k s) ∙ put_freed top m.top (puts_of tables m.change) k (slot_after_emptying m.top m.change k s)

pub from_freed : (tables : List Table) (top : ℕ) (ms : List Made) (k : List ℕ) (s : StoredPlace) → slot_from tables (history_after_end top ms) k (slot_after_end top s) ≡ slot_after_end top (slot_from tables ms k s)
from_freed tables top [] k s = refl
from_freed tables top (m ∷ ms) k s = ap (slot_from tables (history_after_end top ms) k) (by_freed tables top m k s) ∙ from_freed tables top ms k (slot_by tables m k s)

-- JOURNALS

abbrev Differ : ℕ → ℕ → Type 0
Differ u top = (o : Option ℕ) → is_top u o ≡ true → is_top top o ≡ false

-- what another transaction touches is not this one's
abbrev Unowned : List Table → ℕ → ℕ → List Made → Slots → Type 0
Unowned tables top u ms b = AllByRecursion (λ n. is_top u n.top ≡ true → (k : List ℕ) → touches tables n.change k ≡ true → is_top top (b k).owner ≡ false) ms

unowned_after : (tables : List Table) (top u : ℕ) (m : Made) (b : Slots) (n : Made) → Differ u top → KeepsOff tables m n →
    (is_top u n.top ≡ true → (k : List ℕ) → touches tables n.change k ≡ true → is_top top (b k).owner ≡ false) →
    is_top u n.top ≡ true → (k : List ℕ) → touches tables n.change k ≡ true → is_top top (after tables m b k).owner ≡ false
unowned_after tables top u m b n differ keeps before theirs k on = ap (is_top top) (owner_by tables m k (b k)) ∙ by_test (takes tables m.change k (b k)) refl
  where
    by_top : (a : Bool) → is_top top m.top ≡ a → touches tables m.change k ≡ true → is_top top m.top ≡ false
    by_top false off also = off
    by_top true own also =
        let same : n.top ≡ Some top = subst (λ (o : Option ℕ). Follows o n.top) (top_is top m.top own) (keeps k also on) in
        let yes : is_top top n.top ≡ true = ap (is_top top) same ∙ top_self top in
        let never : is_top top n.top ≡ false = differ n.top theirs in
        absurd cc

    by_test : (a : Bool) → takes tables m.change k (b k) ≡ a → is_top top (cond a m.top (b k).owner) ≡ false
    by_test true on = by_top (is_top top m.top) refl (takes_touch tables m.change k (b k) on)
    by_test false away = before theirs k on

all_two : {A : Type 0} (P Q R : A → Type 0) (xs : List A) → ((x : A) → P x → Q x → R x) → AllByRecursion P xs → AllByRecursion Q xs → AllByRecursion R xs
all_two P Q R [] f ps qs = tt
all_two P Q R (x ∷ xs) f ps qs = (f x ps.0 qs.0, all_two P Q R xs f ps.1 qs.1)

freed_same : (top : ℕ) (s : StoredPlace) → is_top top s.owner ≡ false → slot_after_end top s ≡ s
freed_same top s off = ap (λ (o : Option ℕ). let t : StoredPlace = record { row = s.row; owner = o } in t) (longer_still top s.owner off)

pub notes_forgotten : (tables : List Table) (top u : ℕ) (ms : List Made) (b c : Slots) (gs : List (List Undo)) → Differ u top → AreApart tables ms → ((k : List ℕ) → c k ≡ slot_after_end top (b k)) →
    Unowned tables top u ms b → AreNotes tables u ms b gs → AreNotes tables u (history_after_end top ms) c gs
notes_forgotten tables top u [] b c gs differ apart same unowned h = h
notes_forgotten tables top u (m ∷ ms) b c gs differ apart same unowned h =
    by_own (is_top u m.top) refl gs h (λ hs. notes_forgotten tables top u ms (after tables m b) (after tables (change_after_end top m) c) hs differ apart.1
    (λ k. ap (slot_by tables (change_after_end top m) k) (same k) ∙ by_freed tables top m k (b k))
    (all_two (KeepsOff tables m) (λ n. is_top u n.top ≡ true → (k : List ℕ) → touches tables n.change k ≡ true → is_top top (b k).owner ≡ false)
    (λ n. is_top u n.top ≡ true → (k : List ℕ) → touches tables n.change k ≡ true → is_top top (after tables m b k).owner ≡ false)
    ms (λ n keeps before. unowned_after tables top u m b n differ keeps before) apart.0 unowned.1))
  where
    First : List Undo → Type 0
    First = IsUndo tables (change_after_end top m) c

    not_theirs : (a : Bool) → is_top top m.top ≡ a → is_top u m.top ≡ false → is_top u (cond a None m.top) ≡ false
    not_theirs true on off = refl
    not_theirs false on off = off

    by_own : (a : Bool) → is_top u m.top ≡ a → (hs : List (List Undo)) → OwnFirst (IsUndo tables m b) (AreNotes tables u ms (after tables m b)) a hs →
        ((hs : List (List Undo)) → AreNotes tables u ms (after tables m b) hs → AreNotes tables u (history_after_end top ms) (after tables (change_after_end top m) c) hs) →
        OwnFirst (IsUndo tables (change_after_end top m) c) (AreNotes tables u (history_after_end top ms) (after tables (change_after_end top m) c)) (is_top u (owner_after_end top m.top)) hs
    by_own false theirs hs h rest =
        subst (λ (x : Bool). OwnFirst (IsUndo tables (change_after_end top m) c) (AreNotes tables u (history_after_end top ms) (after tables (change_after_end top m) c)) x hs)
        (sym (not_theirs (is_top top m.top) refl theirs)) (rest hs h)
    by_own true theirs [] h rest = absurd h
    by_own true theirs (g ∷ hs) h rest =
        let still : owner_after_end top m.top ≡ m.top = longer_still top m.top (differ m.top theirs) in
        subst (λ (x : Bool). OwnFirst (IsUndo tables (change_after_end top m) c) (AreNotes tables u (history_after_end top ms) (after tables (change_after_end top m) c)) x (g ∷ hs))
        (sym (ap (is_top u) still ∙ theirs)) (
          subst (λ (o : Option ℕ). let n : Made = record { top = o; change = m.change } in IsUndo tables n c g) (sym still)
              (undo_agrees tables m b c g (λ k on. sym (same k ∙ freed_same top (b k) (unowned.0 theirs k on))) h.0),
          rest hs h.1,
        )

pub notes_settled : (tables : List Table) (top : ℕ) (ms : List Made) (b : Slots) → AreNotes tables top (history_after_end top ms) b []
notes_settled tables top ms b = notes_none tables top (history_after_end top ms) b (all_gone ms)
  where
    all_gone : (xs : List Made) → AllByRecursion (λ m. is_top top m.top ≡ false) (history_after_end top xs)
    all_gone [] = tt
    all_gone (m ∷ xs) = (longer_gone top m.top, all_gone xs)

pub unowned_vacant : (tables : List Table) (top u : ℕ) (ms : List Made) → Unowned tables top u ms (λ k. vacant)
unowned_vacant tables top u [] = tt
unowned_vacant tables top u (m ∷ ms) = ((λ theirs k on. refl), unowned_vacant tables top u ms)

-- APART

follows_settled : (top : ℕ) (o later : Option ℕ) → Follows o later → Follows (owner_after_end top o) (owner_after_end top later)
follows_settled top None later h = tt
follows_settled top (Some x) later h = by_test (is_top top (Some x)) refl
  where
    by_test : (a : Bool) → is_top top (Some x) ≡ a → Follows (cond a None (Some x)) (owner_after_end top later)
    by_test true on = tt
    by_test false off = ap (owner_after_end top) h ∙ longer_still top (Some x) off

pub apart_forgotten : (tables : List Table) (top : ℕ) (ms : List Made) → AreApart tables ms → AreApart tables (history_after_end top ms)
apart_forgotten tables top [] all = tt
apart_forgotten tables top (m ∷ ms) all = (each ms all.0, apart_forgotten tables top ms all.1)
  where
    each : (xs : List Made) → AllByRecursion (KeepsOff tables m) xs → AllByRecursion (KeepsOff tables (change_after_end top m)) (history_after_end top xs)
    each [] off = tt
    each (n ∷ xs) off = ((λ k on also. follows_settled top m.top n.top (off.0 k on also)), each xs off.1)

pub fits_forgotten : (tables : List Table) (top : ℕ) (ms : List Made) → AllByRecursion (λ m. FitsChange tables m.change) ms →
    AllByRecursion (λ m. FitsChange tables m.change) (history_after_end top ms)
fits_forgotten tables top [] all = tt
fits_forgotten tables top (m ∷ ms) all = (all.0, fits_forgotten tables top ms all.1)

-- WHAT A JOURNAL NOTES

undone_away : (us : List Undo) (k : List ℕ) (s : StoredPlace) → is_noted k us ≡ false → undone_at us k s ≡ s
undone_away [] k s off = refl
undone_away (u ∷ us) k s off = by_test (same_key k u.key) off (undone_away us k s)
  where
    by_test : (a : Bool) → (a || is_noted k us) ≡ false → (is_noted k us ≡ false → undone_at us k s ≡ s) → cond a u.before (undone_at us k s) ≡ s
    by_test true off rest = absurd cc
    by_test false off rest = rest off

owned_noted : (tables : List Table) (top : ℕ) (ms : List Made) (b : Slots) (gs : List (List Undo)) (k : List ℕ) → AreNotes tables top ms b gs → is_in_journal k gs ≡ false →
    is_top top (b k).owner ≡ false → is_top top (slot_from tables ms k (b k)).owner ≡ false
owned_noted tables top [] b gs k h away off = off
owned_noted tables top (m ∷ ms) b gs k h away off = by_own (is_top top m.top) refl gs h away (λ hs. owned_noted tables top ms (after tables m b) hs k)
  where
    by_put : is_top top m.top ≡ false → (a : Bool) → is_top top (cond a m.top (b k).owner) ≡ false
    by_put other true = other
    by_put other false = off

    by_own : (a : Bool) → is_top top m.top ≡ a → (hs : List (List Undo)) → OwnFirst (IsUndo tables m b) (AreNotes tables top ms (after tables m b)) a hs → is_in_journal k hs ≡ false →
        ((hs : List (List Undo)) → AreNotes tables top ms (after tables m b) hs → is_in_journal k hs ≡ false → is_top top (slot_by tables m k (b k)).owner ≡ false →
        is_top top (slot_from tables ms k (slot_by tables m k (b k))).owner ≡ false) →
        is_top top (slot_from tables ms k (slot_by tables m k (b k))).owner ≡ false
    by_own false own hs h away rest = rest hs h away (ap (is_top top) (owner_by tables m k (b k)) ∙ by_put own (takes tables m.change k (b k)))
    by_own true own [] h away rest = absurd h
    by_own true own (g ∷ hs) h away rest =
        let same : slot_by tables m k (b k) ≡ b k = sym (undone_away g k (slot_by tables m k (b k)) (or_left (is_noted k g) (is_in_journal k hs) away)) ∙ h.0.restores k in
        rest hs h.1 (or_right (is_noted k g) (is_in_journal k hs) away) (ap (λ (s : StoredPlace). is_top top s.owner) same ∙ off)

-- freeing the places of a journal frees all that are the transaction's
pub freed_noted : (tables : List Table) (top : ℕ) (ms : List Made) (gs : List (List Undo)) (k : List ℕ) → AreNotes tables top ms (λ j. vacant) gs →
    cond (is_in_journal k gs) (slot_after_end top (slot_from tables ms k vacant)) (slot_from tables ms k vacant) ≡ slot_after_end top (slot_from tables ms k vacant)
freed_noted tables top ms gs k h = by_test (is_in_journal k gs) refl
  where
    by_test : (a : Bool) → is_in_journal k gs ≡ a → cond a (slot_after_end top (slot_from tables ms k vacant)) (slot_from tables ms k vacant) ≡ slot_after_end top (slot_from tables ms k vacant)
    by_test true on = refl
    by_test false away = sym (freed_same top (slot_from tables ms k vacant) (owned_noted tables top ms (λ j. vacant) gs k h away refl))
