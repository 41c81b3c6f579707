-- Who holds a place of tables that are emptied, by the slots and by the history; and what a truncate does to a history.
use Rattle.std.proofs.Common.{arith, ◌≡◌, ℕ, zero, suc, ◌≤◌, ◌<◌, ◌^◌, Bool, true, false, cond, eqb, ◌||◌, ◌&&◌, not, List, [], ◌∷◌, ◌++◌, length, get_or, take, None, refl, sym, ap, subst, ◌∙◌}
use Rattle.std.specs.Prelude.{IsSome, is_some, nat_eq, nat_lt}
use Rattle.std.specs.List.{AllByRecursion, IsDistinct, list_all, list_any}
use Rattle.std.specs.Map.{lookup}
use Rattle.std.specs.Cmp.{nat_eq_equiv}
use Rattle.std.proofs.lemmas.Bool.{eqb-true}
use Rattle.std.proofs.lemmas.Map.Steps.{length-le_from_keys}
use Rattle.pqformat.specs.Fields.{int32}
use Rattle.store.specs.declared.places.stored_place.StoredPlace.{StoredPlace}
use Rattle.store.specs.declared.places.stored_place.Undo.{Undo}
use Rattle.tables.specs.declared.table.Table.{Table}
use Rattle.tables.specs.declared.changes.change_body.TheConstants.{MAX_TRUNCATED}
use Rattle.tables.specs.declared.changes.change.Change.{Change}
use Rattle.tables.specs.declared.changes.change.Change.TheVariants as changes
use Rattle.store.specs.declared.store_fault.StoreFault.TheVariants as faults
use Rattle.store.specs.Slots.{same_key, vacant, Entries, slot_at, CanUndo, undone_at}
use Rattle.tables.specs.Tables.{table_of, FitsChange}
use Rattle.store.specs.History.{Made, change_made, is_other, is_within, is_among, is_held, is_any_held, places_of, table_place, unless, truncate_fault, truncate_refusal}
use Rattle.tables.specs.Tables.{repeats}
use Rattle.store.specs.Keeping.{StoreState, journal_of, all_emptied, is_put, puts_of, is_emptied, touches, KeepsOff, Keeps, AreShort, IsSame}
use Rattle.store.specs.Emptying.{AreAtPlace, is_other_within, emptied_at, AreNoted, Does}
use Rattle.store.proofs.Undoing.{keys_same, same_self}
use Rattle.store.proofs.Histories.{all_map, or_left, or_right}
use Rattle.store.proofs.Holding.{Off, not_held, places_put, not_put, follows_own, emptied_put, front_of_table, and_false, and_left, and_right, left_true, right_true}
use Rattle.store.proofs.Storing.{keeps_does, place_held}
use Rattle.store.proofs.Changing.{not_longer}
use Rattle.store.proofs.Truncating.{other_found, none_other, noted_undone}

both : (a b : Bool) → a ≡ true → b ≡ true → (a && b) ≡ true
both true b on also = also
both false b on also = absurd cc

-- PLACES OF TABLES

-- whether a place is of these tables is told by its front
same_front : (oids p q : List ℕ) → take 4 p ≡ take 4 q → is_within oids p ≡ is_within oids q
same_front oids p q same = ap (λ (t : List ℕ). list_any (λ oid. same_key t (int32 oid)) oids) same

-- the table of a place of these
table_in : (oids k : List ℕ) → is_within oids k ≡ true → (oid : ℕ) × (take 4 k ≡ int32 oid)
table_in [] k within = absurd cc
table_in (x ∷ oids) k within = by_test (same_key (take 4 k) (int32 x)) (keys_same (take 4 k) (int32 x)) within (table_in oids k)
  where
    by_test : (a : Bool) → (a ≡ true → take 4 k ≡ int32 x) → (a || is_within oids k) ≡ true → (is_within oids k ≡ true → (oid : ℕ) × (take 4 k ≡ int32 oid)) →
        (oid : ℕ) × (take 4 k ≡ int32 oid)
    by_test true same on later = (x, same refl)
    by_test false same on later = later on

among_any : (P : List ℕ → Bool) (k : List ℕ) (ps : List (List ℕ)) → is_among k ps ≡ true → P k ≡ true → list_any P ps ≡ true
among_any P k [] among on = absurd cc
among_any P k (p ∷ ps) among on = by_test (same_key k p) (keys_same k p) among (λ rest. among_any P k ps rest on)
  where
    by_test : (a : Bool) → (a ≡ true → k ≡ p) → (a || is_among k ps) ≡ true → (is_among k ps ≡ true → list_any P ps ≡ true) → (P p || list_any P ps) ≡ true
    by_test true same here later = rw (subst (λ (j : List ℕ). P j ≡ true) (same refl) on) refl
    by_test false same rest later = right_true (P p) (list_any P ps) (later rest)

-- a change that touches a place of these tables holds one
touched_within : (tables : List Table) (change : Change) (oids k : List ℕ) → is_within oids k ≡ true → touches tables change k ≡ true → list_any (is_within oids) (places_of tables change) ≡ true
touched_within tables change oids k within on = by_test (is_put k (puts_of tables change)) refl on
  where
    by_test : (a : Bool) → is_put k (puts_of tables change) ≡ a → (a || is_emptied change k) ≡ true → list_any (is_within oids) (places_of tables change) ≡ true
    by_test true puts on = among_any (is_within oids) k (places_of tables change) (places_put k tables change ∙ puts) within
    by_test false away on =
        let oid = table_in oids k within in
        among_any (is_within oids) (table_place oid.0) (places_of tables change) (places_put (table_place oid.0) tables change ∙ emptied_put tables change k oid.0 oid.1 on)
        (same_front oids (table_place oid.0) k (front_of_table oid.0 ∙ sym oid.1) ∙ within)

-- HOLDS

held_any : (tables : List Table) (top : ℕ) (oids : List ℕ) (h : List Made) (k : List ℕ) → is_held tables top h k ≡ true → is_within oids k ≡ true → is_any_held tables top h oids ≡ true
held_any tables top oids [] k held within = absurd cc
held_any tables top oids (m ∷ h) k held within =
    by_test (is_other top m.top && is_among k (places_of tables m.change)) refl held (λ rest. held_any tables top oids h k rest within)
  where
    others : Bool
    others = is_other top m.top && list_any (is_within oids) (places_of tables m.change)

    by_test : (a : Bool) → (is_other top m.top && is_among k (places_of tables m.change)) ≡ a → (a || is_held tables top h k) ≡ true →
        (is_held tables top h k ≡ true → is_any_held tables top h oids ≡ true) → is_any_held tables top (m ∷ h) oids ≡ true
    by_test true here held later =
        left_true others (is_any_held tables top h oids) (both (is_other top m.top) (list_any (is_within oids) (places_of tables m.change))
        (and_left (is_other top m.top) (is_among k (places_of tables m.change)) here)
        (among_any (is_within oids) k (places_of tables m.change) (and_right (is_other top m.top) (is_among k (places_of tables m.change)) here) within))
    by_test false away held later = right_true others (is_any_held tables top h oids) (later held)

-- a place among these that passes a test
found_any : (P : List ℕ → Bool) (ps : List (List ℕ)) → list_any P ps ≡ true → (k : List ℕ) × (P k ≡ true) × (is_among k ps ≡ true)
found_any P [] on = absurd cc
found_any P (p ∷ ps) on = by_test (P p) refl on (found_any P ps)
  where
    by_test : (a : Bool) → P p ≡ a → (a || list_any P ps) ≡ true → (list_any P ps ≡ true → (k : List ℕ) × (P k ≡ true) × (is_among k ps ≡ true)) →
        (k : List ℕ) × (P k ≡ true) × (is_among k (p ∷ ps) ≡ true)
    by_test true is on later = (p, is, rw (same_self p) refl)
    by_test false is on later = let rest = later on in (rest.0, rest.1, right_true (same_key rest.0 p) (is_among rest.0 ps) rest.2)

any_held_at : (tables : List Table) (top : ℕ) (oids : List ℕ) (h : List Made) → is_any_held tables top h oids ≡ true → (k : List ℕ) × (is_within oids k ≡ true) × (is_held tables top h k ≡ true)
any_held_at tables top oids [] on = absurd cc
any_held_at tables top oids (m ∷ h) on =
    by_test (is_other top m.top && list_any (is_within oids) (places_of tables m.change)) refl on (any_held_at tables top oids h)
  where
    by_test : (a : Bool) → (is_other top m.top && list_any (is_within oids) (places_of tables m.change)) ≡ a → (a || is_any_held tables top h oids) ≡ true →
        (is_any_held tables top h oids ≡ true → (k : List ℕ) × (is_within oids k ≡ true) × (is_held tables top h k ≡ true)) →
        (k : List ℕ) × (is_within oids k ≡ true) × (is_held tables top (m ∷ h) k ≡ true)
    by_test true here on later =
        let at = found_any (is_within oids) (places_of tables m.change) (and_right (is_other top m.top) (list_any (is_within oids) (places_of tables m.change)) here) in (
          at.0,
          at.1,
          left_true (is_other top m.top && is_among at.0 (places_of tables m.change)) (is_held tables top h at.0)
              (both (is_other top m.top) (is_among at.0 (places_of tables m.change)) (and_left (is_other top m.top) (list_any (is_within oids) (places_of tables m.change)) here) at.2),
        )
    by_test false away on later =
        let rest = later on in
        (rest.0, rest.1, right_true (is_other top m.top && is_among rest.0 (places_of tables m.change)) (is_held tables top h rest.0) rest.2)

emptied_within : (oids k : List ℕ) → (is_put k (all_emptied oids) || is_within oids k) ≡ true → is_within oids k ≡ true
emptied_within oids k on = by_test (is_within oids k) refl on
  where
    by_test : (a : Bool) → is_within oids k ≡ a → (is_put k (all_emptied oids) || a) ≡ true → a ≡ true
    by_test true within on = refl
    by_test false off on =
        let away : is_put k (all_emptied oids) ≡ false = not_put oids k off in
        absurd cc

all_off : (tables : List Table) (top : ℕ) (oids : List ℕ) (h : List Made) → is_any_held tables top h oids ≡ false → AllByRecursion (λ m. KeepsOff tables m (change_made top (changes.Truncate oids))) h
all_off tables top oids [] free = tt
all_off tables top oids (m ∷ h) free = (
  λ k on also. follows_own top m.top (and_false (is_other top m.top) (list_any (is_within oids) (places_of tables m.change))
      (or_left (is_other top m.top && list_any (is_within oids) (places_of tables m.change)) (is_any_held tables top h oids) free)
      (touched_within tables m.change oids k (emptied_within oids k also) on)),
  all_off tables top oids h (or_right (is_other top m.top && list_any (is_within oids) (places_of tables m.change)) (is_any_held tables top h oids) free),
)

-- the slots tell whether another holds a place of these tables
pub within_held : (s : StoreState) (h : List Made) (top : ℕ) (oids : List ℕ) → AreAtPlace s.slots → Keeps s h → is_other_within top oids s.slots ≡ is_any_held s.tables top h oids
within_held s h top oids at keeps = by_test (is_any_held s.tables top h oids) refl
  where
    n : Made
    n = change_made top (changes.Truncate oids)

    by_test : (a : Bool) → is_any_held s.tables top h oids ≡ a → is_other_within top oids s.slots ≡ a
    by_test true on =
        let held = any_held_at s.tables top oids h on in
        other_found top oids s.slots held.0 held.1 (place_held s h top held.0 keeps held.2)
    by_test false off = none_other top oids s.slots s.slots at (λ k within. ap (λ (t : StoredPlace). is_other top t.owner) (keeps.stands k)
        ∙ not_held s.tables top h k vacant (all_map (λ m. KeepsOff s.tables m n) (Off s.tables top k) h
        (λ m keeps_off on. keeps_off k on (right_true (is_put k (all_emptied oids)) (is_within oids k) within)) (all_off s.tables top oids h off)) refl)

-- WHAT A TRUNCATE DOES

truncate_none : (tables : List Table) (oids : List ℕ) (held : Bool) → truncate_fault tables oids held ≡ None → held ≡ false
truncate_none tables oids held none = by_tests (not (list_all (λ oid. is_some (table_of oid tables)) oids)) (nat_eq (length oids) 0 || repeats oids) (nat_lt MAX_TRUNCATED (length oids)) held none
  where
    by_tests : (a b c d : Bool) → unless a faults.UnknownTable (unless b faults.RowShape (unless c faults.TooLarge (unless d faults.KeyHeld None))) ≡ None → d ≡ false
    by_tests true b c d none = absurd cc
    by_tests false true c d none = absurd cc
    by_tests false false true d none = absurd cc
    by_tests false false false true none = absurd cc
    by_tests false false false false none = refl

pub truncate_made : (s new : StoreState) (h : List Made) (top : ℕ) (oids : List ℕ) → FitsChange s.tables (changes.Truncate oids) → truncate_refusal s.tables h top oids ≡ None →
    Does top (changes.Truncate oids) s new → Keeps s h → Keeps new (h ++ change_made top (changes.Truncate oids) ∷ [])
truncate_made s new h top oids fits none does keeps =
    keeps_does s new top (changes.Truncate oids) h fits (all_off s.tables top oids h (truncate_none s.tables oids (is_any_held s.tables top h oids) none)) does keeps

pub oids_fit : (tables : List Table) (oids : List ℕ) → ((i : ℕ) → get_or oids i 0 < 2 ^ 32) → list_all (λ oid. is_some (table_of oid tables)) oids ≡ true →
    AllByRecursion (λ oid. (oid < 2 ^ 32) × IsSome (table_of oid tables)) oids
oids_fit tables [] small there = tt
oids_fit tables (oid ∷ oids) small there =
    let is : is_some (table_of oid tables) ≡ true = and_left (is_some (table_of oid tables)) (list_all (λ x. is_some (table_of x tables)) oids) there in
    let rest : list_all (λ x. is_some (table_of x tables)) oids ≡ true = and_right (is_some (table_of oid tables)) (list_all (λ x. is_some (table_of x tables)) oids) there in
    ((small zero, is), oids_fit tables oids (λ i. small (suc i)) rest)

pub truncate_is : (tables : List Table) (oids : List ℕ) (held : Bool) → list_all (λ oid. is_some (table_of oid tables)) oids ≡ true → nat_eq (length oids) 0 ≡ false → repeats oids ≡ false →
    length oids ≤ MAX_TRUNCATED → truncate_fault tables oids held ≡ unless held faults.KeyHeld None
truncate_is tables oids held there some once few = rw (there, some, once, not_longer (length oids) MAX_TRUNCATED few) refl

-- NO LIST WITHOUT REPEATS IS LONGER THAN THE TABLES

none_same : (oid : ℕ) (oids : List ℕ) → list_any (λ other. eqb other oid) oids ≡ false → AllByRecursion (λ other. nat_eq oid other ≡ false) oids
none_same oid [] off = tt
none_same oid (x ∷ oids) off =
    (nat_eq_equiv.symm oid x ∙ or_left (eqb x oid) (list_any (λ other. eqb other oid) oids) off, none_same oid oids (or_right (eqb x oid) (list_any (λ other. eqb other oid) oids) off))

distinct : (oids : List ℕ) → repeats oids ≡ false → IsDistinct nat_eq oids
unfolding IsDistinct
distinct [] once = tt
distinct (x ∷ oids) once =
    (none_same x oids (or_left (list_any (λ other. eqb other x) oids) (repeats oids) once), distinct oids (or_right (list_any (λ other. eqb other x) oids) (repeats oids) once))

abbrev by_oid : List Table → List (ℕ × Table)
by_oid [] = []
by_oid (table ∷ tables) = (table.oid, table) ∷ by_oid tables

as_many : (tables : List Table) → length (by_oid tables) ≡ length tables
as_many [] = refl
as_many (table ∷ tables) = ap suc (as_many tables)

found_key : (tables : List Table) (oid : ℕ) → is_some (table_of oid tables) ≡ true → IsSome (lookup (nat_eq oid) (by_oid tables))
found_key [] oid there = absurd cc
found_key (table ∷ tables) oid there = by_test (eqb table.oid oid) refl (found_key tables oid)
  where
    by_test : (a : Bool) → eqb table.oid oid ≡ a → (is_some (table_of oid tables) ≡ true → IsSome (lookup (nat_eq oid) (by_oid tables))) →
        IsSome (lookup (nat_eq oid) (by_oid (table ∷ tables)))
    by_test true is later = rw (nat_eq_equiv.symm oid table.oid ∙ is) refl
    by_test false is later =
        let rest : is_some (table_of oid tables) ≡ true = sym (rw is refl) ∙ there in
        rw (nat_eq_equiv.symm oid table.oid ∙ is) (later rest)

all_found : (tables : List Table) (oids : List ℕ) → list_all (λ oid. is_some (table_of oid tables)) oids ≡ true → (q : ℕ) → list_any (nat_eq q) oids ≡ true → is_some (table_of q tables) ≡ true
all_found tables [] there q on = absurd cc
all_found tables (x ∷ oids) there q on =
    by_test (nat_eq q x) (eqb-true q x) on
    (all_found tables oids (and_right (is_some (table_of x tables)) (list_all (λ oid. is_some (table_of oid tables)) oids) there) q)
  where
    by_test : (a : Bool) → (a ≡ true → q ≡ x) → (a || list_any (nat_eq q) oids) ≡ true → (list_any (nat_eq q) oids ≡ true → is_some (table_of q tables) ≡ true) →
        is_some (table_of q tables) ≡ true
    by_test true same on later =
        subst (λ (oid : ℕ). is_some (table_of oid tables) ≡ true) (sym (same refl)) (and_left (is_some (table_of x tables)) (list_all (λ oid. is_some (table_of oid tables)) oids) there)
    by_test false same on later = later on

pub no_more : (tables : List Table) (oids : List ℕ) → list_all (λ oid. is_some (table_of oid tables)) oids ≡ true → repeats oids ≡ false → length oids ≤ length tables
no_more tables oids there once =
    omega (arith, as_many tables, length-le_from_keys nat_eq_equiv oids (by_oid tables) (distinct oids once) (λ q on. found_key tables q (all_found tables oids there q on)))

-- WHAT THE STORE DOES

pub emptied_does : (s new : StoreState) (top : ℕ) (oids : List ℕ) (slots : Entries) (undos : List Undo) → new.tables ≡ s.tables → new.slots ≡ slots →
    ((k : List ℕ) → slot_at slots k ≡ emptied_at top oids k (slot_at s.slots k)) → AreNoted oids s.slots slots undos →
    ((x : ℕ) → journal_of x new.journals ≡ cond (nat_eq top x) (journal_of x s.journals ++ undos ∷ []) (journal_of x s.journals)) → Does top (changes.Truncate oids) s new
emptied_does s new top oids slots undos same kept stands noted journals = record {
  undos = undos;
  tables = same;
  slots = λ k. ap (λ (es : Entries). slot_at es k) kept ∙ stands k;
  restore = λ k. ap (λ (es : Entries). undone_at undos k (slot_at es k)) kept ∙ noted.restore k;
  touched = all_map (λ u. is_within oids u.key ≡ true) (λ u. touches s.tables (changes.Truncate oids) u.key ≡ true) undos
      (λ u within. right_true (is_put u.key (all_emptied oids)) (is_within oids u.key) within) noted.within;
  undoable = subst (λ (es : Entries). CanUndo undos (slot_at es)) (sym kept) noted.undoable;
  short = λ all. subst AreShort (sym kept) (noted.short all);
  journals = journals;
}

pub emptied_same : (s new : StoreState) (oids : List ℕ) (slots : Entries) (undos : List Undo) → new.tables ≡ s.tables → AreNoted oids s.slots slots undos →
    (CanUndo undos (slot_at slots) → (k : List ℕ) → slot_at new.slots k ≡ undone_at undos k (slot_at slots k)) → (CanUndo undos (slot_at slots) → AreShort slots → AreShort new.slots) →
    ((x : ℕ) → journal_of x new.journals ≡ journal_of x s.journals) → IsSame s new
emptied_same s new oids slots undos same noted back short journals =
    record { tables = same; slots = noted_undone oids s.slots slots new.slots undos noted back short; journals = journals }
