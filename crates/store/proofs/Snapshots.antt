-- What a snapshot keeps are the rows of the settled history, and what it gives are those that were left.
use Rattle.std.proofs.Common.{◌≡◌, ℕ, zero, suc, ◌-◌, ◌≤◌, Bool, true, false, cond, List, [], ◌∷◌, ◌++◌, length, take, drop, map, filter, slice_range, not, is_some, Some, None, refl, sym, ap, subst, ◌∙◌, arith, append_assoc, take-append-drop, drop-drop, length-take, min, get_or, ◌+◌, ◌<◌, eq-eqb}
use Rattle.std.proofs.lemmas.Bool.{eqb-true}
use Rattle.std.proofs.lemmas.List.{take_more}
use Rattle.std.specs.Prelude.{Option, Vec, nat_eq, unwrap_or}
use Rattle.std.specs.Cmp.Lexicographic.{pointwise, nat_list_eq_equiv}
use Rattle.std.specs.List.{AllByRecursion, IsDistinct}
use Rattle.std.specs.Map.{lookup, keys_of}
use Rattle.std.proofs.lemmas.Map.Keys.{IsDistinct-head, IsDistinct-tail}
use Rattle.indexmap.specs.IndexMap.{insert_entry}
use Rattle.tables.specs.declared.kinds.Value.{Value}
use Rattle.tables.specs.declared.table.Table.{Table}
use Rattle.store.specs.declared.places.stored_place.StoredPlace.{StoredPlace}
use Rattle.store.specs.declared.places.stored_place.Undo.{Undo}
use Rattle.store.specs.Slots.{same_key, vacant, Entries, entries_of, slot_at, slots_with, CanUndo, undone_at}
use Rattle.store.specs.History.{Made, is_top, is_within, history_after_rollback}
use Rattle.store.specs.Rows.{key_text}
use Rattle.store.specs.Keeping.{Journals, journal_of, AreShort, Keeps, IsUndo, OwnFirst, AreNotes, nothing_at, slot_by}
use Rattle.store.specs.Snapshots.{is_settled, settled_history, committed_rows, Standing, AreOnce, IsHome, AreCommitted, Gives, standing_within, with_standing, standing_of, Settling}
use Rattle.store.proofs.Undoing.{placed, keys_same, same_self}
use Rattle.store.proofs.Histories.{top_is, top_self}
use Rattle.store.proofs.Holding.{stands_home}
use Rattle.store.proofs.Storing.{state, keeps_popped, keeps_same, row_is}

-- EACH PLACE ONCE

none_at : {A : Type 0} (k : Vec ℕ A) (es : List (Vec ℕ A × StoredPlace)) → AllByRecursion (λ y. pointwise nat_eq k.items y.items ≡ false) (keys_of es) → lookup (same_key k.items) (entries_of es) ≡ None
none_at k [] off = refl
none_at k (e ∷ es) off = rw off.0 (none_at k es off.1)

pub each_once : {A : Type 0} (es : List (Vec ℕ A × StoredPlace)) → IsDistinct (λ x y. pointwise nat_eq x.items y.items) (keys_of es) → AreOnce (entries_of es)
each_once [] distinct = tt
each_once (e ∷ es) distinct = (
  none_at e.0 es (IsDistinct-head (λ x y. pointwise nat_eq x.items y.items) e.0 (keys_of es) distinct),
  each_once es (IsDistinct-tail (λ x y. pointwise nat_eq x.items y.items) e.0 (keys_of es) distinct),
)

-- COPIES

apart_last : (j k : List ℕ) (v : StoredPlace) (es rest : Entries) → lookup (same_key j) (es ++ (k, v) ∷ rest) ≡ None → same_key j k ≡ false
apart_last j k v [] rest none = by_test (same_key j k) none
  where
    by_test : (a : Bool) → cond a (Some v) (lookup (same_key j) rest) ≡ None → a ≡ false
    by_test true is = absurd cc
    by_test false is = refl
apart_last j k v (e ∷ es) rest none = by_test (same_key j e.0) none (apart_last j k v es rest)
  where
    by_test : (a : Bool) → cond a (Some e.1) (lookup (same_key j) (es ++ (k, v) ∷ rest)) ≡ None → (lookup (same_key j) (es ++ (k, v) ∷ rest) ≡ None → same_key j k ≡ false) → same_key j k ≡ false
    by_test true is later = absurd cc
    by_test false is later = later is

put_last : (k : List ℕ) (v : StoredPlace) (es rest : Entries) → AreOnce (es ++ (k, v) ∷ rest) → slots_with k v es ≡ es ++ (k, v) ∷ []
put_last k v [] rest once = refl
put_last k v (e ∷ es) rest once =
    let off : same_key k e.0 ≡ false = nat_list_eq_equiv.symm k e.0 ∙ apart_last e.0 k v es rest once.0 in
    rw off (ap (λ (fs : Entries). e ∷ fs) (put_last k v es rest once.1))

pub copied_next : {A : Type 0} (done new : List (Vec ℕ A × StoredPlace)) (es rest : Entries) (name : Vec ℕ A) (k : List ℕ) (v w : StoredPlace) → name.items ≡ k → w ≡ v →
    new ≡ insert_entry (λ x y. pointwise nat_eq x.items y.items) done name w → AreOnce es → entries_of done ++ (k, v) ∷ rest ≡ es → entries_of new ++ rest ≡ es
copied_next done new es rest name k v w named same made once parts =
    ap (λ fs. entries_of fs ++ rest) made ∙ ap (λ (fs : Entries). fs ++ rest) (placed done name w ∙ ap (λ (t : StoredPlace). slots_with name.items t (entries_of done)) same
    ∙ ap (λ (t : List ℕ). slots_with t v (entries_of done)) named ∙ put_last k v (entries_of done) rest (subst (λ (fs : Entries). AreOnce fs) (sym parts) once))
    ∙ append_assoc (entries_of done) ((k, v) ∷ []) rest ∙ parts

-- WHAT STANDS

gone_too : (es : Entries) (k : List ℕ) → lookup (same_key k) es ≡ None → lookup (same_key k) (standing_of es) ≡ None
gone_too [] k none = refl
gone_too (e ∷ es) k none = by_test (same_key k e.0) refl none e.1.row (gone_too es k)
  where
    by_test : (a : Bool) → same_key k e.0 ≡ a → cond a (Some e.1) (lookup (same_key k) es) ≡ None → (row : Option (List Value)) →
        (lookup (same_key k) es ≡ None → lookup (same_key k) (standing_of es) ≡ None) → lookup (same_key k) (with_standing e.0 row (standing_of es)) ≡ None
    by_test true on is row rest = absurd cc
    by_test false off is None rest = rest is
    by_test false off is (Some row) rest = rw off (rest is)

standing_at : (es : Entries) (k : List ℕ) → AreOnce es → lookup (same_key k) (standing_of es) ≡ (slot_at es k).row
standing_at [] k once = refl
standing_at (e ∷ es) k once = by_test (same_key k e.0) refl e.1.row refl (standing_at es k once.1)
  where
    by_test : (a : Bool) → same_key k e.0 ≡ a → (row : Option (List Value)) → e.1.row ≡ row → lookup (same_key k) (standing_of es) ≡ (slot_at es k).row →
        lookup (same_key k) (with_standing e.0 row (standing_of es)) ≡ (unwrap_or (cond a (Some e.1) (lookup (same_key k) es)) vacant).row
    by_test true on None is rest = gone_too es k (ap (λ (j : List ℕ). lookup (same_key j) es) (keys_same k e.0 on) ∙ once.0) ∙ sym is
    by_test true on (Some row) is rest = rw on (sym is)
    by_test false off None is rest = rest
    by_test false off (Some row) is rest = rw off rest

standing_once : (es : Entries) → AreOnce es → AreOnce (standing_of es)
standing_once [] once = tt
standing_once (e ∷ es) once = by_row e.1.row (standing_once es once.1)
  where
    by_row : (row : Option (List Value)) → AreOnce (standing_of es) → AreOnce (with_standing e.0 row (standing_of es))
    by_row None rest = rest
    by_row (Some row) rest = (gone_too es e.0 once.0, rest)

off_later : (e : List ℕ × StoredPlace) (es : Entries) (k : List ℕ) (row : List Value) → lookup (same_key e.0) es ≡ None → (slot_at es k).row ≡ Some row → same_key k e.0 ≡ false
off_later e es k row none is = by_test (same_key k e.0) refl
  where
    by_test : (a : Bool) → same_key k e.0 ≡ a → a ≡ false
    by_test false apart = refl
    by_test true on =
        let gone : (slot_at es k).row ≡ None = ap (λ (j : List ℕ). (slot_at es j).row) (keys_same k e.0 on) ∙ ap (λ (o : Option StoredPlace). (unwrap_or o vacant).row) none in
        let never : None ≡ Some row = sym gone ∙ is in
        absurd cc

homes : (tables : List Table) (es : Entries) → AreOnce es → ((k : List ℕ) (row : List Value) → (slot_at es k).row ≡ Some row → IsHome tables k row) →
    AllByRecursion (λ s. IsHome tables s.0 s.1) (standing_of es)
homes tables [] once home = tt
homes tables (e ∷ es) once home =
    by_row e.1.row refl (homes tables es once.1 (λ k row is. home k row (ap (λ (a : Bool). (unwrap_or (cond a (Some e.1) (lookup (same_key k) es)) vacant).row) (off_later e es k row once.0 is) ∙ is)))
  where
    by_row : (row : Option (List Value)) → e.1.row ≡ row → AllByRecursion (λ s. IsHome tables s.0 s.1) (standing_of es) →
        AllByRecursion (λ s. IsHome tables s.0 s.1) (with_standing e.0 row (standing_of es))
    by_row None is rest = rest
    by_row (Some row) is rest = (home e.0 row (ap (λ (a : Bool). (unwrap_or (cond a (Some e.1) (lookup (same_key e.0) es)) vacant).row) (same_self e.0) ∙ is), rest)

-- UNDOING WHAT LIVE TRANSACTIONS CHANGED

live_left : (top : ℕ) (m : Made) (ms : List Made) → is_top top m.top ≡ true → settled_history (m ∷ ms) ≡ settled_history ms
live_left top m ms own = ap (λ (o : Option ℕ). cond (not (is_some o)) (m ∷ settled_history ms) (settled_history ms)) (top_is top m.top own)

settled_rolled : (top n : ℕ) (ms : List Made) → settled_history (history_after_rollback top n ms) ≡ settled_history ms
settled_rolled top n [] = refl
settled_rolled top zero (m ∷ ms) = by_own (is_top top m.top) refl (settled_rolled top zero ms)
  where
    by_own : (a : Bool) → is_top top m.top ≡ a → settled_history (history_after_rollback top zero ms) ≡ settled_history ms →
        settled_history (cond a (history_after_rollback top zero ms) (m ∷ history_after_rollback top zero ms)) ≡ settled_history (m ∷ ms)
    by_own true own rest = rest ∙ sym (live_left top m ms own)
    by_own false off rest = ap (λ (hs : List Made). cond (is_settled m) (m ∷ hs) hs) rest
settled_rolled top (suc n) (m ∷ ms) = by_own (is_top top m.top) (settled_rolled top n ms) (settled_rolled top (suc n) ms)
  where
    by_own : (a : Bool) → settled_history (history_after_rollback top n ms) ≡ settled_history ms → settled_history (history_after_rollback top (suc n) ms) ≡ settled_history ms →
        settled_history (cond a (m ∷ history_after_rollback top n ms) (m ∷ history_after_rollback top (suc n) ms)) ≡ settled_history (m ∷ ms)
    by_own true less rest = ap (λ (hs : List Made). cond (is_settled m) (m ∷ hs) hs) less
    by_own false less rest = ap (λ (hs : List Made). cond (is_settled m) (m ∷ hs) hs) rest

own_journal : (top : ℕ) (j : List (List Undo)) (rest : Journals) → journal_of top ((top, j) ∷ rest) ≡ j
own_journal top j rest = ap (λ (a : Bool). unwrap_or (cond a (Some j) (lookup (nat_eq top) rest)) []) (eq-eqb top top refl)

other_journal : (top x : ℕ) (j : List (List Undo)) (rest : Journals) → nat_eq x top ≡ false → journal_of x ((top, j) ∷ rest) ≡ journal_of x rest
other_journal top x j rest off = ap (λ (a : Bool). unwrap_or (cond a (Some j) (lookup (nat_eq x) rest)) []) off

turned : (top x : ℕ) → nat_eq top x ≡ false → nat_eq x top ≡ false
turned top x off = by_test (nat_eq x top) refl
  where
    by_test : (a : Bool) → nat_eq x top ≡ a → a ≡ false
    by_test false is = refl
    by_test true is =
        let never : nat_eq top x ≡ true = eq-eqb top x (sym (eqb-true x top is)) in
        absurd cc

pub settling_more : (tables : List Table) (slots next : Entries) (top : ℕ) (all left : List (List Undo)) (undos : List Undo) (rest : Journals) (h : List Made) → all ≡ left ++ undos ∷ [] →
    (CanUndo undos (slot_at slots) → (k : List ℕ) → slot_at next k ≡ undone_at undos k (slot_at slots k)) → (CanUndo undos (slot_at slots) → AreShort slots → AreShort next) →
    Settling tables slots ((top, all) ∷ rest) h → Settling tables next ((top, left) ∷ rest) h
settling_more tables slots next top all left undos rest h parts back short (now, keeps, is) =
    let s = state tables slots ((top, all) ∷ rest) in
    let new = state tables next ((top, left) ∷ rest) in
    let n : ℕ = length (journal_of top new.journals) in (
      history_after_rollback top n now,
      keeps_popped s new top undos now refl (own_journal top all rest ∙ parts ∙ ap (λ (l : List (List Undo)). l ++ undos ∷ []) (sym (own_journal top left rest)))
          (λ x off. other_journal top x left rest (turned top x off) ∙ sym (other_journal top x all rest (turned top x off))) back short keeps,
      settled_rolled top n now ∙ is,
    )

-- no transaction has two journals
abbrev pub AreApartTops : Journals → Type 0
AreApartTops [] = Unit {0}
AreApartTops (j ∷ js) = (journal_of j.0 js ≡ []) × AreApartTops js

pub apart_tops : (js : Journals) → IsDistinct nat_eq (keys_of js) → AreApartTops js
apart_tops [] distinct = tt
apart_tops (j ∷ js) distinct = (none_other js (IsDistinct-head nat_eq j.0 (keys_of js) distinct), apart_tops js (IsDistinct-tail nat_eq j.0 (keys_of js) distinct))
  where
    none_other : (ks : Journals) → AllByRecursion (λ y. nat_eq j.0 y ≡ false) (keys_of ks) → journal_of j.0 ks ≡ []
    none_other [] off = refl
    none_other (k ∷ ks) off = rw off.0 (none_other ks off.1)

pub settling_next : (tables : List Table) (slots : Entries) (top : ℕ) (rest : Journals) (h : List Made) → journal_of top rest ≡ [] → Settling tables slots ((top, []) ∷ rest) h → Settling tables slots rest h
settling_next tables slots top rest h none (now, keeps, is) = (
  now,
  keeps_same (state tables slots ((top, []) ∷ rest)) (state tables slots rest) now (record {
    tables = refl;
    slots = record { slots = λ k. refl; short = λ all. all };
    journals = λ x. by_test x (nat_eq x top) refl;
  }) keeps,
  is,
)
  where
    by_test : (x : ℕ) (a : Bool) → nat_eq x top ≡ a → journal_of x rest ≡ unwrap_or (cond a (Some []) (lookup (nat_eq x) rest)) []
    by_test x true on = ap (λ (y : ℕ). journal_of y rest) (eqb-true x top on) ∙ none
    by_test x false off = refl

all_settled : (tables : List Table) (ms : List Made) (before : List ℕ → StoredPlace) → ((x : ℕ) → AreNotes tables x ms before []) → settled_history ms ≡ ms
all_settled tables [] before notes = refl
all_settled tables (m ∷ ms) before notes = by_top m.top refl (all_settled tables ms (λ place. slot_by tables m place (before place)))
  where
    Rest : ℕ → Type 0
    Rest x = AreNotes tables x ms (λ place. slot_by tables m place (before place)) []

    First : ℕ → Bool → Type 0
    First x own = OwnFirst (IsUndo tables m before) (AreNotes tables x ms (λ place. slot_by tables m place (before place))) own []

    by_top : (o : Option ℕ) → m.top ≡ o → (((x : ℕ) → AreNotes tables x ms (λ place. slot_by tables m place (before place)) []) → settled_history ms ≡ ms) → settled_history (m ∷ ms) ≡ m ∷ ms
    by_top None is rest =
        ap (λ (p : Option ℕ). cond (not (is_some p)) (m ∷ settled_history ms) (settled_history ms)) is
        ∙ ap (λ (hs : List Made). m ∷ hs) (rest (λ x. subst (First x) (ap (is_top x) is) (notes x)))
    by_top (Some x) is rest = absurd (subst (First x) (ap (is_top x) is ∙ top_self x) (notes x))

settling_done : (tables : List Table) (slots : Entries) (h : List Made) → Settling tables slots [] h → Keeps (state tables slots []) (settled_history h)
settling_done tables slots h (now, keeps, is) = subst (Keeps (state tables slots [])) (sym (all_settled tables now nothing_at keeps.notes) ∙ is) keeps

pub settled_are : (tables : List Table) (slots : Entries) (h : List Made) → AreOnce slots → Settling tables slots [] h → AreCommitted tables h (standing_of slots)
settled_are tables slots h once settling =
    let keeps : Keeps (state tables slots []) (settled_history h) = settling_done tables slots h settling in
    record {
      at = λ key. standing_at slots (key_text key) once ∙ row_is (state tables slots []) (settled_history h) key keeps;
      once = standing_once slots once;
      home = homes tables slots once (λ k row is. stands_home tables (settled_history h) k row keeps.fits (ap (λ (t : StoredPlace). t.row) (sym (keeps.stands k)) ∙ is));
    }

-- READING

taken_of : {A : Type 0} (n : ℕ) (es : List (Vec ℕ A × StoredPlace)) → entries_of (take n es) ≡ take n (entries_of es)
taken_of zero es = refl
taken_of (suc n) [] = refl
taken_of (suc n) (e ∷ es) = ap (λ (fs : Entries). (e.0.items, e.1) ∷ fs) (taken_of n es)

dropped_of : {A : Type 0} (n : ℕ) (es : List (Vec ℕ A × StoredPlace)) → entries_of (drop n es) ≡ drop n (entries_of es)
dropped_of zero es = refl
dropped_of (suc n) [] = refl
dropped_of (suc n) (e ∷ es) = dropped_of n es

pub range_of : {A : Type 0} (es : List (Vec ℕ A × StoredPlace)) (a b : ℕ) → entries_of (slice_range es a b) ≡ slice_range (entries_of es) a b
range_of es a b = taken_of (b - a) (drop a es) ∙ ap (take (b - a)) (dropped_of a es)

within_append : (oid : ℕ) (es fs : Entries) → standing_within oid (standing_of (es ++ fs)) ≡ standing_within oid (standing_of es) ++ standing_within oid (standing_of fs)
within_append oid [] fs = refl
within_append oid (e ∷ es) fs = by_row e.1.row (is_within (oid ∷ []) e.0) refl (within_append oid es fs)
  where
    by_row : (row : Option (List Value)) (a : Bool) → is_within (oid ∷ []) e.0 ≡ a →
        standing_within oid (standing_of (es ++ fs)) ≡ standing_within oid (standing_of es) ++ standing_within oid (standing_of fs) →
        standing_within oid (with_standing e.0 row (standing_of (es ++ fs))) ≡ standing_within oid (with_standing e.0 row (standing_of es)) ++ standing_within oid (standing_of fs)
    by_row None a is rest = rest
    by_row (Some row) true is rest = rw is (ap (λ (ss : List Standing). (e.0, row) ∷ ss) rest)
    by_row (Some row) false is rest = rw is rest

drop_both : (es : Entries) (start end : ℕ) → start ≤ end → drop (end - start) (drop start es) ≡ drop end es
drop_both es start end le = drop-drop (end - start) start es ∙ ap (λ (n : ℕ). drop n es) (omega (arith, le))

pub gives_part : (oid : ℕ) (es : Entries) (start end : ℕ) (rows : List (List Value)) → start ≤ end → rows ≡ map (λ s. s.1) (standing_within oid (standing_of (slice_range es start end))) →
    Gives (standing_within oid (standing_of (drop start es))) rows (standing_within oid (standing_of (drop end es)))
gives_part oid es start end rows le are = record {
  given = standing_within oid (standing_of (slice_range es start end));
  parts = ap (λ (fs : Entries). standing_within oid (standing_of fs)) (sym (take-append-drop (end - start) (drop start es)) ∙ ap (λ (fs : Entries). slice_range es start end ++ fs) (drop_both es start end le))
      ∙ within_append oid (slice_range es start end) (drop end es);
  are = are;
}

pub length_of : {A : Type 0} (es : List (Vec ℕ A × StoredPlace)) → length (entries_of es) ≡ length es
length_of [] = refl
length_of (e ∷ es) = ap suc (length_of es)

few_within : (oid : ℕ) (es : Entries) → length (map (λ s. s.1) (standing_within oid (standing_of es))) ≤ length es
few_within oid [] = omega arith
few_within oid (e ∷ es) = by_row e.1.row (is_within (oid ∷ []) e.0) refl (few_within oid es)
  where
    by_row : (row : Option (List Value)) (a : Bool) → is_within (oid ∷ []) e.0 ≡ a → length (map (λ s. s.1) (standing_within oid (standing_of es))) ≤ length es →
        length (map (λ s. s.1) (standing_within oid (with_standing e.0 row (standing_of es)))) ≤ length (e ∷ es)
    by_row None a is rest = omega (arith, rest)
    by_row (Some row) true is rest = rw is (omega (arith, rest))
    by_row (Some row) false is rest = rw is (omega (arith, rest))

pub few_given : (oid : ℕ) (es : Entries) (start n : ℕ) (rows : List (List Value)) → rows ≡ map (λ s. s.1) (standing_within oid (standing_of (slice_range es start (start + n)))) → length rows ≤ n
few_given oid es start n rows are =
    omega (arith, ap (λ (rs : List (List Value)). length rs) are, few_within oid (slice_range es start (start + n)), length-take (start + n - start) (drop start es))

-- the last of the first n
pub take_last : {A : Type 0} (xs : List A) (n : ℕ) (x : A) → 0 < n → n ≤ length xs → x ≡ get_or xs (n - 1) x → take n xs ≡ take (n - 1) xs ++ x ∷ []
take_last {A} xs n x some le is =
    ap (λ (m : ℕ). take m xs) (omega (arith, some)) ∙ take_more xs (n - 1) x (omega (arith, some, le)) ∙ ap (λ (y : A). take (n - 1) xs ++ y ∷ []) (sym is)
