-- The rows and the holds of a history, and that who holds no one's places keeps apart from all.
use Rattle.std.proofs.Common.{◌≡◌, ℕ, Bool, true, false, cond, eqb, not, ◌||◌, ◌&&◌, List, [], ◌∷◌, ◌++◌, take, map, Some, None, refl, sym, ap, subst, ◌∙◌, is_some, eq-eqb}
use Rattle.std.proofs.lemmas.Bool.{eqb-true}
use Rattle.std.proofs.Math.Seq.{take-append_seam}
use Rattle.std.specs.Prelude.{Option}
use Rattle.std.specs.List.{AllByRecursion}
use Rattle.pqformat.specs.Fields.{int32}
use Rattle.pqformat.proofs.Numbers.{length-int32}
use Rattle.store.specs.declared.places.stored_place.StoredPlace.{StoredPlace}
use Rattle.tables.specs.declared.kinds.Value.{Value}
use Rattle.tables.specs.declared.table.Table.{Table}
use Rattle.tables.specs.declared.changes.change.Change.{Change}
use Rattle.tables.specs.declared.changes.change.Change.TheVariants as changes
use Rattle.store.specs.Slots.{same_key, vacant}
use Rattle.store.specs.Rows.{Key, Rows, key_text}
use Rattle.tables.specs.Tables.{FitsRow, FitsChange}
use Rattle.store.specs.History.{Made, is_other, is_within, is_among, is_held, is_key_held, rows_with, rows_from, row_place, table_place, places_of}
use Rattle.store.specs.Snapshots.{IsHome}
use Rattle.store.specs.Keeping.{Put, all_emptied, put_at, is_put, puts_of, emptied_slot, slot_after_emptying, is_emptied, touches, slot_by, slot_from, Follows, KeepsOff, AreApart}
use Rattle.store.proofs.Undoing.{same_self, keys_same}
use Rattle.store.proofs.Histories.{or_left, or_right, put_off}

-- A TABLE'S PLACES

front_of : (oid : ℕ) (rest : List ℕ) → take 4 (int32 oid ++ rest) ≡ int32 oid
front_of oid rest = subst (λ (n : ℕ). take n (int32 oid ++ rest) ≡ int32 oid) (length-int32 oid) (take-append_seam (int32 oid) rest)

pub front_of_row : (tables : List Table) (oid : ℕ) (row : List Value) → take 4 (row_place tables oid row) ≡ int32 oid
front_of_row tables oid row = front_of oid _

pub front_of_key : (key : Key) → take 4 (key_text key) ≡ int32 key.oid
front_of_key key = front_of key.oid _

pub front_of_table : (oid : ℕ) → take 4 (table_place oid) ≡ int32 oid
front_of_table oid = front_of oid (255 ∷ [])

as_same : (a b : List ℕ) → a ≡ b → same_key a b ≡ true
as_same a b is = subst (λ (c : List ℕ). same_key a c ≡ true) is (same_self a)

place_within : (k : List ℕ) (oid : ℕ) → same_key k (table_place oid) ≡ true → same_key (take 4 k) (int32 oid) ≡ true
place_within k oid same = as_same (take 4 k) (int32 oid) (ap (take 4) (keys_same k (table_place oid) same) ∙ front_of oid (255 ∷ []))

or_true : (a b c : Bool) → (a || b) ≡ true → (a ≡ true → c ≡ true) → (b ≡ true → c ≡ true) → c ≡ true
or_true true b c is f g = f refl
or_true false b c is f g = g is

pub left_true : (a b : Bool) → a ≡ true → (a || b) ≡ true
left_true true b is = refl
left_true false b is = absurd cc

pub right_true : (a b : Bool) → b ≡ true → (a || b) ≡ true
right_true true b is = refl
right_true false b is = is

within_put : (p : List ℕ) (oid : ℕ) (oids : List ℕ) → take 4 p ≡ int32 oid → is_within oids p ≡ true → is_put (table_place oid) (all_emptied oids) ≡ true
within_put p oid [] front on = absurd cc
within_put p oid (x ∷ oids) front on =
    or_true (same_key (take 4 p) (int32 x)) (is_within oids p) (is_put (table_place oid) (all_emptied (x ∷ oids))) on
    (λ same. left_true (same_key (table_place oid) (table_place x)) (is_put (table_place oid) (all_emptied oids))
    (as_same (table_place oid) (table_place x) (ap (λ (t : List ℕ). t ++ 255 ∷ []) (sym front ∙ keys_same (take 4 p) (int32 x) same))))
    (λ rest. right_true (same_key (table_place oid) (table_place x)) (is_put (table_place oid) (all_emptied oids)) (within_put p oid oids front rest))

-- ROWS

row_if : (a : Bool) (s t : StoredPlace) → (cond a s t).row ≡ cond a s.row t.row
row_if true s t = refl
row_if false s t = refl

emptied_none : (top : Option ℕ) (oids : List ℕ) (k : List ℕ) (s : StoredPlace) → s.row ≡ None → (put_at top (all_emptied oids) k s).row ≡ None
emptied_none top [] k s none = none
emptied_none top (x ∷ oids) k s none = emptied_none top oids k (cond (same_key k (table_place x)) (record { row = None; owner = top }) s) (by_test (same_key k (table_place x)))
  where
    by_test : (a : Bool) → (cond a (record { row = None; owner = top }) s).row ≡ None
    by_test true = refl
    by_test false = none

pub not_put : (oids : List ℕ) (k : List ℕ) → is_within oids k ≡ false → is_put k (all_emptied oids) ≡ false
not_put [] k off = refl
not_put (x ∷ oids) k off =
    by_test (same_key k (table_place x)) (place_within k x) (not_put oids k (or_right (same_key (take 4 k) (int32 x)) (is_within oids k) off))
  where
    by_test : (a : Bool) → (a ≡ true → same_key (take 4 k) (int32 x) ≡ true) → is_put k (all_emptied oids) ≡ false → (a || is_put k (all_emptied oids)) ≡ false
    by_test true on rest =
        let yes : same_key (take 4 k) (int32 x) ≡ true = on refl in
        let never : same_key (take 4 k) (int32 x) ≡ false = or_left (same_key (take 4 k) (int32 x)) (is_within oids k) off in
        absurd cc
    by_test false on rest = rest

row_by : (tables : List Table) (top : Option ℕ) (change : Change) (key : Key) (s : StoredPlace) (rows : Rows) → s.row ≡ rows key →
    (put_at top (puts_of tables change) (key_text key) (slot_after_emptying top change (key_text key) s)).row ≡ rows_with tables change rows key
row_by tables top (changes.Insert oid row) key s rows is =
    let a = same_key (key_text key) (row_place tables oid row) in
    row_if a (record { row = Some row; owner = top }) s ∙ ap (λ (r : Option (List Value)). cond a (Some row) r) is
row_by tables top (changes.Update oid old row) key s rows is =
    let a = same_key (key_text key) (row_place tables oid row) in
    let b = same_key (key_text key) (row_place tables oid old) in
    row_if a (record { row = Some row; owner = top }) (cond b (record { row = None; owner = top }) s)
    ∙ ap (λ (r : Option (List Value)). cond a (Some row) r) (row_if b (record { row = None; owner = top }) s ∙ ap (λ (r : Option (List Value)). cond b None r) is)
row_by tables top (changes.Delete oid old) key s rows is =
    let b = same_key (key_text key) (row_place tables oid old) in
    row_if b (record { row = None; owner = top }) s ∙ ap (λ (r : Option (List Value)). cond b None r) is
row_by tables top (changes.Message message) key s rows is = is
row_by tables top (changes.Truncate oids) key s rows is = by_test (is_within oids (key_text key)) refl
  where
    gone : (r : Option (List Value)) → (let t : StoredPlace = cond (is_some r) (record { row = None; owner = top }) (record { row = r; owner = s.owner }) in t.row ≡ None)
    gone None = refl
    gone (Some row) = refl

    by_test : (a : Bool) → is_within oids (key_text key) ≡ a → (put_at top (all_emptied oids) (key_text key) (cond a (emptied_slot top s) s)).row ≡ cond a None (rows key)
    by_test true on = emptied_none top oids (key_text key) (emptied_slot top s) (gone s.row)
    by_test false off = ap (λ (t : StoredPlace). t.row) (put_off top (all_emptied oids) (key_text key) s (not_put oids (key_text key) off)) ∙ is

pub rows_are : (tables : List Table) (ms : List Made) (key : Key) (s : StoredPlace) (rows : Rows) → s.row ≡ rows key → (slot_from tables ms (key_text key) s).row ≡ rows_from tables ms rows key
rows_are tables [] key s rows is = is
rows_are tables (m ∷ ms) key s rows is =
    rows_are tables ms key (slot_by tables m (key_text key) s) (rows_with tables m.change rows) (row_by tables m.top m.change key s rows is)

-- HOLDS

pub places_put : (k : List ℕ) (tables : List Table) (change : Change) → is_among k (places_of tables change) ≡ is_put k (puts_of tables change)
places_put k tables (changes.Insert oid row) = refl
places_put k tables (changes.Update oid old row) = refl
places_put k tables (changes.Delete oid old) = refl
places_put k tables (changes.Message message) = refl
places_put k tables (changes.Truncate oids) = all_places oids
  where
    all_places : (xs : List ℕ) → is_among k (map table_place xs) ≡ is_put k (all_emptied xs)
    all_places [] = refl
    all_places (x ∷ xs) = ap (λ (b : Bool). same_key k (table_place x) || b) (all_places xs)

put_owner : (top : Option ℕ) (ps : List Put) (k : List ℕ) (s : StoredPlace) → (put_at top ps k s).owner ≡ cond (is_put k ps) top s.owner
put_owner top [] k s = refl
put_owner top (p ∷ ps) k s =
    put_owner top ps k (cond (same_key k p.0) (record { row = p.1; owner = top }) s) ∙ by_test (same_key k p.0) (is_put k ps)
  where
    by_test : (a b : Bool) → cond b top (cond a (record { row = p.1; owner = top }) s).owner ≡ cond (a || b) top s.owner
    by_test true true = refl
    by_test true false = refl
    by_test false b = refl

emptied_owner : (top : Option ℕ) (change : Change) (k : List ℕ) (s : StoredPlace) → (slot_after_emptying top change k s).owner ≡ cond (is_emptied change k && is_some s.row) top s.owner
emptied_owner top (changes.Insert oid row) k s = refl
emptied_owner top (changes.Update oid old row) k s = refl
emptied_owner top (changes.Delete oid old) k s = refl
emptied_owner top (changes.Message message) k s = refl
emptied_owner top (changes.Truncate oids) k s = by_test (is_within oids k) (is_some s.row)
  where
    by_test : (a b : Bool) → (cond a (cond b (record { row = None; owner = top }) s) s).owner ≡ cond (a && b) top s.owner
    by_test true true = refl
    by_test true false = refl
    by_test false b = refl

-- whether a change takes a place for its transaction: it puts there, or takes the row away
abbrev pub takes : List Table → Change → List ℕ → StoredPlace → Bool
takes tables change k s = is_put k (puts_of tables change) || (is_emptied change k && is_some s.row)

pub takes_touch : (tables : List Table) (change : Change) (k : List ℕ) (s : StoredPlace) → takes tables change k s ≡ true → touches tables change k ≡ true
takes_touch tables change k s on = by_test (is_put k (puts_of tables change)) (is_emptied change k) (is_some s.row) on
  where
    by_test : (a b c : Bool) → (a || (b && c)) ≡ true → (a || b) ≡ true
    by_test true b c on = refl
    by_test false true c on = refl
    by_test false false c on = absurd cc

pub owner_by : (tables : List Table) (m : Made) (k : List ℕ) (s : StoredPlace) → (slot_by tables m k s).owner ≡ cond (takes tables m.change k s) m.top s.owner
owner_by tables m k s =
    put_owner m.top (puts_of tables m.change) k (slot_after_emptying m.top m.change k s)
    ∙ ap (λ (o : Option ℕ). cond (is_put k (puts_of tables m.change)) m.top o) (emptied_owner m.top m.change k s)
    ∙ by_test (is_put k (puts_of tables m.change)) (is_emptied m.change k && is_some s.row)
  where
    by_test : (a b : Bool) → cond a m.top (cond b m.top s.owner) ≡ cond (a || b) m.top s.owner
    by_test true b = refl
    by_test false b = refl

pub and_false : (a b : Bool) → (a && b) ≡ false → b ≡ true → a ≡ false
and_false true true off on = absurd cc
and_false true false off on = absurd cc
and_false false b off on = refl

-- whether another live transaction holds the place by this change
abbrev holds_by : List Table → ℕ → List ℕ → Made → Bool
holds_by tables top k m = is_other top m.top && is_among k (places_of tables m.change)

stays_owned : (tables : List Table) (x : ℕ) (m : Made) (ms : List Made) (k : List ℕ) (s : StoredPlace) → m.top ≡ Some x → AllByRecursion (KeepsOff tables m) ms → touches tables m.change k ≡ true →
    s.owner ≡ Some x → (slot_from tables ms k s).owner ≡ Some x
stays_owned tables x m [] k s own off on is = is
stays_owned tables x m (n ∷ ms) k s own off on is =
    stays_owned tables x m ms k (slot_by tables n k s) own off.1 on (owner_by tables n k s ∙ by_test (takes tables n.change k s) refl)
  where
    by_test : (a : Bool) → takes tables n.change k s ≡ a → cond a n.top s.owner ≡ Some x
    by_test true also = subst (λ (o : Option ℕ). Follows o n.top) own (off.0 k on (takes_touch tables n.change k s also))
    by_test false away = is

pub and_left : (a b : Bool) → (a && b) ≡ true → a ≡ true
and_left true b is = refl
and_left false b is = absurd cc

pub and_right : (a b : Bool) → (a && b) ≡ true → b ≡ true
and_right true b is = is
and_right false b is = absurd cc

pub held : (tables : List Table) (top : ℕ) (ms : List Made) (k : List ℕ) (s : StoredPlace) → AreApart tables ms → is_held tables top ms k ≡ true → is_other top (slot_from tables ms k s).owner ≡ true
held tables top [] k s apart on = absurd cc
held tables top (m ∷ ms) k s apart on = by_test (holds_by tables top k m) refl on (held tables top ms k (slot_by tables m k s) apart.1)
  where
    by_top : (o : Option ℕ) → m.top ≡ o → is_other top o ≡ true → is_put k (puts_of tables m.change) ≡ true → is_other top (slot_from tables ms k (slot_by tables m k s)).owner ≡ true
    by_top None is other puts = absurd cc
    by_top (Some x) is other puts =
        ap (is_other top) (stays_owned tables x m ms k (slot_by tables m k s) is apart.0 (left_true (is_put k (puts_of tables m.change)) (is_emptied m.change k) puts)
        (owner_by tables m k s ∙ ap (λ (a : Bool). cond a m.top s.owner) (left_true (is_put k (puts_of tables m.change)) (is_emptied m.change k && is_some s.row) puts) ∙ is)) ∙ other

    by_test : (a : Bool) → holds_by tables top k m ≡ a → (a || is_held tables top ms k) ≡ true → (is_held tables top ms k ≡ true → is_other top (slot_from tables ms k (slot_by tables m k s)).owner ≡ true) →
        is_other top (slot_from tables ms k (slot_by tables m k s)).owner ≡ true
    by_test true here on rest =
        by_top m.top refl (and_left (is_other top m.top) (is_among k (places_of tables m.change)) here)
        (sym (places_put k tables m.change) ∙ and_right (is_other top m.top) (is_among k (places_of tables m.change)) here)
    by_test false here on rest = rest on

-- WHAT IS NOT HELD MAY BE CHANGED

pub follows_own : (top : ℕ) (o : Option ℕ) → is_other top o ≡ false → Follows o (Some top)
follows_own top None off = tt
follows_own top (Some x) off = by_test (eqb x top) refl off
  where
    by_test : (a : Bool) → eqb x top ≡ a → not a ≡ false → Some top ≡ Some x
    by_test true same off = ap (λ (n : ℕ). Some n) (sym (eqb-true x top same))
    by_test false same off = absurd cc

abbrev pub Off : List Table → ℕ → List ℕ → Made → Type 0
Off tables top p m = touches tables m.change p ≡ true → Follows m.top (Some top)

pub emptied_put : (tables : List Table) (change : Change) (p : List ℕ) (oid : ℕ) → take 4 p ≡ int32 oid → is_emptied change p ≡ true → is_put (table_place oid) (puts_of tables change) ≡ true
emptied_put tables (changes.Insert x row) p oid front on = absurd cc
emptied_put tables (changes.Update x old row) p oid front on = absurd cc
emptied_put tables (changes.Delete x old) p oid front on = absurd cc
emptied_put tables (changes.Message message) p oid front on = absurd cc
emptied_put tables (changes.Truncate oids) p oid front on = within_put p oid oids front on

-- neither the place nor its table is held
pub free_place : (tables : List Table) (top oid : ℕ) (p : List ℕ) (ms : List Made) → take 4 p ≡ int32 oid → is_held tables top ms (table_place oid) ≡ false → is_held tables top ms p ≡ false →
    AllByRecursion (Off tables top p) ms
free_place tables top oid p [] front table_free free = tt
free_place tables top oid p (m ∷ ms) front table_free free = (
  here,
  free_place tables top oid p ms front (or_right (holds_by tables top (table_place oid) m) (is_held tables top ms (table_place oid)) table_free)
      (or_right (holds_by tables top p m) (is_held tables top ms p) free),
)
  where
    mine : (k : List ℕ) → holds_by tables top k m ≡ false → is_put k (puts_of tables m.change) ≡ true → is_other top m.top ≡ false
    mine k none puts = and_false (is_other top m.top) (is_among k (places_of tables m.change)) none (places_put k tables m.change ∙ puts)

    by_test : (a : Bool) → is_put p (puts_of tables m.change) ≡ a → (a || is_emptied m.change p) ≡ true → is_other top m.top ≡ false
    by_test true puts on = mine p (or_left (holds_by tables top p m) (is_held tables top ms p) free) puts
    by_test false puts on =
        mine (table_place oid) (or_left (holds_by tables top (table_place oid) m) (is_held tables top ms (table_place oid)) table_free) (emptied_put tables m.change p oid front on)

    here : Off tables top p m
    here on = follows_own top m.top (by_test (is_put p (puts_of tables m.change)) refl on)

not_other : (top : ℕ) (o : Option ℕ) → Follows o (Some top) → is_other top o ≡ false
not_other top None follows = refl
not_other top (Some x) follows = ap (is_other top) (sym follows) ∙ ap not (eq-eqb top top refl)

pub not_held : (tables : List Table) (top : ℕ) (ms : List Made) (k : List ℕ) (s : StoredPlace) → AllByRecursion (Off tables top k) ms → is_other top s.owner ≡ false →
    is_other top (slot_from tables ms k s).owner ≡ false
not_held tables top [] k s free off = off
not_held tables top (m ∷ ms) k s free off =
    not_held tables top ms k (slot_by tables m k s) free.1 (ap (is_other top) (owner_by tables m k s) ∙ by_test (takes tables m.change k s) refl)
  where
    by_test : (a : Bool) → takes tables m.change k s ≡ a → is_other top (cond a m.top s.owner) ≡ false
    by_test true on = not_other top m.top (free.0 (takes_touch tables m.change k s on))
    by_test false on = off

-- the slots tell whether another holds a key or its table: a row that a truncate took away is held as its table is
pub key_held_is : (tables : List Table) (top : ℕ) (ms : List Made) (key : Key) → AreApart tables ms →
    (is_other top (slot_from tables ms (table_place key.oid) vacant).owner || is_other top (slot_from tables ms (key_text key) vacant).owner) ≡ is_key_held tables top ms key
key_held_is tables top ms key apart = by_test (is_held tables top ms (table_place key.oid)) (is_held tables top ms (key_text key)) refl refl
  where
    of_table : Bool
    of_table = is_other top (slot_from tables ms (table_place key.oid) vacant).owner

    of_key : Bool
    of_key = is_other top (slot_from tables ms (key_text key) vacant).owner

    by_test : (a b : Bool) → is_held tables top ms (table_place key.oid) ≡ a → is_held tables top ms (key_text key) ≡ b → (of_table || of_key) ≡ (a || b)
    by_test true b on also = left_true of_table of_key (held tables top ms (table_place key.oid) vacant apart on)
    by_test false true off on = right_true of_table of_key (held tables top ms (key_text key) vacant apart on)
    by_test false false off none =
        ap (λ (x : Bool). x || of_key) (not_held tables top ms (table_place key.oid) vacant (free_place tables top key.oid (table_place key.oid) ms (front_of_table key.oid) off off) refl)
        ∙ not_held tables top ms (key_text key) vacant (free_place tables top key.oid (key_text key) ms (front_of_key key) off none) refl

-- a change that alters slots where it puts rows alone
abbrev pub OffAll : List Table → ℕ → List Put → Made → Type 0
OffAll tables top ps m = AllByRecursion (λ p. Off tables top p.0 m) ps

pub keeps_off : (tables : List Table) (top : ℕ) (m n : Made) → n.top ≡ Some top → ((k : List ℕ) → is_emptied n.change k ≡ false) → OffAll tables top (puts_of tables n.change) m → KeepsOff tables m n
keeps_off tables top m n own puts_alone off k on also =
    subst (λ (o : Option ℕ). Follows m.top o) (sym own) (by_puts (puts_of tables n.change) off (put_here (is_put k (puts_of tables n.change)) also))
  where
    put_here : (a : Bool) → (a || is_emptied n.change k) ≡ true → a ≡ true
    put_here true also = refl
    put_here false also = let never : is_emptied n.change k ≡ false = puts_alone k in absurd cc

    at_put : (p : Put) → Off tables top p.0 m → k ≡ p.0 → Follows m.top (Some top)
    at_put p free same = free (subst (λ (j : List ℕ). touches tables m.change j ≡ true) same on)

    by_puts : (ps : List Put) → OffAll tables top ps m → is_put k ps ≡ true → Follows m.top (Some top)
    by_puts [] off is = absurd cc
    by_puts (p ∷ ps) off is = by_test (same_key k p.0) (keys_same k p.0) is (by_puts ps off.1)
      where
        by_test : (a : Bool) → (a ≡ true → k ≡ p.0) → (a || is_put k ps) ≡ true → (is_put k ps ≡ true → Follows m.top (Some top)) → Follows m.top (Some top)
        by_test true same is rest = at_put p off.0 (same refl)
        by_test false same is rest = rest is

-- ROWS STAND AT THEIR KEYS

abbrev AtHome : List Table → List ℕ → StoredPlace → Type 0
AtHome tables k s = (row : List Value) → s.row ≡ Some row → IsHome tables k row

home_put : (tables : List Table) (top : Option ℕ) (oid : ℕ) (put : List Value) (k : List ℕ) (s : StoredPlace) → FitsRow tables oid put → AtHome tables k s →
    AtHome tables k (cond (same_key k (row_place tables oid put)) (record { row = Some put; owner = top }) s)
home_put tables top oid put k s fits home = by_test (same_key k (row_place tables oid put)) (keys_same k (row_place tables oid put))
  where
    by_test : (a : Bool) → (a ≡ true → k ≡ row_place tables oid put) → AtHome tables k (cond a (record { row = Some put; owner = top }) s)
    by_test true same row is = subst (IsHome tables k) (same_row is) (record { oid = oid; fits = fits; place = same refl })
      where
        same_row : Some put ≡ Some row → put ≡ row
        same_row e = cc
    by_test false same row is = home row is

home_gone : (tables : List Table) (top : Option ℕ) (a : Bool) (k : List ℕ) (s : StoredPlace) → AtHome tables k s → AtHome tables k (cond a (record { row = None; owner = top }) s)
home_gone tables top true k s home row is = absurd (never is)
  where
    never : None ≡ Some row → ⊥
    never e = absurd cc
home_gone tables top false k s home row is = home row is

home_by : (tables : List Table) (top : Option ℕ) (change : Change) (k : List ℕ) (s : StoredPlace) → FitsChange tables change → AtHome tables k s →
    AtHome tables k (put_at top (puts_of tables change) k (slot_after_emptying top change k s))
home_by tables top (changes.Insert oid row) k s fits home = home_put tables top oid row k s fits home
home_by tables top (changes.Update oid old row) k s fits home =
    home_put tables top oid row k (cond (same_key k (row_place tables oid old)) (record { row = None; owner = top }) s) fits.1
    (home_gone tables top (same_key k (row_place tables oid old)) k s home)
home_by tables top (changes.Delete oid old) k s fits home = home_gone tables top (same_key k (row_place tables oid old)) k s home
home_by tables top (changes.Message message) k s fits home = home
home_by tables top (changes.Truncate oids) k s fits home = all_gone oids (cond (is_within oids k) (emptied_slot top s) s) (by_test (is_within oids k))
  where
    by_test : (a : Bool) → AtHome tables k (cond a (emptied_slot top s) s)
    by_test true row is = home_gone tables top (is_some s.row) k s home row is
    by_test false row is = home row is

    all_gone : (xs : List ℕ) (t : StoredPlace) → AtHome tables k t → AtHome tables k (put_at top (all_emptied xs) k t)
    all_gone [] t there = there
    all_gone (x ∷ xs) t there = all_gone xs (cond (same_key k (table_place x)) (record { row = None; owner = top }) t) (home_gone tables top (same_key k (table_place x)) k t there)

home_from : (tables : List Table) (ms : List Made) (k : List ℕ) (s : StoredPlace) → AllByRecursion (λ m. FitsChange tables m.change) ms → AtHome tables k s → AtHome tables k (slot_from tables ms k s)
home_from tables [] k s fits home = home
home_from tables (m ∷ ms) k s fits home = home_from tables ms k (slot_by tables m k s) fits.1 (home_by tables m.top m.change k s fits.0 home)

pub stands_home : (tables : List Table) (ms : List Made) (k : List ℕ) (row : List Value) → AllByRecursion (λ m. FitsChange tables m.change) ms → (slot_from tables ms k vacant).row ≡ Some row → IsHome tables k row
stands_home tables ms k row fits is = home_from tables ms k vacant fits (λ r there. absurd (never r there)) row is
  where
    never : (r : List Value) → None ≡ Some r → ⊥
    never r e = absurd cc
