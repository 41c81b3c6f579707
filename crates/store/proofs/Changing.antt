-- What may be changed is changed, and what is refused is what the history says.
use Rattle.std.proofs.Common.{◌≡◌, ℕ, ◌<◌, ◌≤◌, ◌^◌, Bool, true, false, cond, ◌||◌, ◌&&◌, not, List, [], ◌∷◌, ◌++◌, length, take, Some, None, refl, sym, ap, subst, ◌∙◌, arith}
use Rattle.std.specs.Prelude.{Option, Result, Ok, Err, MatchOption, is_some, nat_lt, IsTrue}
use Rattle.std.proofs.lemmas.Bool.Decides.{nat_tests}
use Rattle.std.specs.Int.{w32}
use Rattle.std.specs.Option.{ok_or}
use Rattle.std.specs.List.{AllByRecursion}
use Rattle.pqformat.specs.Fields.{int32, number_at}
use Rattle.pqformat.proofs.Numbers.{number32}
use Rattle.tables.specs.declared.fault.BodyFault.{BodyFault}
use Rattle.tables.specs.declared.fault.BodyFault.TheVariants.{Short}
use Rattle.store.specs.declared.places.key.TheConstants.{MAX_KEY_LENGTH}
use Rattle.tables.specs.declared.rows.row.TheConstants.{MAX_ROW_LENGTH}
use Rattle.store.specs.declared.store_fault.StoreFault.{StoreFault}
use Rattle.store.specs.declared.store_fault.StoreFault.TheVariants as faults
use Rattle.store.specs.declared.places.stored_place.StoredPlace.{StoredPlace}
use Rattle.tables.specs.declared.kinds.Value.{Value}
use Rattle.tables.specs.declared.table.Table.{Table}
use Rattle.tables.specs.declared.changes.change.Change.{Change}
use Rattle.tables.specs.declared.changes.message.Message.{Message}
use Rattle.tables.specs.declared.changes.change.Change.TheVariants as changes
use Rattle.store.specs.Slots.{same_key, vacant, slot_at}
use Rattle.store.specs.Rows.{Key, key_text, key_of, key_in}
use Rattle.tables.specs.Spelling.{row_length}
use Rattle.tables.specs.Tables.{table_of, fits_table, fits_key, FitsRow, FitsChange, FitsMessage}
use Rattle.store.specs.History.{Made, change_made, is_other, is_held, is_key_held, is_there, row_place, table_place, of_table, unless, insert_fault, delete_fault, update_fault, insert_refusal, delete_refusal, update_refusal, Deletes, Updates}
use Rattle.store.specs.Keeping.{StoreState, Put, Keeps, Makes, IsRefusal, DeletesAt, UpdatesAt, RefusedExactly, key_held, keys_fault, places_fault, row_at}
use Rattle.store.proofs.Keys.{row_key_le, key_length}
use Rattle.tables.proofs.Lengths.{row_length_is}
use Rattle.store.proofs.Histories.{or_left, or_right}
use Rattle.store.specs.Snapshots.{IsHome}
use Rattle.store.proofs.Holding.{Off, OffAll, free_place, front_of_row, front_of_key, stands_home}
use Rattle.store.proofs.Storing.{keeps_made, row_is, held_key}

-- REFUSALS

unless_none : (bad : Bool) (fault : StoreFault) (other : Option StoreFault) → unless bad fault other ≡ None → (bad ≡ false) × (other ≡ None)
unless_none true fault other none = absurd (never none)
  where
    never : Some fault ≡ None → ⊥
    never e = absurd cc
unless_none false fault other none = (refl, none)

of_none : (o : Option Table) (f : Table → Option StoreFault) → of_table o f ≡ None → (table : Table) × (o ≡ Some table) × (f table ≡ None)
of_none None f none = absurd (never none)
  where
    never : Some faults.UnknownTable ≡ None → ⊥
    never e = absurd cc
of_none (Some table) f none = (table, refl, none)

insert_none : (tables : List Table) (oid : ℕ) (row : List Value) (held there : Bool) → insert_fault tables oid row held there ≡ None → (held ≡ false) × (there ≡ false)
insert_none tables oid row held there none =
    let a = of_none (table_of oid tables) (λ table. unless (not (fits_table table row)) faults.RowShape (unless (nat_lt MAX_ROW_LENGTH (row_length row)) faults.TooLarge
    (unless held faults.KeyHeld (unless there faults.DuplicateKey None)))) none in
    let b = unless_none (not (fits_table a.0 row)) faults.RowShape (unless (nat_lt MAX_ROW_LENGTH (row_length row)) faults.TooLarge (unless held faults.KeyHeld (unless there faults.DuplicateKey None))) a.2 in
    let d = unless_none (nat_lt MAX_ROW_LENGTH (row_length row)) faults.TooLarge (unless held faults.KeyHeld (unless there faults.DuplicateKey None)) b.1 in
    let e = unless_none held faults.KeyHeld (unless there faults.DuplicateKey None) d.1 in
    let f = unless_none there faults.DuplicateKey None e.1 in
    (e.0, f.0)

delete_none : (tables : List Table) (key : Key) (held there : Bool) → delete_fault tables key held there ≡ None → (held ≡ false) × (not there ≡ false)
delete_none tables key held there none =
    let a = of_none (table_of key.oid tables) (λ table. unless (not (fits_key table key.values)) faults.RowShape (unless held faults.KeyHeld (unless (not there) faults.NoSuchRow None))) none in
    let b = unless_none (not (fits_key a.0 key.values)) faults.RowShape (unless held faults.KeyHeld (unless (not there) faults.NoSuchRow None)) a.2 in
    let e = unless_none held faults.KeyHeld (unless (not there) faults.NoSuchRow None) b.1 in
    let f = unless_none (not there) faults.NoSuchRow None e.1 in
    (e.0, f.0)

update_none : (tables : List Table) (key : Key) (row : List Value) (held there taken : Bool) → update_fault tables key row held there taken ≡ None → (held ≡ false) × (not there ≡ false)
update_none tables key row held there taken none =
    let a = of_none (table_of key.oid tables) (λ table. unless (not (fits_key table key.values && fits_table table row)) faults.RowShape (unless (nat_lt MAX_ROW_LENGTH (row_length row)) faults.TooLarge
    (unless held faults.KeyHeld (unless (not there) faults.NoSuchRow (unless taken faults.DuplicateKey None))))) none in
    let b = unless_none (not (fits_key a.0 key.values && fits_table a.0 row)) faults.RowShape
    (unless (nat_lt MAX_ROW_LENGTH (row_length row)) faults.TooLarge (unless held faults.KeyHeld (unless (not there) faults.NoSuchRow (unless taken faults.DuplicateKey None)))) a.2 in
    let d = unless_none (nat_lt MAX_ROW_LENGTH (row_length row)) faults.TooLarge (unless held faults.KeyHeld (unless (not there) faults.NoSuchRow (unless taken faults.DuplicateKey None))) b.1 in
    let e = unless_none held faults.KeyHeld (unless (not there) faults.NoSuchRow (unless taken faults.DuplicateKey None)) d.1 in
    let f = unless_none (not there) faults.NoSuchRow (unless taken faults.DuplicateKey None) e.1 in
    (e.0, f.0)

there_is : (s : StoreState) (h : List Made) (key : Key) → Keeps s h → is_some (row_at s key) ≡ is_there s.tables h key
there_is s h key keeps = ap (λ (r : Option (List Value)). is_some r) (row_is s h key keeps)

pub insert_same : (s : StoreState) (h : List Made) (top oid : ℕ) (row : List Value) → Keeps s h →
    insert_fault s.tables oid row (key_held s top (key_of s.tables oid row)) (is_some (row_at s (key_of s.tables oid row))) ≡ insert_refusal s.tables h top oid row
insert_same s h top oid row keeps =
    ap (λ (a : Bool). insert_fault s.tables oid row a (is_some (row_at s (key_of s.tables oid row)))) (held_key s h top (key_of s.tables oid row) keeps)
    ∙ ap (λ (a : Bool). insert_fault s.tables oid row (is_key_held s.tables top h (key_of s.tables oid row)) a) (there_is s h (key_of s.tables oid row) keeps)

pub delete_same : (s : StoreState) (h : List Made) (top : ℕ) (key : Key) → Keeps s h → delete_fault s.tables key (key_held s top key) (is_some (row_at s key)) ≡ delete_refusal s.tables h top key
delete_same s h top key keeps =
    ap (λ (a : Bool). delete_fault s.tables key a (is_some (row_at s key))) (held_key s h top key keeps)
    ∙ ap (λ (a : Bool). delete_fault s.tables key (is_key_held s.tables top h key) a) (there_is s h key keeps)

pub update_same : (s : StoreState) (h : List Made) (top : ℕ) (key : Key) (row : List Value) → Keeps s h →
    update_fault s.tables key row (key_held s top key || key_held s top (key_of s.tables key.oid row)) (is_some (row_at s key))
    (not (same_key (key_text key) (row_place s.tables key.oid row)) && is_some (row_at s (key_of s.tables key.oid row))) ≡ update_refusal s.tables h top key row
update_same s h top key row keeps =
    let to : Key = key_of s.tables key.oid row in
    let other : Bool = not (same_key (key_text key) (row_place s.tables key.oid row)) in
    ap (λ (a : Bool). update_fault s.tables key row (a || key_held s top to) (is_some (row_at s key)) (other && is_some (row_at s to))) (held_key s h top key keeps)
    ∙ ap (λ (a : Bool). update_fault s.tables key row (is_key_held s.tables top h key || a) (is_some (row_at s key)) (other && is_some (row_at s to))) (held_key s h top to keeps)
    ∙ ap (λ (a : Bool). update_fault s.tables key row (is_key_held s.tables top h key || is_key_held s.tables top h to) a (other && is_some (row_at s to))) (there_is s h key keeps)
    ∙ ap (λ (a : Bool). update_fault s.tables key row (is_key_held s.tables top h key || is_key_held s.tables top h to) (is_there s.tables h key) (other && a)) (there_is s h to keeps)

-- PLACES

-- a key that isn't held
free_key : (s : StoreState) (h : List Made) (top : ℕ) (key : Key) → Keeps s h → key_held s top key ≡ false → AllByRecursion (Off s.tables top (key_text key)) h
free_key s h top key keeps free =
    let none : is_key_held s.tables top h key ≡ false = sym (held_key s h top key keeps) ∙ free in
    free_place s.tables top key.oid (key_text key) h (front_of_key key) (or_left (is_held s.tables top h (table_place key.oid)) (is_held s.tables top h (key_text key)) none)
    (or_right (is_held s.tables top h (table_place key.oid)) (is_held s.tables top h (key_text key)) none)

place_le : (tables : List Table) (oid : ℕ) (row : List Value) → row_length row ≤ MAX_ROW_LENGTH → length (row_place tables oid row) ≤ MAX_KEY_LENGTH
place_le tables oid row le = by_table (table_of oid tables)
  where
    by_table : (o : Option Table) → length (key_text (record { oid = oid; values = key_in o row })) ≤ MAX_KEY_LENGTH
    by_table None = omega (arith, key_length oid [], row_length_is [], le)
    by_table (Some table) = row_key_le oid table.columns row le

pub row_place_le : (tables : List Table) (oid : ℕ) (row : List Value) → FitsRow tables oid row → length (row_place tables oid row) ≤ MAX_KEY_LENGTH
row_place_le tables oid row fits = place_le tables oid row fits.short

-- OIDs are told by their texts
same_oid : (a b : ℕ) → a < 2 ^ 32 → b < 2 ^ 32 → int32 a ≡ int32 b → a ≡ b
same_oid a b small less same =
    let left : ok_or (number_at w32 (int32 a ++ [])) Short ≡ Ok (a, []) = (number32 Short).again a [] small in
    let right : ok_or (number_at w32 (int32 b ++ [])) Short ≡ Ok (b, []) = (number32 Short).again b [] less in
    ap value (sym left ∙ ap (λ (t : List ℕ). ok_or (number_at w32 (t ++ [])) Short) same ∙ right)
  where
    value : Result (ℕ × List ℕ) BodyFault → ℕ
    value (Ok x) = x.0
    value (Err fault) = 0

-- the row that stands at a key has it, and fits
pub record Found (s : StoreState) (key : Key) (old : List Value) : Type 0 where
  pub fits : FitsRow s.tables key.oid old
  pub place : key_text key ≡ row_place s.tables key.oid old

pub found_row : (s : StoreState) (h : List Made) (key : Key) (old : List Value) → key.oid < 2 ^ 32 → Keeps s h → row_at s key ≡ Some old → Found s key old
found_row s h key old small keeps is =
    let home : IsHome s.tables (key_text key) old = stands_home s.tables h (key_text key) old keeps.fits (ap (λ (t : StoredPlace). t.row) (sym (keeps.stands (key_text key))) ∙ is) in
    let same : key.oid ≡ home.oid =
    same_oid key.oid home.oid small home.fits.number (sym (front_of_key key) ∙ ap (take 4) home.place ∙ front_of_row s.tables home.oid old) in
    record { fits = subst (λ (o : ℕ). FitsRow s.tables o old) (sym same) home.fits; place = home.place ∙ ap (λ (o : ℕ). row_place s.tables o old) (sym same) }

-- CHANGES

off_two : (tables : List Table) (top : ℕ) (p q : Put) (h : List Made) → AllByRecursion (Off tables top p.0) h → AllByRecursion (Off tables top q.0) h → AllByRecursion (OffAll tables top (p ∷ q ∷ [])) h
off_two tables top p q [] ps qs = tt
off_two tables top p q (m ∷ h) ps qs = ((ps.0, (qs.0, tt)), off_two tables top p q h ps.1 qs.1)

off_one : (tables : List Table) (top : ℕ) (p : Put) (h : List Made) → AllByRecursion (Off tables top p.0) h → AllByRecursion (OffAll tables top (p ∷ [])) h
off_one tables top p [] ps = tt
off_one tables top p (m ∷ h) ps = ((ps.0, tt), off_one tables top p h ps.1)

pub insert_made : (s new : StoreState) (h : List Made) (top oid : ℕ) (row : List Value) (place : List ℕ) → place ≡ row_place s.tables oid row → FitsRow s.tables oid row →
    insert_fault s.tables oid row (key_held s top (key_of s.tables oid row)) (is_some (row_at s (key_of s.tables oid row))) ≡ None →
    Makes top ((place, Some row) ∷ []) s new → Keeps s h → Keeps new (h ++ change_made top (changes.Insert oid row) ∷ [])
insert_made s new h top oid row place at fits none makes keeps =
    keeps_made s new top (changes.Insert oid row) h (λ k. refl) fits (row_place_le s.tables oid row fits, tt)
    (off_one s.tables top (row_place s.tables oid row, Some row) h
    (free_key s h top (key_of s.tables oid row) keeps (insert_none s.tables oid row (key_held s top (key_of s.tables oid row)) (is_some (row_at s (key_of s.tables oid row))) none).0))
    (subst (λ (p : List ℕ). Makes top ((p, Some row) ∷ []) s new) at makes) keeps

pub delete_made : (s new : StoreState) (h : List Made) (top : ℕ) (key : Key) (place : List ℕ) (change : Change) → key.oid < 2 ^ 32 → place ≡ key_text key →
    delete_fault s.tables key (key_held s top key) (is_some (row_at s key)) ≡ None → DeletesAt s key.oid place change → Makes top ((place, None) ∷ []) s new → Keeps s h →
    Keeps new (h ++ change_made top change ∷ [])
delete_made s new h top key place change small at none deletes makes keeps =
    let was : row_at s key ≡ Some deletes.old = ap (λ (p : List ℕ). (slot_at s.slots p).row) (sym at) ∙ deletes.was in
    let found = found_row s h key deletes.old small keeps was in
    let free = free_key s h top key keeps (delete_none s.tables key (key_held s top key) (is_some (row_at s key)) none).0 in
    subst (λ (x : Change). Keeps new (h ++ change_made top x ∷ [])) (sym deletes.made)
    (keeps_made s new top (changes.Delete key.oid deletes.old) h (λ k. refl) found.fits (row_place_le s.tables key.oid deletes.old found.fits, tt)
    (off_one s.tables top (row_place s.tables key.oid deletes.old, None) h (subst (λ (p : List ℕ). AllByRecursion (Off s.tables top p) h) found.place free))
    (subst (λ (p : List ℕ). Makes top ((p, None) ∷ []) s new) (at ∙ found.place) makes) keeps)

pub delete_fits : (s : StoreState) (h : List Made) (key : Key) (place : List ℕ) (change : Change) → key.oid < 2 ^ 32 → place ≡ key_text key → DeletesAt s key.oid place change → Keeps s h →
    FitsChange s.tables change
delete_fits s h key place change small at deletes keeps =
    subst (FitsChange s.tables) (sym deletes.made) (found_row s h key deletes.old small keeps (ap (λ (p : List ℕ). (slot_at s.slots p).row) (sym at) ∙ deletes.was)).fits

pub delete_is : (s : StoreState) (h : List Made) (key : Key) (place : List ℕ) (change : Change) → place ≡ key_text key → DeletesAt s key.oid place change → Keeps s h → Deletes s.tables h key change
delete_is s h key place change at deletes keeps = record {
  old = deletes.old;
  was = sym (row_is s h key keeps) ∙ ap (λ (p : List ℕ). (slot_at s.slots p).row) (sym at) ∙ deletes.was;
  made = deletes.made;
}

pub update_made : (s new : StoreState) (h : List Made) (top : ℕ) (key : Key) (row : List Value) (from to : List ℕ) (change : Change) → key.oid < 2 ^ 32 → from ≡ key_text key →
    to ≡ row_place s.tables key.oid row → FitsRow s.tables key.oid row →
    update_fault s.tables key row (key_held s top key || key_held s top (key_of s.tables key.oid row)) (is_some (row_at s key))
    (not (same_key (key_text key) (row_place s.tables key.oid row)) && is_some (row_at s (key_of s.tables key.oid row))) ≡ None →
    UpdatesAt s key.oid from row change → Makes top ((from, None) ∷ (to, Some row) ∷ []) s new → Keeps s h → Keeps new (h ++ change_made top change ∷ [])
update_made s new h top key row from to change small at at_to fits none updates makes keeps =
    let was : row_at s key ≡ Some updates.old = ap (λ (p : List ℕ). (slot_at s.slots p).row) (sym at) ∙ updates.was in
    let found = found_row s h key updates.old small keeps was in
    let held : (key_held s top key || key_held s top (key_of s.tables key.oid row)) ≡ false =
    (update_none s.tables key row (key_held s top key || key_held s top (key_of s.tables key.oid row)) (is_some (row_at s key))
    (not (same_key (key_text key) (row_place s.tables key.oid row)) && is_some (row_at s (key_of s.tables key.oid row))) none).0 in
    let free = free_key s h top key keeps (or_left (key_held s top key) (key_held s top (key_of s.tables key.oid row)) held) in
    let free_to = free_key s h top (key_of s.tables key.oid row) keeps (or_right (key_held s top key) (key_held s top (key_of s.tables key.oid row)) held) in
    subst (λ (x : Change). Keeps new (h ++ change_made top x ∷ [])) (sym updates.made)
    (keeps_made s new top (changes.Update key.oid updates.old row) h (λ k. refl) (found.fits, fits)
    (row_place_le s.tables key.oid updates.old found.fits, (row_place_le s.tables key.oid row fits, tt))
    (off_two s.tables top (row_place s.tables key.oid updates.old, None) (row_place s.tables key.oid row, Some row) h
    (subst (λ (p : List ℕ). AllByRecursion (Off s.tables top p) h) found.place free) free_to)
    (subst (λ (p : List ℕ). Makes top ((p, None) ∷ (row_place s.tables key.oid row, Some row) ∷ []) s new) (at ∙ found.place)
    (subst (λ (q : List ℕ). Makes top ((from, None) ∷ (q, Some row) ∷ []) s new) at_to makes)) keeps)

pub update_fits : (s : StoreState) (h : List Made) (key : Key) (row : List Value) (from : List ℕ) (change : Change) → key.oid < 2 ^ 32 → from ≡ key_text key → FitsRow s.tables key.oid row →
    UpdatesAt s key.oid from row change → Keeps s h → FitsChange s.tables change
update_fits s h key row from change small at fits updates keeps =
    subst (FitsChange s.tables) (sym updates.made) ((found_row s h key updates.old small keeps (ap (λ (p : List ℕ). (slot_at s.slots p).row) (sym at) ∙ updates.was)).fits, fits)

pub update_is : (s : StoreState) (h : List Made) (key : Key) (row : List Value) (from : List ℕ) (change : Change) → from ≡ key_text key → UpdatesAt s key.oid from row change → Keeps s h →
    Updates s.tables h key row change
update_is s h key row from change at updates keeps = record {
  old = updates.old;
  was = sym (row_is s h key keeps) ∙ ap (λ (p : List ℕ). (slot_at s.slots p).row) (sym at) ∙ updates.was;
  made = updates.made;
}

-- what is there is not refused for want of a row
pub there_true : (there : Bool) → not there ≡ false → there ≡ true
there_true true is = refl
there_true false is = absurd cc

pub delete_there : (tables : List Table) (key : Key) (held : Bool) (old : Option (List Value)) → delete_fault tables key held (is_some old) ≡ None → IsTrue (is_some old)
delete_there tables key held old none = there_true (is_some old) (delete_none tables key held (is_some old) none).1

pub delete_of : (tables : List Table) (key : Key) (table : Table) (held there : Bool) → Some table ≡ table_of key.oid tables → fits_key table key.values ≡ true →
    delete_fault tables key held there ≡ unless held faults.KeyHeld (unless (not there) faults.NoSuchRow None)
delete_of tables key table held there is fits =
    let rest : Option StoreFault = unless held faults.KeyHeld (unless (not there) faults.NoSuchRow None) in
    ap (λ (o : Option Table). of_table o (λ t. unless (not (fits_key t key.values)) faults.RowShape rest)) (sym is) ∙ ap (λ (a : Bool). unless (not a) faults.RowShape rest) fits

-- a key that is too long: its table may be held
pub long_fault : (s : StoreState) (top : ℕ) (key : Key) → slot_at s.slots (key_text key) ≡ vacant →
    IsRefusal (unless (key_held s top key) faults.KeyHeld (unless (not (is_some (row_at s key))) faults.NoSuchRow None)) (cond (is_other top (slot_at s.slots (table_place key.oid)).owner) faults.KeyHeld faults.NoSuchRow)
long_fault s top key empty = by_test (is_other top (slot_at s.slots (table_place key.oid)).owner) (slot_at s.slots (key_text key)) empty
  where
    by_test : (a : Bool) (t : StoredPlace) → t ≡ vacant →
        IsRefusal (unless (a || is_other top t.owner) faults.KeyHeld (unless (not (is_some t.row)) faults.NoSuchRow None)) (cond a faults.KeyHeld faults.NoSuchRow)
    by_test true t gone = refl
    by_test false t gone =
        let P : StoredPlace → Type 0 = λ x. IsRefusal (unless (is_other top x.owner) faults.KeyHeld (unless (not (is_some x.row)) faults.NoSuchRow None)) faults.NoSuchRow in
        subst P (sym gone) refl

pub update_there : (tables : List Table) (key : Key) (row : List Value) (held taken : Bool) (old : Option (List Value)) → update_fault tables key row held (is_some old) taken ≡ None → IsTrue (is_some old)
update_there tables key row held taken old none = there_true (is_some old) (update_none tables key row held (is_some old) taken none).1

-- S5 passed: what is left
pub keys_left : (s : StoreState) (top : ℕ) (key : Key) (from to : List ℕ) {A : Type 0} (r : Result A StoreFault) → from ≡ key_text key →
    (is_other top (slot_at s.slots (table_place key.oid)).owner || is_other top (slot_at s.slots from).owner) ≡ false →
    (is_other top (slot_at s.slots (table_place key.oid)).owner || is_other top (slot_at s.slots to).owner) ≡ false → RefusedExactly (places_fault s from to) r → RefusedExactly (keys_fault s top key to) r
keys_left s top key from to r at free free_to h =
    let held : key_held s top key ≡ false = subst (λ (k : List ℕ). (is_other top (slot_at s.slots (table_place key.oid)).owner || is_other top (slot_at s.slots k).owner) ≡ false) at free in
    subst (λ (o : Option StoreFault). RefusedExactly o r)
    (sym (ap (λ (a : Bool). unless (a || (is_other top (slot_at s.slots (table_place key.oid)).owner || is_other top (slot_at s.slots to).owner)) faults.KeyHeld (places_fault s (key_text key) to)) held
    ∙ ap (λ (a : Bool). unless a faults.KeyHeld (places_fault s (key_text key) to)) free_to))
    (subst (λ (k : List ℕ). RefusedExactly (places_fault s k to) r) at h)

pub keys_long : (s : StoreState) (top : ℕ) (key : Key) (to : List ℕ) → slot_at s.slots (key_text key) ≡ vacant →
    (is_other top (slot_at s.slots (table_place key.oid)).owner || is_other top (slot_at s.slots to).owner) ≡ false → keys_fault s top key to ≡ Some faults.NoSuchRow
keys_long s top key to empty free =
    ap (λ (t : StoredPlace). unless ((is_other top (slot_at s.slots (table_place key.oid)).owner || is_other top t.owner) || (is_other top (slot_at s.slots (table_place key.oid)).owner || is_other top (slot_at s.slots to).owner)) faults.KeyHeld
    (unless (not (is_some t.row)) faults.NoSuchRow (unless (not (same_key (key_text key) to) && is_some (slot_at s.slots to).row) faults.DuplicateKey None))) empty
    ∙ ap (λ (a : Bool). unless ((a || false) || (is_other top (slot_at s.slots (table_place key.oid)).owner || is_other top (slot_at s.slots to).owner)) faults.KeyHeld (Some faults.NoSuchRow))
    (or_left (is_other top (slot_at s.slots (table_place key.oid)).owner) (is_other top (slot_at s.slots to).owner) free)
    ∙ ap (λ (a : Bool). unless a faults.KeyHeld (Some faults.NoSuchRow)) free

pub short_row : (o : Option ℕ) (n : ℕ) → is_some o ≡ true → MatchOption o (MAX_ROW_LENGTH < n) (λ m. (m ≡ n) × (m ≤ MAX_ROW_LENGTH)) → n ≤ MAX_ROW_LENGTH
short_row None n some h = absurd cc
short_row (Some m) n some h = omega (arith, h.0, h.1)

pub not_longer : (n m : ℕ) → n ≤ m → nat_lt m n ≡ false
not_longer n m le = grind (arith, nat_tests)

pub update_of : (s : StoreState) (top : ℕ) (key : Key) (row : List Value) (table : Table) (to : List ℕ) {A : Type 0} (r : Result A StoreFault) → Some table ≡ table_of key.oid s.tables →
    fits_key table key.values ≡ true → fits_table table row ≡ true → row_length row ≤ MAX_ROW_LENGTH → to ≡ row_place s.tables key.oid row → RefusedExactly (keys_fault s top key to) r →
    RefusedExactly (update_fault s.tables key row (key_held s top key || key_held s top (key_of s.tables key.oid row)) (is_some (row_at s key))
    (not (same_key (key_text key) (row_place s.tables key.oid row)) && is_some (row_at s (key_of s.tables key.oid row)))) r
update_of s top key row table to r is fits fits_row le at h =
    let rest : Option StoreFault = keys_fault s top key (row_place s.tables key.oid row) in
    let tests : Table → Option StoreFault =
    λ t. unless (not (fits_key t key.values && fits_table t row)) faults.RowShape (unless (nat_lt MAX_ROW_LENGTH (row_length row)) faults.TooLarge rest) in
    let whole : of_table (table_of key.oid s.tables) tests ≡ rest =
    ap (λ (o : Option Table). of_table o tests) (sym is)
    ∙ ap (λ (a : Bool). unless (not (a && fits_table table row)) faults.RowShape (unless (nat_lt MAX_ROW_LENGTH (row_length row)) faults.TooLarge rest)) fits
    ∙ ap (λ (a : Bool). unless (not a) faults.RowShape (unless (nat_lt MAX_ROW_LENGTH (row_length row)) faults.TooLarge rest)) fits_row
    ∙ ap (λ (a : Bool). unless a faults.TooLarge rest) (not_longer (row_length row) MAX_ROW_LENGTH le) in
    subst (λ (o : Option StoreFault). RefusedExactly o r) (sym whole) (subst (λ (k : List ℕ). RefusedExactly (keys_fault s top key k) r) at h)

-- a message concerns no place
all_apart : (tables : List Table) (top : ℕ) (h : List Made) → AllByRecursion (OffAll tables top []) h
all_apart tables top [] = tt
all_apart tables top (m ∷ h) = (tt, all_apart tables top h)

pub message_made : (s new : StoreState) (h : List Made) (top : ℕ) (message : Message) → FitsMessage message → Makes top [] s new → Keeps s h → Keeps new (h ++ change_made top (changes.Message message) ∷ [])
message_made s new h top message fits makes keeps = keeps_made s new top (changes.Message message) h (λ k. refl) fits tt (all_apart s.tables top h) makes keeps
