-- How a store keeps a history: a slot at each place, and for each live transaction a journal of what stood at the places
-- that it changed. Callers need not look here.
use Rattle.std.specs.Prelude.{◌≡◌, ℕ, ◌≤◌, ◌==◌, ◌∷◌, ◌++◌, [], Bool, true, false, ◌||◌, ◌&&◌, not, is_some, List, length, nat_eq, Option, Some, None, Result, Ok, Err, unwrap_or, if◌then◌else◌}
use Rattle.std.specs.List.{list_any, AllByRecursion}
use Rattle.std.specs.Map.{lookup}
use Rattle.store.specs.declared.places.key.TheConstants.{MAX_KEY_LENGTH}
use Rattle.store.specs.declared.places.stored_place.StoredPlace.{StoredPlace}
use Rattle.store.specs.declared.places.stored_place.Undo.{Undo}
use Rattle.tables.specs.declared.kinds.Value.{Value}
use Rattle.tables.specs.declared.table.Table.{Table}
use Rattle.tables.specs.declared.changes.change.Change.{Change}
use Rattle.tables.specs.declared.changes.change.Change.TheVariants as changes
use Rattle.store.specs.declared.store_fault.StoreFault.{StoreFault}
use Rattle.store.specs.declared.store_fault.StoreFault.TheVariants as faults
use Rattle.store.specs.Slots.{same_key, vacant, Entries, slot_at, slots_with, undone_at, CanUndo}
use Rattle.tables.specs.Tables.{FitsChange}
use Rattle.store.specs.Rows.{Key, key_text}
use Rattle.store.specs.History.{Made, unless, is_top, is_other, owner_after_end, is_within, row_place, table_place}

abbrev pub Journals : Type 0
Journals = List (ℕ × List (List Undo))

-- what contracts see of a store
pub record StoreState : Type 0 where
  pub tables : List Table
  pub slots : Entries
  pub journals : Journals

-- the changes of a transaction, each with what stood at its places; none where it has no journal
abbrev pub journal_of : ℕ → Journals → List (List Undo)
journal_of top journals = unwrap_or (lookup (nat_eq top) journals) []

-- SLOTS

-- A place, and the row that is put there.
abbrev pub Put : Type 0
Put = List ℕ × Option (List Value)

abbrev pub emptied_place : ℕ → Put
emptied_place oid = (table_place oid, None)

abbrev pub all_emptied : List ℕ → List Put
all_emptied [] = []
all_emptied (oid ∷ oids) = emptied_place oid ∷ all_emptied oids

abbrev pub puts_of : List Table → Change → List Put
puts_of tables (changes.Insert oid row) = (row_place tables oid row, Some row) ∷ []
puts_of tables (changes.Update oid old row) = (row_place tables oid old, None) ∷ (row_place tables oid row, Some row) ∷ []
puts_of tables (changes.Delete oid old) = (row_place tables oid old, None) ∷ []
puts_of tables (changes.Truncate oids) = all_emptied oids
puts_of tables (changes.Message message) = []

abbrev pub put_at : Option ℕ → List Put → List ℕ → StoredPlace → StoredPlace
put_at top [] place slot = slot
put_at top (p ∷ ps) place slot = put_at top ps place (if same_key place p.0 then record { row = p.1; owner = top } else slot)

-- the same of all slots, and what stood at each place before
abbrev pub put_all : Option ℕ → List Put → Entries → Entries
put_all top [] slots = slots
put_all top (p ∷ ps) slots = put_all top ps (slots_with p.0 (record { row = p.1; owner = top }) slots)

abbrev pub noted_of : Option ℕ → List Put → Entries → List Undo
noted_of top [] slots = []
noted_of top (p ∷ ps) slots =
    record { key = p.0; before = slot_at slots p.0 } ∷ noted_of top ps (slots_with p.0 (record { row = p.1; owner = top }) slots)

-- a row that is taken away is held; where none stands nothing changes
abbrev pub emptied_slot : Option ℕ → StoredPlace → StoredPlace
emptied_slot top slot = if is_some slot.row then record { row = None; owner = top } else slot

abbrev pub slot_after_emptying : Option ℕ → Change → List ℕ → StoredPlace → StoredPlace
slot_after_emptying top (changes.Truncate oids) place slot = if is_within oids place then emptied_slot top slot else slot
slot_after_emptying top change place slot = slot

-- the slot at a place after a change, and after those of a history
abbrev pub slot_by : List Table → Made → List ℕ → StoredPlace → StoredPlace
slot_by tables m place slot = put_at m.top (puts_of tables m.change) place (slot_after_emptying m.top m.change place slot)

abbrev pub slot_from : List Table → List Made → List ℕ → StoredPlace → StoredPlace
slot_from tables [] place slot = slot
slot_from tables (m ∷ ms) place slot = slot_from tables ms place (slot_by tables m place slot)

-- the slot at a place once a transaction has ended
abbrev pub slot_after_end : ℕ → StoredPlace → StoredPlace
slot_after_end top slot = record slot { owner = owner_after_end top slot.owner }

-- whether something was noted of a place
abbrev pub is_noted : List ℕ → List Undo → Bool
is_noted place undos = list_any (λ u. same_key place u.key) undos

abbrev pub is_in_journal : List ℕ → List (List Undo) → Bool
is_in_journal place journal = list_any (is_noted place) journal

-- whether a change may alter the slot at a place
abbrev pub is_put : List ℕ → List Put → Bool
is_put place puts = list_any (λ p. same_key place p.0) puts

abbrev pub is_emptied : Change → List ℕ → Bool
is_emptied (changes.Truncate oids) place = is_within oids place
is_emptied change place = false

abbrev pub touches : List Table → Change → List ℕ → Bool
touches tables change place = is_put place (puts_of tables change) || is_emptied change place

-- JOURNALS

-- undoing a change leaves what stood before it, takes no memory, and concerns its places alone
pub record IsUndo (tables : List Table) (m : Made) (before : List ℕ → StoredPlace) (undos : List Undo) : Type 0 where
  pub restores : (place : List ℕ) → undone_at undos place (slot_by tables m place (before place)) ≡ before place
  pub undoable : CanUndo undos (λ place. slot_by tables m place (before place))
  pub touched : AllByRecursion (λ u. touches tables m.change u.key ≡ true) undos

abbrev pub OwnFirst : (List Undo → Type 0) → (List (List Undo) → Type 0) → Bool → List (List Undo) → Type 0
OwnFirst First Rest false notes = Rest notes
OwnFirst First Rest true [] = ⊥
OwnFirst First Rest true (undos ∷ notes) = First undos × Rest notes

-- the journal has one entry for each change of the transaction, in order
abbrev pub AreNotes : List Table → ℕ → List Made → (List ℕ → StoredPlace) → List (List Undo) → Type 0
AreNotes tables top [] before notes = notes ≡ []
AreNotes tables top (m ∷ ms) before notes =
    OwnFirst (IsUndo tables m before) (AreNotes tables top ms (λ place. slot_by tables m place (before place))) (is_top top m.top) notes

-- A transaction that lives keeps others off what it touched.
abbrev pub Follows : Option ℕ → Option ℕ → Type 0
Follows None later = Unit {0}
Follows (Some top) later = later ≡ Some top

abbrev pub KeepsOff : List Table → Made → Made → Type 0
KeepsOff tables m n = (place : List ℕ) → touches tables m.change place ≡ true → touches tables n.change place ≡ true → Follows m.top n.top

abbrev pub AreApart : List Table → List Made → Type 0
AreApart tables [] = Unit {0}
AreApart tables (m ∷ ms) = AllByRecursion (KeepsOff tables m) ms × AreApart tables ms

-- THE STORE

abbrev pub nothing_at : List ℕ → StoredPlace
nothing_at place = vacant

pub record Keeps (s : StoreState) (history : List Made) : Type 0 where
  pub stands : (place : List ℕ) → slot_at s.slots place ≡ slot_from s.tables history place vacant
  pub notes : (top : ℕ) → AreNotes s.tables top history nothing_at (journal_of top s.journals)
  pub apart : AreApart s.tables history
  pub short : AllByRecursion (λ e. length e.0 ≤ MAX_KEY_LENGTH) s.slots
  pub fits : AllByRecursion (λ m. FitsChange s.tables m.change) history

abbrev pub AreShort : Entries → Type 0
AreShort slots = AllByRecursion (λ e. length e.0 ≤ MAX_KEY_LENGTH) slots

-- the same stands at each place
pub record SameSlots (old new : Entries) : Type 0 where
  pub slots : (place : List ℕ) → slot_at new place ≡ slot_at old place
  pub short : AreShort old → AreShort new

-- a transaction's rows were put, and noted in its journal
pub record Makes (top : ℕ) (puts : List Put) (old new : StoreState) : Type 0 where
  pub tables : new.tables ≡ old.tables
  pub slots : new.slots ≡ put_all (Some top) puts old.slots
  pub journals : (x : ℕ) → journal_of x new.journals ≡
      (if top == x then journal_of x old.journals ++ noted_of (Some top) puts old.slots ∷ [] else journal_of x old.journals)

pub record IsSame (old new : StoreState) : Type 0 where
  pub tables : new.tables ≡ old.tables
  pub slots : SameSlots old.slots new.slots
  pub journals : (x : ℕ) → journal_of x new.journals ≡ journal_of x old.journals

-- the same of the slots
abbrev pub key_held : StoreState → ℕ → Key → Bool
key_held s top key = is_other top (slot_at s.slots (table_place key.oid)).owner || is_other top (slot_at s.slots (key_text key)).owner

abbrev pub row_at : StoreState → Key → Option (List Value)
row_at s key = (slot_at s.slots (key_text key)).row

-- S4 and S3 of an update, and S5 before them
abbrev pub places_fault : StoreState → List ℕ → List ℕ → Option StoreFault
places_fault s from to =
    unless (not (is_some (slot_at s.slots from).row)) faults.NoSuchRow
    (unless (not (same_key from to) && is_some (slot_at s.slots to).row) faults.DuplicateKey None)

abbrev pub keys_fault : StoreState → ℕ → Key → List ℕ → Option StoreFault
keys_fault s top key to =
    unless (key_held s top key || (is_other top (slot_at s.slots (table_place key.oid)).owner || is_other top (slot_at s.slots to).owner)) faults.KeyHeld
    (places_fault s (key_text key) to)

-- A call answers its refusal; without one it is Ok, or memory was refused.
abbrev pub IsRefusalOrMemory : Option StoreFault → StoreFault → Type 0
IsRefusalOrMemory refusal faults.Memory = refusal ≡ None
IsRefusalOrMemory refusal fault = refusal ≡ Some fault

abbrev pub RefusedOrMemory : {A : Type 0} → Option StoreFault → Result A StoreFault → Type 0
RefusedOrMemory refusal (Ok x) = refusal ≡ None
RefusedOrMemory refusal (Err fault) = IsRefusalOrMemory refusal fault

-- a test of a call: it is Ok exactly where there is no refusal, and takes no memory
abbrev pub IsRefusal : Option StoreFault → StoreFault → Type 0
IsRefusal refusal faults.Memory = ⊥
IsRefusal refusal fault = refusal ≡ Some fault

abbrev pub RefusedExactly : {A : Type 0} → Option StoreFault → Result A StoreFault → Type 0
RefusedExactly refusal (Ok x) = refusal ≡ None
RefusedExactly refusal (Err fault) = IsRefusal refusal fault

-- the change that was made of the row at a place
pub record DeletesAt (s : StoreState) (oid : ℕ) (place : List ℕ) (change : Change) : Type 0 where
  pub old : List Value
  pub was : (slot_at s.slots place).row ≡ Some old
  pub made : change ≡ changes.Delete oid old

pub record UpdatesAt (s : StoreState) (oid : ℕ) (place : List ℕ) (row : List Value) (change : Change) : Type 0 where
  pub old : List Value
  pub was : (slot_at s.slots place).row ≡ Some old
  pub made : change ≡ changes.Update oid old row
