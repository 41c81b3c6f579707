-- How a store empties tables: the row at each of their places goes and the place is held, as is each table's own place.
-- Callers need not look here.
use Rattle.std.specs.Prelude.{◌≡◌, ℕ, ◌≤◌, ◌==◌, ◌∷◌, ◌++◌, [], Bool, true, false, ◌&&◌, ◌||◌, is_some, List, length, None, Some, if◌then◌else◌}
use Rattle.std.specs.List.{AllByRecursion}
use Rattle.store.specs.declared.places.key.TheConstants.{MAX_KEY_LENGTH}
use Rattle.store.specs.declared.places.stored_place.StoredPlace.{StoredPlace}
use Rattle.store.specs.declared.places.stored_place.Undo.{Undo}
use Rattle.tables.specs.declared.changes.change.Change.{Change}
use Rattle.store.specs.Slots.{same_key, Entries, slot_at, undone_at, CanUndo}
use Rattle.store.specs.History.{change_made, is_other, is_within}
use Rattle.store.specs.Keeping.{StoreState, journal_of, all_emptied, put_at, emptied_slot, touches, slot_by, AreShort}

-- each slot stands at its place: no place has two
abbrev pub AreAtPlace : Entries → Type 0
AreAtPlace slots = AllByRecursion (λ e. slot_at slots e.0 ≡ e.1) slots

-- another transaction holds one of these tables, or a key of one
abbrev pub is_other_within : ℕ → List ℕ → Entries → Bool
is_other_within top oids [] = false
is_other_within top oids (e ∷ slots) = (is_other top e.1.owner && is_within oids e.0) || is_other_within top oids slots

-- the places of these tables at which a row stands
abbrev pub filled_within : List ℕ → Entries → List (List ℕ)
filled_within oids [] = []
filled_within oids (e ∷ slots) =
    if is_some e.1.row && is_within oids e.0 then e.0 ∷ filled_within oids slots else filled_within oids slots

-- the slot at a place once a transaction has taken the rows at these places away, and once it has emptied tables
abbrev pub taken_at : ℕ → List (List ℕ) → List ℕ → StoredPlace → StoredPlace
taken_at top [] place slot = slot
taken_at top (p ∷ places) place slot = taken_at top places place (if same_key place p then record { row = None; owner = Some top } else slot)

abbrev pub emptied_at : ℕ → List ℕ → List ℕ → StoredPlace → StoredPlace
emptied_at top oids place slot = put_at (Some top) (all_emptied oids) place (if is_within oids place then emptied_slot (Some top) slot else slot)

-- A place of these tables. It is short, if those that were there are.
pub record IsOf (oids : List ℕ) (slots : Entries) (place : List ℕ) : Type 0 where
  pub within : is_within oids place ≡ true
  pub short : AreShort slots → length place ≤ MAX_KEY_LENGTH

-- What was noted, all of it of these tables, restores what stood.
pub record AreNoted (oids : List ℕ) (old new : Entries) (undos : List Undo) : Type 0 where
  pub restore : (place : List ℕ) → undone_at undos place (slot_at new place) ≡ slot_at old place
  pub undoable : CanUndo undos (slot_at new)
  pub within : AllByRecursion (λ u. is_within oids u.key ≡ true) undos
  pub short : AreShort old → AreShort new

-- A transaction's change was made, and noted in its journal so that it can be undone.
pub record Does (top : ℕ) (change : Change) (old new : StoreState) : Type 0 where
  pub undos : List Undo
  pub tables : new.tables ≡ old.tables
  pub slots : (place : List ℕ) → slot_at new.slots place ≡ slot_by old.tables (change_made top change) place (slot_at old.slots place)
  pub restore : (place : List ℕ) → undone_at undos place (slot_at new.slots place) ≡ slot_at old.slots place
  pub touched : AllByRecursion (λ u. touches old.tables change u.key ≡ true) undos
  pub undoable : CanUndo undos (slot_at new.slots)
  pub short : AreShort old.slots → AreShort new.slots
  pub journals : (x : ℕ) → journal_of x new.journals ≡ (if top == x then journal_of x old.journals ++ undos ∷ [] else journal_of x old.journals)
