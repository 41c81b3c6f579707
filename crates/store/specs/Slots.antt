-- What stands at each place of a store: at a key its row, and who holds it. Places are texts.
use Rattle.std.specs.Prelude.{◌≡◌, ℕ, Bool, true, ◌||◌, nat_eq, List, [], ◌∷◌, None, is_some, unwrap_or, Vec, if◌then◌else◌}
use Rattle.std.specs.Cmp.Lexicographic.{pointwise}
use Rattle.std.specs.List.{AllByRecursion}
use Rattle.std.specs.Map.{lookup}
use Rattle.indexmap.specs.IndexMap.{insert_entry}
use Rattle.store.specs.declared.places.stored_place.StoredPlace.{StoredPlace}
use Rattle.store.specs.declared.places.stored_place.Undo.{Undo}

abbrev pub same_key : List ℕ → List ℕ → Bool
same_key = pointwise nat_eq

abbrev pub vacant : StoredPlace
vacant = record { row = None; owner = None }

abbrev pub Entries : Type 0
Entries = List (List ℕ × StoredPlace)

-- the texts of keys that are kept as vectors
abbrev pub entries_of : {A : Type 0} → List (Vec ℕ A × StoredPlace) → Entries
entries_of [] = []
entries_of (e ∷ es) = (e.0.items, e.1) ∷ entries_of es

-- what stands at a place; one that was never used is vacant
abbrev pub slot_at : Entries → List ℕ → StoredPlace
slot_at slots key = unwrap_or (lookup (same_key key) slots) vacant

-- a slot is put at a place
abbrev pub slots_with : List ℕ → StoredPlace → Entries → Entries
slots_with key slot slots = insert_entry same_key slots key slot

-- a transaction holds the place, or a row stands at it
abbrev pub is_used : StoredPlace → Bool
is_used slot = is_some slot.owner || is_some slot.row

-- A store keeps no place that is vacant.
abbrev pub AreUsed : Entries → Type 0
AreUsed slots = AllByRecursion (λ e. is_used e.1 ≡ true) slots

-- the slot at a place after a change is undone, the last of its places first
abbrev pub undone_at : List Undo → List ℕ → StoredPlace → StoredPlace
undone_at [] key slot = slot
undone_at (u ∷ us) key slot = if same_key key u.key then u.before else undone_at us key slot

-- A change can be undone without memory: each of its places is used when it is put back.
abbrev pub CanUndo : List Undo → (List ℕ → StoredPlace) → Type 0
CanUndo [] at = Unit {0}
CanUndo (u ∷ us) at = (is_used (undone_at us u.key (at u.key)) ≡ true) × CanUndo us at
