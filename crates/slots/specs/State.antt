-- Slots by name: which there are, how far each is confirmed, whether it is in use, and what each call does to them.
use Rattle.std.specs.Prelude.{◌≡◌, ℕ, ◌+◌, ◌==◌, max, Bool, true, false, is_some, List, [], ◌∷◌, ◌++◌, map, Option, Some, None, option_map, Result, Ok, Err, if◌then◌else◌}
use Rattle.std.specs.List.{AllByRecursion}
use Rattle.std.specs.Str.{bytes_eq}
use Rattle.slots.specs.declared.fault.SlotFault.{SlotFault}
use Rattle.slots.specs.declared.fault.SlotFault.TheVariants as faults
use Rattle.slots.specs.declared.table.TheConstants.{PLACES}

-- A slot, at its place in the table. Whoever holds it has a lease of that place.
pub record NamedSlot : Type 0 where
  pub name : List ℕ
  pub place : ℕ
  pub confirmed : ℕ
  pub is_held : Bool

-- The slots in the order in which they were created. The places that are used up are those of the slots, and those whose names were refused for memory.
pub record SlotsState : Type 0 where
  pub slots : List NamedSlot
  pub places : ℕ

abbrev pub no_slots : SlotsState
no_slots = record { slots = []; places = 0 }

-- the slot of this name
abbrev pub slot_of : List ℕ → List NamedSlot → Option NamedSlot
slot_of name [] = None
slot_of name (s ∷ slots) = if bytes_eq s.name name then Some s else slot_of name slots

-- the slot at this place
abbrev pub slot_at : ℕ → List NamedSlot → Option NamedSlot
slot_at place [] = None
slot_at place (s ∷ slots) = if s.place == place then Some s else slot_at place slots

abbrev pub place_of : List ℕ → SlotsState → Option ℕ
place_of name s = option_map (λ t. t.place) (slot_of name s.slots)

abbrev pub confirmed_of : Option NamedSlot → ℕ
confirmed_of None = 0
confirmed_of (Some s) = s.confirmed

abbrev pub is_in_use : Option NamedSlot → Bool
is_in_use None = false
is_in_use (Some s) = s.is_held

-- the slot at this place is held
abbrev pub holds_at : ℕ → SlotsState → Bool
holds_at place s = is_in_use (slot_at place s.slots)

-- the slot of this name stands at this place, and no other does
abbrev pub IsOnlyAt : List ℕ → ℕ → List NamedSlot → Type 0
IsOnlyAt name place slots = AllByRecursion (λ (s : NamedSlot). bytes_eq s.name name ≡ (s.place == place)) slots

-- no slot has this name
abbrev pub IsUnnamed : List ℕ → List NamedSlot → Type 0
IsUnnamed name slots = AllByRecursion (λ (s : NamedSlot). bytes_eq s.name name ≡ false) slots

-- what stands at this place is held, or isn't
abbrev pub IsHeldAs : Bool → ℕ → List NamedSlot → Type 0
IsHeldAs is_held place slots = AllByRecursion (λ (s : NamedSlot). s.place ≡ place → s.is_held ≡ is_held) slots

-- ---- What the calls do.

-- a new slot has the place after those that are used up
abbrev pub slots_after_create : List ℕ → ℕ → SlotsState → SlotsState
slots_after_create name position s = record { slots = s.slots ++ record { name = name; place = s.places; confirmed = position; is_held = false } ∷ []; places = s.places + 1 }

abbrev pub if_named : List ℕ → (NamedSlot → NamedSlot) → NamedSlot → NamedSlot
if_named name change s = if bytes_eq s.name name then change s else s

abbrev pub if_at : ℕ → (NamedSlot → NamedSlot) → NamedSlot → NamedSlot
if_at place change s = if s.place == place then change s else s

abbrev pub slot_with_hold : Bool → NamedSlot → NamedSlot
slot_with_hold is_held s = record s { is_held = is_held }

-- a confirmed position never goes back
abbrev pub slot_with_confirmed : ℕ → NamedSlot → NamedSlot
slot_with_confirmed position s = record s { confirmed = max s.confirmed position }

abbrev pub slots_after_claim : List ℕ → SlotsState → SlotsState
slots_after_claim name s = record s { slots = map (if_named name (slot_with_hold true)) s.slots }

abbrev pub slots_after_raise : ℕ → ℕ → SlotsState → SlotsState
slots_after_raise place position s = record s { slots = map (if_at place (slot_with_confirmed position)) s.slots }

abbrev pub slots_after_release : ℕ → SlotsState → SlotsState
slots_after_release place s = record s { slots = map (if_at place (slot_with_hold false)) s.slots }

-- the same, of the slot of this name
abbrev pub slots_after_raise_by_name : List ℕ → ℕ → SlotsState → SlotsState
slots_after_raise_by_name name position s = record s { slots = map (if_named name (slot_with_confirmed position)) s.slots }

abbrev pub slots_after_release_by_name : List ℕ → SlotsState → SlotsState
slots_after_release_by_name name s = record s { slots = map (if_named name (slot_with_hold false)) s.slots }

-- ---- Refusals.

abbrev pub create_refusal : List ℕ → SlotsState → Option SlotFault
create_refusal name s = if is_some (slot_of name s.slots) then Some faults.Exists else if s.places == PLACES then Some faults.NoPlace else None

abbrev pub claim_refusal_of : Option NamedSlot → Option SlotFault
claim_refusal_of None = Some faults.Missing
claim_refusal_of (Some s) = if s.is_held then Some faults.InUse else None

abbrev pub claim_refusal : List ℕ → SlotsState → Option SlotFault
claim_refusal name s = claim_refusal_of (slot_of name s.slots)

-- a refused create changes nothing, but a name that is refused for memory has used up a place
abbrev pub slots_after_refusal : SlotFault → SlotsState → SlotsState
slots_after_refusal faults.Memory s = record s { places = s.places + 1 }
slots_after_refusal fault s = s

abbrev pub IsRefusalOrMemory : Option SlotFault → SlotFault → Type 0
IsRefusalOrMemory refusal faults.Memory = refusal ≡ None
IsRefusalOrMemory refusal fault = refusal ≡ Some fault

-- a call answers its refusal; without one it is Ok, or memory was refused
abbrev pub RefusedOrMemory : {A : Type 0} → Option SlotFault → Result A SlotFault → Type 0
RefusedOrMemory refusal (Ok x) = refusal ≡ None
RefusedOrMemory refusal (Err fault) = IsRefusalOrMemory refusal fault

-- a call is Ok exactly where there is no refusal
abbrev pub RefusedExactly : {A : Type 0} → Option SlotFault → Result A SlotFault → Type 0
RefusedExactly refusal (Ok x) = refusal ≡ None
RefusedExactly refusal (Err fault) = refusal ≡ Some fault
