-- What a start says of a slot: the word that names one or none, and what becomes of that slot.
use Rattle.std.specs.Prelude.{ℕ, max, not, is_some, codes, Bool, false, List, [], ◌∷◌, Option, Some, None, if◌then◌else◌}
use Rattle.std.specs.Str.{bytes_eq}
use Rattle.slots.specs.declared.by_name.slot.Slot.{Slot}
use Rattle.slots.specs.State.{SlotsState, confirmed_of, is_in_use, slot_of, slots_after_claim, slots_after_raise_by_name, slots_after_release_by_name}

-- the slot that a start names; `-` is none
abbrev pub slot_named : List ℕ → Option (List ℕ)
slot_named word = if bytes_eq word (codes "-") then None else Some word

abbrev pub is_missing : Option (List ℕ) → SlotsState → Bool
is_missing None slots = false
is_missing (Some name) slots = not (is_some (slot_of name slots.slots))

abbrev pub is_held : Option (List ℕ) → SlotsState → Bool
is_held None slots = false
is_held (Some name) slots = is_in_use (slot_of name slots.slots)

-- a slot that is taken; the stream begins where it is confirmed, if that is further
abbrev pub slots_after_taking : Option (List ℕ) → SlotsState → SlotsState
slots_after_taking None slots = slots
slots_after_taking (Some name) slots = slots_after_claim name slots

abbrev pub start_from : Option (List ℕ) → ℕ → SlotsState → ℕ
start_from None position slots = position
start_from (Some name) position slots = max position (confirmed_of (slot_of name slots.slots))

-- how far the first of these of this name is confirmed
abbrev pub confirmed_in : List ℕ → List Slot → ℕ
confirmed_in name [] = 0
confirmed_in name (s ∷ slots) = if bytes_eq s.name name then s.confirmed else confirmed_in name slots

-- a start without a slot confirms nothing
abbrev pub slots_after_confirming : Option (List ℕ) → ℕ → SlotsState → SlotsState
slots_after_confirming None position slots = slots
slots_after_confirming (Some name) position slots = slots_after_raise_by_name name position slots

-- the slot is free again
abbrev pub slots_after_letting_go : Option (List ℕ) → SlotsState → SlotsState
slots_after_letting_go None slots = slots
slots_after_letting_go (Some name) slots = slots_after_release_by_name name slots
