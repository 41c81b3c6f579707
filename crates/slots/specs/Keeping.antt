-- How the slots are kept: each name with its place in a directory, and in a list with its confirmed position; whether a place is held stands in the steps of the seat.
use Rattle.std.specs.Prelude.{◌≡◌, ℕ, ◌<◌, ◌≤◌, ◌==◌, ◌⊎◌, cond, List, [], ◌∷◌, map, Option, Some, None, if◌then◌else◌}
use Rattle.std.specs.List.{AllByRecursion, Contains}
use Rattle.std.specs.Str.{bytes_eq}
use Rattle.slots.specs.declared.by_name.directory.Directory.{Directory}
use Rattle.slots.specs.declared.words_kept.standing.Standing.TheVariants.{Dropped}
use Rattle.slots.specs.declared.words_kept.step.SeatView.{SeatView}
use Rattle.slots.specs.Directories as names
use Rattle.slots.specs.Facts.{facts}
use Rattle.slots.specs.Standings.{held_by, word_of}
use Rattle.slots.specs.declared.by_name.slot.Slot.{Slot}
use Rattle.slots.specs.declared.table.TheConstants.{PLACES}
use Rattle.slots.specs.State.{NamedSlot, SlotsState}

abbrev pub shown_slot : SeatView → Slot → NamedSlot
shown_slot v s = record { name = s.name; place = s.place; confirmed = s.confirmed; is_held = (facts s.place v.steps).held }

abbrev pub slots_in_view : SeatView → List Slot → ℕ → SlotsState
slots_in_view v slots places = record { slots = map (shown_slot v) slots; places = places }

-- what is lent of a slot
abbrev pub confirmed_slot : NamedSlot → Slot
confirmed_slot s = record { name = s.name; place = s.place; confirmed = s.confirmed }

abbrev pub slot_with_noted_position : ℕ → ℕ → Slot → Slot
slot_with_noted_position place confirmed s = if s.place == place then record s { confirmed = confirmed } else s

-- the place of the slot of this name
abbrev pub place_in : List ℕ → List Slot → Option ℕ
place_in name [] = None
place_in name (s ∷ slots) = if bytes_eq s.name name then Some s.place else place_in name slots

-- The directory and the list have the same names, no place has two of them, and each of these places is used up.
pub record IsNamed (d : Directory) (slots : List Slot) (places : ℕ) : Type 0 where
  pub same : (name : List ℕ) → names.place_of d name ≡ place_in name slots
  pub listed : AllByRecursion (λ (s : Slot). names.place_of d s.name ≡ Some s.place) slots
  pub one : (name other : List ℕ) (p : ℕ) → names.place_of d name ≡ Some p → names.place_of d other ≡ Some p → name ≡ other
  pub below : (name : List ℕ) (p : ℕ) → names.place_of d name ≡ Some p → p < places

-- the seat left the slot's place held or free, and its position as it is noted
abbrev pub Stands : SeatView → Slot → Type 0
Stands v s = (s.confirmed ≡ (facts s.place v.steps).position) × ((facts s.place v.steps).state ≡ cond (facts s.place v.steps).held (held_by v.number) 1)

abbrev pub places_in : List Slot → List ℕ
places_in slots = map (λ (s : Slot). s.place) slots

-- a place that is used up is a slot's, or was dropped
abbrev pub IsUsedUp : SeatView → List Slot → ℕ → Type 0
IsUsedUp v slots place = Contains (places_in slots) place ⊎ ((facts place v.steps).state ≡ word_of Dropped)

-- What the only seat of a table has left: the places were made one after the other, and each slot stands at one of them.
pub record StandsIn (v : SeatView) (slots : List Slot) (places : ℕ) : Type 0 where
  pub alone : v.seats ≡ 1
  pub few : places ≤ PLACES
  pub used : (p : ℕ) → p < places → IsUsedUp v slots p
  pub unused : (p : ℕ) → places ≤ p → ((facts p v.steps).state ≡ 0) × ((facts p v.steps).position ≡ 0)
  pub each : AllByRecursion (Stands v) slots
