-- What the calls of a table say of the seat that makes them.
use Rattle.std.specs.Prelude.{◌≡◌, ℕ, suc, ◌<◌, true, cond, ◌==◌, List, [], length, ◌∷◌, ◌++◌, max}
use mathlib.Core.Option.{some}
use lib.ListN.{get_elem?}
use Rattle.slots.specs.declared.fault.SlotFault.{SlotFault}
use Rattle.slots.specs.declared.fault.SlotFault.TheVariants.{Missing, InUse}
use Rattle.slots.specs.declared.words_kept.step.SlotKind.{SlotKind}
use Rattle.slots.specs.declared.words_kept.step.SlotKind.TheVariants.{Create, Raise, Release}
use Rattle.slots.specs.declared.words_kept.step.SlotStep.{SlotStep}
use Rattle.slots.specs.declared.words_kept.step.SeatView.{SeatView}
use Rattle.slots.specs.Facts.{facts}
use Rattle.slots.specs.Rule.{Slots, StandsAs, FollowsOn, slot_step, with_step}
use Rattle.slots.specs.Standings.{held_by}

-- the seat of this view holds the place: it took it, and didn't release it since
abbrev pub Holds : ℕ → SeatView → Type 0
Holds place v = (facts place v.steps).held ≡ true

-- two seats that hold one place are one seat
abbrev pub HasOneHolder : Slots → Type 0
HasOneHolder s = (p j k : ℕ) (v w : SeatView) → get_elem? s.views j ≡ some v → get_elem? s.views k ≡ some w → Holds p v → Holds p w → j ≡ k

abbrev pub with_steps : SeatView → List SlotStep → SeatView
with_steps v ss = record { number = v.number; seats = v.seats; steps = v.steps ++ ss }

-- one step more on the state word, and what the seat knew of it
abbrev pub Did : SlotKind → ℕ → ℕ → ℕ → SeatView → SeatView → Type 0
Did kind place found left old new = (new ≡ with_step old (slot_step kind place found left)) × StandsAs old place found

-- one step more on the position, and what the seat knew of it
abbrev pub DidAt : SlotKind → ℕ → ℕ → ℕ → SeatView → SeatView → Type 0
DidAt kind place found left old new = (new ≡ with_step old (slot_step kind place found left)) × FollowsOn old place found

-- what a claim or a drop of a place answers that it found in this word; a free one isn't refused
abbrev pub IsRefusal : SlotFault → ℕ → Type 0
IsRefusal e found = cond (found == 0) (e ≡ Missing) (cond (found == 2) (e ≡ Missing) ((2 < found) × (e ≡ InUse)))

-- the steps of a create at the places from `place` on, which found these words there, none of them 0
abbrev pub steps_past : ℕ → List ℕ → List SlotStep
steps_past place [] = []
steps_past place (found ∷ founds) = slot_step Create place found found ∷ steps_past (suc place) founds

-- the steps of a create that took this place, raised it to the position and released it
abbrev pub steps_of_create : ℕ → ℕ → List ℕ → ℕ → ℕ → List SlotStep
steps_of_create place seat founds found position = steps_past 0 founds ++ slot_step Create place 0 (held_by seat) ∷ slot_step Raise place found (max found position) ∷ slot_step Release place (held_by seat) 1 ∷ []

-- a create found these words at the places from `place` on, and none of them was 0
abbrev pub AreTaken : SeatView → ℕ → List ℕ → Type 0
AreTaken v place [] = Unit {0}
AreTaken v place (found ∷ founds) = (found ≡ 0 → ⊥) × StandsAs v place found × AreTaken v (suc place) founds

-- a create took this place, the first that was never made
pub record Created (old : SeatView) (position place : ℕ) (new : SeatView) : Type 0 where
  pub founds : List ℕ
  pub count : length founds ≡ place
  pub taken : AreTaken old 0 founds
  pub never : StandsAs old place 0
  pub found : ℕ
  pub follows : FollowsOn old place found
  pub steps : new ≡ with_steps old (steps_of_create place old.number founds found position)

-- a slot was made at this place, which had never been made
pub record Made (old : SeatView) (position place : ℕ) (new : SeatView) : Type 0 where
  pub never : StandsAs old place 0
  pub found : ℕ
  pub follows : FollowsOn old place found
  pub steps : new ≡ with_steps old (steps_of_create place old.number [] found position)

-- a create found each of the first 16 places taken
pub record NoneLeft (old new : SeatView) : Type 0 where
  pub founds : List ℕ
  pub count : length founds ≡ 16
  pub taken : AreTaken old 0 founds
  pub steps : new ≡ with_steps old (steps_past 0 founds)

-- the view of the first of as many new seats
abbrev pub first_of : ℕ → SeatView
first_of seats = record { number = 0; seats = seats; steps = [] }

-- the view of a new seat, of as many: the one of number 0 knows how many there are
abbrev pub IsFresh : ℕ → SeatView → Type 0
IsFresh seats v = (v.steps ≡ []) × (v.seats ≡ cond (v.number == 0) seats 0)
