-- What holds of slots between any two steps of any seats, and what each kind of step tells its seat.
use Rattle.std.specs.Prelude.{◌≡◌, ℕ, ◌+◌, ◌*◌, ◌/◌, ◌%◌, ◌<◌, ◌≤◌, ◌==◌, nat_lt, true, cond, List, [], ◌∷◌, ◌++◌, length, slice_index, Some, max}
use mathlib.Core.Option.{some}
use lib.ListN.{get_elem?}
use Rattle.atomic_table.specs.Table.{State, Me, Step}
use Rattle.slots.specs.declared.words_kept.step.SlotKind.{SlotKind}
use Rattle.slots.specs.declared.words_kept.step.SlotKind.TheVariants.{Create, Claim, Read, Raise, Release, Retire}
use Rattle.slots.specs.declared.words_kept.step.SlotStep.{SlotStep}
use Rattle.slots.specs.declared.words_kept.step.SeatView.{SeatView}
use Rattle.slots.specs.Standings.{held_by}
use Rattle.slots.specs.Facts.{Facts, facts}

-- A place is one slot's for good. The places p, p + 1024, p + 2048 .. stand one after the other on one line of the table, each a
-- generation further: as a slot is dropped, its line goes on to the next place.
abbrev pub line_of : ℕ → ℕ
line_of p = p % 1024

abbrev pub generation_of : ℕ → ℕ
generation_of p = p / 1024

-- A line has eight words of the table for its own: the first says at which place it is and how that stands, the second is its position,
-- and the others are spare.
abbrev pub state_word : ℕ → ℕ
state_word p = line_of p * 8

abbrev pub position_word : ℕ → ℕ
position_word p = line_of p * 8 + 1

-- the first word of a line that is at this place, which stands so
abbrev pub word_at : (place state : ℕ) → ℕ
word_at p state = generation_of p * 4096 + state

-- How a place stands by the first word of its line: it was dropped where the line has gone on past it; and where the line hasn't come
-- to it yet, it is as if a seat held it that there isn't.
abbrev pub state_at : (place word : ℕ) → ℕ
state_at p word = cond (nat_lt (word / 4096) (generation_of p)) 4095 (cond (nat_lt (generation_of p) (word / 4096)) 2 (word % 4096))

-- the place that such a word means on this line
abbrev pub place_at : (state_word word : ℕ) → ℕ
place_at w word = (word / 4096) * 1024 + w / 8

-- How a place stands, and its line's position, agree with what the steps of one seat say of it.
pub record Agrees (state position seat : ℕ) (f : Facts) : Type 0 where
  -- if it holds the place by its steps, the state word names it
  pub named : f.held ≡ true → state ≡ held_by seat
  -- and only then
  pub held : state ≡ held_by seat → f.held ≡ true
  -- the position is no lower than any that it saw
  pub above : f.top ≤ position
  -- of a place that it holds, it is the one that it last saw since it took the place
  pub last : f.held ≡ true → (x : ℕ) → f.known ≡ Some x → position ≡ x
  -- a place that it saw dropped is dropped still
  pub stays : f.gone ≡ true → state ≡ 2
  -- the positions that it saw never fell
  pub rises : f.rising ≡ true

-- a place of the first generation stands as the last steps of this seat left it, and so does its position until it is dropped
abbrev pub Leaves : List ℕ → ℕ → SeatView → Type 0
Leaves words p v =
    (state_at p (slice_index words (state_word p)) ≡ (facts p v.steps).state)
    × (slice_index words (state_word p) / 4096 ≡ 0 → slice_index words (position_word p) ≡ (facts p v.steps).position)

abbrev pub Slots : Type 0
Slots = State (Unit {0}) SeatView

abbrev Seated : Type 0
Seated = Me (Unit {0}) SeatView

-- The rule of slots, which each step of each seat keeps.
pub record Kept (s : Slots) : Type 0 where
  -- eight words for each of 1,024 lines
  pub wide : length s.words ≡ 8192
  -- a seat knows its number, and one that may make more knows how many there are
  pub numbered : (seat : ℕ) (v : SeatView) → get_elem? s.views seat ≡ some v → (v.number ≡ seat) × (0 < v.seats → length s.views ≡ v.seats)
  -- that is the first seat alone
  pub first : (seat : ℕ) (v : SeatView) → get_elem? s.views seat ≡ some v → 0 < v.seats → seat ≡ 0
  -- each seat has a number that a state word can hold
  pub few : length s.views ≤ 2048
  -- a state word names no seat that there isn't
  pub names : (p : ℕ) → slice_index s.words (state_word p) % 4096 < 3 + length s.views
  -- how each place stands agrees with the steps of each seat
  pub places : (p seat : ℕ) (v : SeatView) → get_elem? s.views seat ≡ some v → Agrees (state_at p (slice_index s.words (state_word p))) (slice_index s.words (position_word p)) seat (facts p v.steps)
  -- where there is one seat, places of the first generation stand as its last steps left them
  pub alone : length s.views ≡ 1 → (p seat : ℕ) (v : SeatView) → p < 1024 → get_elem? s.views seat ≡ some v → Leaves s.words p v

abbrev pub slot_step : SlotKind → ℕ → ℕ → ℕ → SlotStep
slot_step kind place found left = record { kind = kind; place = place; found = found; left = left }

-- the view with one more step
abbrev pub with_step : SeatView → SlotStep → SeatView
with_step v s = record { number = v.number; seats = v.seats; steps = v.steps ++ s ∷ [] }

-- What a seat knows of how it finds a place.
pub record StandsAs (v : SeatView) (p found : ℕ) : Type 0 where
  -- its own number, if and only if it holds the place by its steps
  pub named : (facts p v.steps).held ≡ true → found ≡ held_by v.number
  pub held : found ≡ held_by v.number → (facts p v.steps).held ≡ true
  -- "dropped", if it saw that before
  pub stays : (facts p v.steps).gone ≡ true → found ≡ 2
  -- what its last step left, if no other seat was ever made and the place is of the first generation
  pub alone : v.seats ≡ 1 → p < 1024 → found ≡ (facts p v.steps).state

-- What a seat knows of a position that it finds at a place that it holds.
pub record FollowsOn (v : SeatView) (p found : ℕ) : Type 0 where
  -- it is no lower than any that it saw
  pub above : (facts p v.steps).top ≤ found
  -- of a place that it holds, it is the one that it last saw since it took the place
  pub last : (facts p v.steps).held ≡ true → (x : ℕ) → (facts p v.steps).known ≡ Some x → found ≡ x
  -- and if no other seat was ever made and the place is of the first generation, what its last step left
  pub alone : v.seats ≡ 1 → p < 1024 → found ≡ (facts p v.steps).position

abbrev pub steps_by : Seated → SlotStep → Seated → Type 0
steps_by m s m' = m' ≡ (with_step m.0 s, m.1)

-- one step on how a place stands, which was found in this word of its line, and what the seat knew of it
abbrev pub steps_on : SlotKind → (want left place found : ℕ) → Seated → Seated → Type 0
steps_on kind want left p found m m' =
    steps_by m (slot_step kind p (state_at p found) (cond (state_at p found == want) left (state_at p found))) m' × StandsAs m.0 p (state_at p found)

-- the seat holds this place, and this word is its line's position
abbrev pub HeldAt : ℕ → Seated → ℕ → Type 0
HeldAt word m p = (word ≡ position_word p) × ((facts p m.0.steps).held ≡ true)

-- The six kinds of step. Each finds a word of the place, and stands in the view with how it found the place and how it left it: a create
-- leaves its seat's number where the place was never made and its line has come to it, a claim where it is free, and a retire "dropped"
-- where it is free; a release leaves "free" in its own place; a raise leaves the greater of two positions; a read leaves all as it is.
abbrev pub creates : Step (Unit {0}) → Seated → ℕ → Seated → Type 0
creates st m found m' = steps_on Create 0 (st.second % 4096) (place_at st.word st.second) found m m'

abbrev pub claims : Step (Unit {0}) → Seated → ℕ → Seated → Type 0
claims st m found m' = steps_on Claim 1 (st.second % 4096) (place_at st.word st.second) found m m'

abbrev pub retires : Step (Unit {0}) → Seated → ℕ → Seated → Type 0
retires st m found m' = steps_on Retire 1 2 (place_at st.word st.first) found m m'

abbrev pub releases : Step (Unit {0}) → Seated → ℕ → Seated → Type 0
releases st m found m' = steps_by m (slot_step Release (place_at st.word st.first) (held_by m.0.number) 1) m'

abbrev pub raises : Step (Unit {0}) → Seated → ℕ → Seated → Type 0
raises st m found m' = (p : ℕ) → HeldAt st.word m p → steps_by m (slot_step Raise p found (max found st.first)) m' × FollowsOn m.0 p found

abbrev pub reads : Step (Unit {0}) → Seated → ℕ → Seated → Type 0
reads st m found m' = (p : ℕ) → HeldAt st.word m p → steps_by m (slot_step Read p found found) m' × FollowsOn m.0 p found

-- the view of the first seat, before another is made; then it knows of one more; and the view of that one
abbrev pub first_view : SeatView
first_view = record { number = 0; seats = 1; steps = [] }

abbrev pub one_more : SeatView → SeatView
one_more v = record { number = v.number; seats = v.seats + 1; steps = v.steps }

abbrev pub newest : SeatView → SeatView
newest v = record { number = v.seats; seats = 0; steps = [] }
