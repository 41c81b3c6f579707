-- A condition laid out flat, as steps: what each asks, and which is asked next. That is told by a number: 0 and 1 end the asking, the
-- condition being true at 1 alone, and 2 is the lowest step.
use Rattle.std.specs.Prelude.{◌≡◌, ◌==◌, ◌<◌, ◌≤◌, ◌+◌, ◌^◌, ℕ, ℤ, nat_lt, Bool, Option, Some, None, slice_get, List, [], ◌∷◌, length, map, reverse, if◌then◌else◌}
use Rattle.conditions.specs.declared.values.comparison.Comparison.{Comparison}
use Rattle.conditions.specs.declared.values.comparison.Comparison.TheVariants as signs
use Rattle.conditions.specs.declared.flat.step.Step.{Step}
use Rattle.conditions.specs.declared.flat.step.NumberRead.{NumberRead}
use Rattle.conditions.specs.declared.flat.step.StepCondition.{StepCondition}
use Rattle.conditions.specs.declared.flat.step.StepCondition.TheVariants as asked
use Rattle.conditions.specs.Conditions.{Datum, Number, Bytes, Condition, Column, Literal, Compare, And, Or}
use Rattle.conditions.specs.Shapes.{shape}
use Rattle.conditions.specs.Truth.{datum_at}
use Rattle.tables.specs.declared.kinds.Value.{Value}

-- a column against an integer
abbrev pub number_asked : Comparison → ℕ → ℤ → Condition
number_asked how place n = Compare how (Column place) (Literal (Number n))

-- and against a text
abbrev pub text_asked : Comparison → ℕ → List ℕ → Condition
text_asked how place text = Compare how (Column place) (Literal (Bytes text))

-- the condition that a step asks
abbrev pub condition_asked : StepCondition → Condition
condition_asked (asked.Equal place n) = number_asked signs.Equal place n
condition_asked (asked.NotEqual place n) = number_asked signs.NotEqual place n
condition_asked (asked.Less place n) = number_asked signs.Less place n
condition_asked (asked.Greater place n) = number_asked signs.Greater place n
condition_asked (asked.LessOrEqual place n) = number_asked signs.LessOrEqual place n
condition_asked (asked.GreaterOrEqual place n) = number_asked signs.GreaterOrEqual place n
condition_asked (asked.SameText place text) = text_asked signs.Equal place text
condition_asked (asked.OtherText place text) = text_asked signs.NotEqual place text
condition_asked (asked.Text how place text) = text_asked how place text
condition_asked (asked.Other condition) = shape condition.value

-- the whole number that a value is
abbrev pub whole_number : Datum → Option ℤ
whole_number (Number n) = Some n
whole_number datum = None

-- It is a number of the row, or none was read.
abbrev pub IsNumberOf : List Value → NumberRead → Type 0
IsNumberOf row last = last.place < 2 ^ 32 → datum_at (slice_get row last.place) ≡ Number last.number

-- a step as contracts see it
pub record Turn : Type 0 where
  pub asked : Condition
  pub next_if_true : ℕ
  pub next_if_not : ℕ

abbrev pub turn_of : Step → Turn
turn_of step = record { asked = condition_asked step.asked; next_if_true = step.next_if_true; next_if_not = step.next_if_not }

-- steps from the one that is asked first
abbrev pub turns : List Step → List Turn
turns steps = reverse (map turn_of steps)

-- the number of the uppermost step
abbrev pub highest_number : List Turn → ℕ
highest_number steps = length steps + 1

-- the steps of a condition above others, of which these are next where it is true, and where it isn't
abbrev pub turns_of : Condition → ℕ → ℕ → List Turn → List Turn
turns_of (And a b) if_true if_not below = turns_of a (highest_number (turns_of b if_true if_not below)) if_not (turns_of b if_true if_not below)
turns_of (Or a b) if_true if_not below = turns_of a if_true (highest_number (turns_of b if_true if_not below)) (turns_of b if_true if_not below)
turns_of condition if_true if_not below = record { asked = condition; next_if_true = if_true; next_if_not = if_not } ∷ below

-- These are all steps of the condition.
abbrev pub AreStepsOf : List Step → Condition → Type 0
AreStepsOf steps condition = turns steps ≡ turns_of condition 1 0 []

-- Each step is followed by lower ones.
abbrev pub LeadDown : List Turn → Type 0
LeadDown [] = Unit {0}
LeadDown (turn ∷ below) = (turn.next_if_true ≤ highest_number below) × (turn.next_if_not ≤ highest_number below) × LeadDown below

-- which is next by the answer
abbrev pub next_number : Bool → Turn → ℕ
next_number answer turn = if answer then turn.next_if_true else turn.next_if_not

-- what comes of steps from the one of this number on, by the answers to each
abbrev pub outcome : (Condition → Bool) → ℕ → List Turn → Bool
outcome answers next [] = next == 1
outcome answers next (turn ∷ below) =
    if nat_lt (highest_number below) next then outcome answers (next_number (answers turn.asked) turn) below else outcome answers next below
