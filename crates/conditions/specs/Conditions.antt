-- What a filter says, as a tree, and the columns that it names.
use Rattle.std.specs.Prelude.{◌≡◌, ℕ, ◌==◌, Bool, false, ◌||◌, ℤ, if◌then◌else◌, List, count_by}
use Rattle.conditions.specs.declared.values.comparison.Comparison.{Comparison}
use Rattle.conditions.specs.declared.values.is_test.IsTest.{IsTest}

-- a value as conditions see it: integers of all widths are alike, and unknown is null
pub data Datum : Type 0 where
  Missing : Datum
  Flag : Bool → Datum
  Number : ℤ → Datum
  Bytes : List ℕ → Datum
  Uuid : ℕ → Datum

-- A condition, or an operand of one. A column is told by its place in the table. IS NOT is IS with the flag set.
pub data Condition : Type 0 where
  Column : ℕ → Condition
  Literal : Datum → Condition
  Compare : Comparison → Condition → Condition → Condition
  Is : IsTest → Bool → Condition → Condition
  Not : Condition → Condition
  And : Condition → Condition → Condition
  Or : Condition → Condition → Condition

-- the condition names the column at this place
abbrev pub names : Condition → ℕ → Bool
names (Column named) place = named == place
names (Literal datum) place = false
names (Compare how a b) place = names a place || names b place
names (Is question negated a) place = names a place
names (Not a) place = names a place
names (And a b) place = names a place || names b place
names (Or a b) place = names a place || names b place

-- These are the places of the columns that the condition names, each once.
abbrev pub AreNamed : Condition → List ℕ → Type 0
AreNamed condition places = (place : ℕ) → count_by (λ p. p == place) places ≡ (if names condition place then 1 else 0)
