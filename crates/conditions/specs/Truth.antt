-- What a condition is of a row: true, false or unknown (PostgreSQL 15, 9.1, 9.2 and 31.3).
use Rattle.std.specs.Prelude.{Bool, true, false, not, List, Option, Some, None, option_map, slice_get}
use Rattle.std.specs.declared.cmp.Ordering.{Ordering}
use Rattle.std.specs.Ordering.{nat_cmp, int_cmp, bool_cmp, is_eq, is_ne, is_lt, is_gt, is_le, is_ge}
use Rattle.std.specs.Cmp.Lexicographic.{slice_cmp}
use Rattle.tables.specs.declared.kinds.Value.{Value}
use Rattle.tables.specs.Kinds.{uuid_of_text}
use Rattle.conditions.specs.declared.truth.Truth.{Truth}
use Rattle.conditions.specs.declared.truth.Truth.TheVariants.{True, False, Unknown}
use Rattle.conditions.specs.declared.values.comparison.Comparison.{Comparison}
use Rattle.conditions.specs.declared.values.comparison.Comparison.TheVariants.{Equal, NotEqual, Less, Greater, LessOrEqual, GreaterOrEqual}
use Rattle.conditions.specs.declared.values.is_test.IsTest.{IsTest}
use Rattle.conditions.specs.declared.values.is_test.IsTest.TheVariants as questions
use Rattle.conditions.specs.Kinds.{datum_of}
use Rattle.conditions.specs.Conditions.{Datum, Missing, Flag, Number, Bytes, Uuid, Condition, Column, Literal, Compare, Is, Not, And, Or}

-- ---- three values

abbrev pub certain : Bool → Truth
certain true = True
certain false = False

abbrev pub opposite : Truth → Truth
opposite True = False
opposite False = True
opposite Unknown = Unknown

-- AND: false if a side is false, else unknown if a side is unknown
abbrev pub both : Truth → Truth → Truth
both False b = False
both True b = b
both Unknown False = False
both Unknown b = Unknown

-- OR is its dual.
abbrev pub either : Truth → Truth → Truth
either a b = opposite (both (opposite a) (opposite b))

abbrev pub is_true : Truth → Bool
is_true True = true
is_true _ = false

-- ---- values

abbrev pub datum_of_truth : Truth → Datum
datum_of_truth True = Flag true
datum_of_truth False = Flag false
datum_of_truth Unknown = Missing

abbrev pub truth_of : Datum → Truth
truth_of (Flag b) = certain b
truth_of _ = Unknown

-- false stands before true, a whole number before a greater one, a text or a UUID before another by its bytes; a text stands to a
-- UUID as the one that it spells
abbrev pub ordering_of : Datum → Datum → Option Ordering
ordering_of (Flag a) (Flag b) = Some (bool_cmp a b)
ordering_of (Number m) (Number n) = Some (int_cmp m n)
ordering_of (Bytes s) (Bytes t) = Some (slice_cmp nat_cmp s t)
ordering_of (Uuid m) (Uuid n) = Some (nat_cmp m n)
ordering_of (Uuid m) (Bytes text) = option_map (λ n. nat_cmp m n) (uuid_of_text text)
ordering_of (Bytes text) (Uuid n) = option_map (λ m. nat_cmp m n) (uuid_of_text text)
ordering_of _ _ = None

abbrev pub holds : Comparison → Ordering → Bool
holds Equal order = is_eq order
holds NotEqual order = is_ne order
holds Less order = is_lt order
holds Greater order = is_gt order
holds LessOrEqual order = is_le order
holds GreaterOrEqual order = is_ge order

-- A comparison with null is unknown.
abbrev pub compared_by : Comparison → Option Ordering → Truth
compared_by how None = Unknown
compared_by how (Some order) = certain (holds how order)

abbrev pub truth_of_comparison : Comparison → Datum → Datum → Truth
truth_of_comparison how a b = compared_by how (ordering_of a b)

-- IS is never unknown.
abbrev pub answer_to_question : IsTest → Datum → Bool
answer_to_question questions.Null Missing = true
answer_to_question questions.Unknown Missing = true
answer_to_question questions.True (Flag b) = b
answer_to_question questions.False (Flag b) = not b
answer_to_question _ _ = false

abbrev pub negated_if : Bool → Bool → Bool
negated_if false b = b
negated_if true b = not b

-- ---- conditions

abbrev pub datum_at : Option Value → Datum
datum_at None = Missing
datum_at (Some value) = datum_of value

-- what an operand or a condition is in a row
abbrev pub value_in : List Value → Condition → Datum
value_in row (Column place) = datum_at (slice_get row place)
value_in row (Literal datum) = datum
value_in row (Compare how a b) = datum_of_truth (truth_of_comparison how (value_in row a) (value_in row b))
value_in row (Is question negated a) = Flag (negated_if negated (answer_to_question question (value_in row a)))
value_in row (Not a) = datum_of_truth (opposite (truth_of (value_in row a)))
value_in row (And a b) = datum_of_truth (both (truth_of (value_in row a)) (truth_of (value_in row b)))
value_in row (Or a b) = datum_of_truth (either (truth_of (value_in row a)) (truth_of (value_in row b)))

abbrev pub truth : Condition → List Value → Truth
truth condition row = truth_of (value_in row condition)
