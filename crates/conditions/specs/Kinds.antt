-- Which conditions make sense over the columns of a table: what may be compared, and what is true or false.
use Rattle.std.specs.Prelude.{◌≡◌, ℕ, nat_lt, Bool, true, false, ◌&&◌, List, Option, Some, None, option_map, option_and_then, slice_get, if◌then◌else◌}
use Rattle.tables.specs.declared.column.Column.{Column as TableColumn}
use Rattle.tables.specs.declared.kinds.Kind.TheVariants as kinds
use Rattle.tables.specs.declared.kinds.Kind.{Kind}
use Rattle.tables.specs.declared.kinds.Value.{Value}
use Rattle.tables.specs.declared.kinds.Value.TheVariants as values
use Rattle.tables.specs.Kinds.{uuid_of_text}
use Rattle.conditions.specs.declared.values.sort.Sort.{Sort}
use Rattle.conditions.specs.declared.values.sort.Sort.TheVariants.{Any, Truths, Numbers, Texts, UuidTexts, Uuids, Incomparable}
use Rattle.conditions.specs.declared.values.is_test.IsTest.{IsTest}
use Rattle.conditions.specs.declared.values.is_test.IsTest.TheVariants as questions
use Rattle.conditions.specs.Conditions.{Datum, Missing, Flag, Number, Bytes, Uuid, Condition, Column, Literal, Compare, Is, Not, And, Or}

-- int2, int4 and int8 are all whole numbers; null is of any kind; of a kind that is kept as text only whether it is null is asked
abbrev pub sort_of_kind : Kind → Sort
sort_of_kind kinds.Bool = Truths
sort_of_kind kinds.Int2 = Numbers
sort_of_kind kinds.Int4 = Numbers
sort_of_kind kinds.Int8 = Numbers
sort_of_kind kinds.Text = Texts
sort_of_kind kinds.Uuid = Uuids
sort_of_kind (kinds.AsText data_type) = Incomparable

-- a value as conditions see it
abbrev pub datum_of : Value → Datum
datum_of values.Null = Missing
datum_of (values.Bool b) = Flag b
datum_of (values.Int2 n) = Number n
datum_of (values.Int4 n) = Number n
datum_of (values.Int8 n) = Number n
datum_of (values.Text text) = Bytes text
datum_of (values.Uuid n) = Uuid n

-- a text is also a UUID where it spells one
abbrev pub sort_of_text : Option ℕ → Sort
sort_of_text None = Texts
sort_of_text (Some n) = UuidTexts

abbrev pub sort_of_datum : Datum → Sort
sort_of_datum Missing = Any
sort_of_datum (Flag b) = Truths
sort_of_datum (Number n) = Numbers
sort_of_datum (Bytes text) = sort_of_text (uuid_of_text text)
sort_of_datum (Uuid n) = Uuids

abbrev pub are_compared : Sort → Sort → Bool
are_compared Any b = true
are_compared a Any = true
are_compared Truths Truths = true
are_compared Numbers Numbers = true
are_compared Texts Texts = true
are_compared Texts UuidTexts = true
are_compared UuidTexts Texts = true
are_compared UuidTexts UuidTexts = true
are_compared UuidTexts Uuids = true
are_compared Uuids UuidTexts = true
are_compared Uuids Uuids = true
are_compared _ _ = false

-- bool, or null, stands as a condition
abbrev pub is_truth : Sort → Bool
is_truth Any = true
is_truth Truths = true
is_truth _ = false

-- IS NULL is asked of anything, the others of a condition
abbrev pub is_asked : IsTest → Sort → Bool
is_asked questions.Null sort = true
is_asked question sort = is_truth sort

abbrev pub truths_if : Bool → Option Sort
truths_if fits = if fits then Some Truths else None

abbrev pub of_two : (Sort → Sort → Bool) → Option Sort → Option Sort → Option Sort
of_two fits a b = option_and_then (λ s. option_and_then (λ t. truths_if (fits s t)) b) a

abbrev pub of_one : (Sort → Bool) → Option Sort → Option Sort
of_one fits a = option_and_then (λ s. truths_if (fits s)) a

-- of what kind a condition or an operand is; None where a column is unknown or kinds don't go together
abbrev pub sort_of : List TableColumn → Condition → Option Sort
sort_of columns (Column place) = option_map (λ column. sort_of_kind column.kind) (slice_get columns place)
sort_of columns (Literal datum) = Some (sort_of_datum datum)
sort_of columns (Compare how a b) = of_two are_compared (sort_of columns a) (sort_of columns b)
sort_of columns (Is question negated a) = of_one (is_asked question) (sort_of columns a)
sort_of columns (Not a) = of_one is_truth (sort_of columns a)
sort_of columns (And a b) = of_two (λ s t. is_truth s && is_truth t) (sort_of columns a) (sort_of columns b)
sort_of columns (Or a b) = of_two (λ s t. is_truth s && is_truth t) (sort_of columns a) (sort_of columns b)

-- It names columns of the table, and each kind is as its place asks.
abbrev pub IsCondition : List TableColumn → Condition → Type 0
IsCondition columns condition = of_one is_truth (sort_of columns condition) ≡ Some Truths

-- each column that it names is at one of so many places
abbrev pub are_known : ℕ → Condition → Bool
are_known count (Column place) = nat_lt place count
are_known count (Literal datum) = true
are_known count (Compare how a b) = are_known count a && are_known count b
are_known count (Is question negated a) = are_known count a
are_known count (Not a) = are_known count a
are_known count (And a b) = are_known count a && are_known count b
are_known count (Or a b) = are_known count a && are_known count b
