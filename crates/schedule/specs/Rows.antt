-- The row or the key that the literals of a line spell. An integer takes the kind of its column, and a text in a column of UUIDs is the
-- UUID that it spells; what doesn't fit the column becomes a value of another kind, so that no table takes the row.
use Rattle.std.specs.Prelude.{ℕ, Option, Some, None, ℤ, pos, negsuc, ◌^◌, Bool, false, nat_lt, drop, filter, List, [], ◌∷◌, if◌then◌else◌}
use Rattle.tables.specs.declared.kinds.Kind.{Kind}
use Rattle.tables.specs.declared.kinds.Kind.TheVariants as kinds
use Rattle.tables.specs.declared.kinds.Value.{Value}
use Rattle.tables.specs.declared.kinds.Value.TheVariants as values
use Rattle.tables.specs.declared.column.Column.{Column}
use Rattle.tables.specs.Kinds.{uuid_of_text}
use Rattle.schedule.specs.declared.event.Literal.{Literal}
use Rattle.schedule.specs.declared.event.Literal.TheVariants as literals

abbrev pub is_int2 : ℤ → Bool
is_int2 (pos n) = nat_lt n (2 ^ 15)
is_int2 (negsuc n) = nat_lt n (2 ^ 15)

abbrev pub is_int4 : ℤ → Bool
is_int4 (pos n) = nat_lt n (2 ^ 31)
is_int4 (negsuc n) = nat_lt n (2 ^ 31)

abbrev pub integer_in : Kind → ℤ → Value
integer_in kinds.Int2 n = if is_int2 n then values.Int2 n else values.Int8 n
integer_in kinds.Int4 n = if is_int4 n then values.Int4 n else values.Int8 n
integer_in kinds.Int8 n = values.Int8 n
integer_in kinds.Bool n = values.Int8 n
integer_in kinds.Text n = values.Int8 n
integer_in kinds.Uuid n = values.Int8 n
integer_in (kinds.AsText data_type) n = values.Int8 n

-- an integer that no column holds
abbrev pub huge_in : Kind → Value
huge_in kinds.Bool = values.Int8 (pos 0)
huge_in kinds.Int2 = values.Bool false
huge_in kinds.Int4 = values.Bool false
huge_in kinds.Int8 = values.Bool false
huge_in kinds.Text = values.Bool false
huge_in kinds.Uuid = values.Bool false
huge_in (kinds.AsText data_type) = values.Bool false

abbrev pub uuid_or : Option ℕ → List ℕ → Value
uuid_or None text = values.Text text
uuid_or (Some n) text = values.Uuid n

abbrev pub text_in : Kind → List ℕ → Value
text_in kinds.Uuid text = uuid_or (uuid_of_text text) text
text_in kind text = values.Text text

abbrev pub value_in : Kind → Literal → Value
value_in kind literals.Null = values.Null
value_in kind (literals.Bool b) = values.Bool b
value_in kind (literals.Integer n) = integer_in kind n
value_in kind literals.Huge = huge_in kind
value_in kind (literals.Text text) = text_in kind text

abbrev pub first_kind : List Column → Kind
first_kind [] = kinds.Int8
first_kind (c ∷ columns) = c.kind

abbrev pub row_in : List Column → List Literal → List Value
row_in columns [] = []
row_in columns (l ∷ ls) = value_in (first_kind columns) l ∷ row_in (drop 1 columns) ls

-- the columns of the primary key, in table order
abbrev pub key_columns : List Column → List Column
key_columns columns = filter (λ c. c.is_key) columns
