-- The table of the data types: what a Relation tells of each (PostgreSQL 15, 55.9), by pg_type (53.64).
use Rattle.std.specs.Prelude.{Bool, true, false, is_some, ℕ, ℤ, pos, ◌+◌, ◌*◌, ◌^◌, Some}
use Rattle.data_types.specs.declared.data_type.DataType.{DataType}
use Rattle.data_types.specs.declared.data_type.DataType.TheVariants as types
use Rattle.data_types.specs.declared.data_type.TheConstants.{VARIABLE_SIZE, NO_MODIFIER}

abbrev pub type_oid : DataType → ℕ
type_oid types.Bool = 16
type_oid types.Bytea = 17
type_oid types.Int8 = 20
type_oid types.Int2 = 21
type_oid types.Int4 = 23
type_oid types.Text = 25
type_oid types.Json = 114
type_oid types.Float4 = 700
type_oid types.Float8 = 701
type_oid types.Int4Array = 1007
type_oid types.TextArray = 1009
type_oid (types.Char limit) = 1042
type_oid (types.Varchar limit) = 1043
type_oid types.Date = 1082
type_oid types.Time = 1083
type_oid types.Timestamp = 1114
type_oid types.Timestamptz = 1184
type_oid types.Interval = 1186
type_oid (types.Numeric places) = 1700
type_oid types.Uuid = 2950
type_oid types.Jsonb = 3802

-- the bytes that PostgreSQL keeps of each value
abbrev pub type_size : DataType → ℤ
type_size types.Bool = pos 1
type_size types.Int2 = pos 2
type_size types.Int4 = pos 4
type_size types.Float4 = pos 4
type_size types.Date = pos 4
type_size types.Int8 = pos 8
type_size types.Float8 = pos 8
type_size types.Time = pos 8
type_size types.Timestamp = pos 8
type_size types.Timestamptz = pos 8
type_size types.Interval = pos 16
type_size types.Uuid = pos 16
type_size other = VARIABLE_SIZE

-- the characters and 4; precision in the upper half and scale in the lower, and 4
abbrev pub type_modifier : DataType → ℤ
type_modifier (types.Varchar (Some limit)) = pos (limit.count + 4)
type_modifier (types.Char limit) = pos (limit.count + 4)
type_modifier (types.Numeric (Some places)) = pos (places.precision * 2 ^ 16 + places.scale + 4)
type_modifier other = NO_MODIFIER

-- Each value has one text. Of numbers whose digits nobody counts 1 and 1.0 are equal.
abbrev pub has_one_text : DataType → Bool
has_one_text (types.Numeric places) = is_some places
has_one_text types.Float4 = false
has_one_text types.Float8 = false
has_one_text types.Interval = false
has_one_text types.Json = false
has_one_text types.Jsonb = false
has_one_text other = true
