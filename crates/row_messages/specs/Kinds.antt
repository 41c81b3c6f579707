-- The kinds of columns: the type of each, a value as the cell of a tuple (PostgreSQL 15, 55.9), and which values are the same.
use Rattle.std.specs.Prelude.{◌==◌, ℕ, ℤ, Bool, not, true, false, List, length, nat_lt, codes, if◌then◌else◌}
use Rattle.std.specs.Fmt.{signed_decimal}
use Rattle.std.specs.Ordering.{int_eq}
use Rattle.std.specs.Str.{bytes_eq}
use Rattle.pgoutput.specs.declared.parts.tuple.Cell.{Cell}
use Rattle.pgoutput.specs.declared.parts.tuple.Cell.TheVariants as cells
use Rattle.tables.specs.declared.kinds.Kind.{Kind}
use Rattle.tables.specs.declared.kinds.Kind.TheVariants as kinds
use Rattle.tables.specs.declared.kinds.Value.{Value}
use Rattle.tables.specs.declared.kinds.Value.TheVariants as values
use Rattle.tables.specs.Kinds.{uuid_bytes}
use Rattle.uuid.specs.Text.{hyphenated_text, lower}
use Rattle.data_types.specs.DataTypes.{type_modifier as modifier_of_type, type_oid as oid_of_type}
use Rattle.row_messages.specs.declared.kinds.TheConstants.{BOOL_OID, INT2_OID, INT4_OID, INT8_OID, TEXT_OID, UUID_OID, MOST_RESENT, NO_MODIFIER}

abbrev pub type_oid : Kind → ℕ
type_oid kinds.Bool = BOOL_OID
type_oid kinds.Int2 = INT2_OID
type_oid kinds.Int4 = INT4_OID
type_oid kinds.Int8 = INT8_OID
type_oid kinds.Text = TEXT_OID
type_oid kinds.Uuid = UUID_OID
type_oid (kinds.AsText data_type) = oid_of_type data_type

abbrev pub type_modifier : Kind → ℤ
type_modifier (kinds.AsText data_type) = modifier_of_type data_type
type_modifier kind = NO_MODIFIER

-- 32 hex digits in lower case, of which 8, 4, 4, 4 and 12 stand between hyphens
unfoldable pub uuid_text : ℕ → List ℕ
uuid_text n = hyphenated_text lower (uuid_bytes n)

-- bool is t or f, an integer its decimal digits, a text its bytes
abbrev pub cell_of : Value → Cell
cell_of values.Null = cells.Null
cell_of (values.Bool b) = cells.Text (if b then codes "t" else codes "f")
cell_of (values.Int2 n) = cells.Text (signed_decimal n)
cell_of (values.Int4 n) = cells.Text (signed_decimal n)
cell_of (values.Int8 n) = cells.Text (signed_decimal n)
cell_of (values.Text text) = cells.Text text
cell_of (values.Uuid n) = cells.Text (uuid_text n)

abbrev pub is_null : Value → Bool
is_null values.Null = true
is_null value = false

abbrev pub is_the_bool : Bool → Value → Bool
is_the_bool a (values.Bool b) = if a then b else not b
is_the_bool a value = false

abbrev pub is_the_int2 : ℤ → Value → Bool
is_the_int2 a (values.Int2 b) = int_eq a b
is_the_int2 a value = false

abbrev pub is_the_int4 : ℤ → Value → Bool
is_the_int4 a (values.Int4 b) = int_eq a b
is_the_int4 a value = false

abbrev pub is_the_int8 : ℤ → Value → Bool
is_the_int8 a (values.Int8 b) = int_eq a b
is_the_int8 a value = false

abbrev pub is_the_text : List ℕ → Value → Bool
is_the_text a (values.Text b) = bytes_eq a b
is_the_text a value = false

abbrev pub is_the_uuid : ℕ → Value → Bool
is_the_uuid a (values.Uuid b) = a == b
is_the_uuid a value = false

-- values of two kinds are never the same
abbrev pub same_value : Value → Value → Bool
same_value values.Null value = is_null value
same_value (values.Bool a) value = is_the_bool a value
same_value (values.Int2 a) value = is_the_int2 a value
same_value (values.Int4 a) value = is_the_int4 a value
same_value (values.Int8 a) value = is_the_int8 a value
same_value (values.Text a) value = is_the_text a value
same_value (values.Uuid a) value = is_the_uuid a value

-- a text of more bytes than are sent once more where they didn't change
abbrev pub is_long : Value → Bool
is_long (values.Text text) = nat_lt MOST_RESENT (length text)
is_long value = false
