-- RowDescription (PostgreSQL 15, 55.7): the columns of the rows that follow.
use Rattle.std.specs.Prelude.{◌≡◌, ℕ, ◌^◌, ◌<◌, Bool, false, List, ◌++◌, Result, Ok, FitsSigned}
use Rattle.std.specs.Int.{w16, w32, cast_unsigned}
use Rattle.std.specs.Str.{is_utf8}
use Rattle.frames.specs.declared.backend.row_description.ColumnDescription.{ColumnDescription}
use Rattle.frames.specs.declared.backend.row_description.ColumnType.{ColumnType}
use Rattle.pqformat.specs.Fields.{int16, int32, string, string_at, number_at, has_zero}
use Rattle.pqformat.specs.Steps.{◌>>=◌, signed_at}
use Rattle.frames.specs.Body.{there}

abbrev pub column_type : ColumnType → List ℕ
column_type t = int32 t.oid ++ (int16 (cast_unsigned w16 t.size) ++ int32 (cast_unsigned w32 t.modifier))

abbrev pub column : ColumnDescription → List ℕ
column c = string c.name ++ (int32 c.table ++ (int16 (cast_unsigned w16 c.attribute) ++ (column_type c.data_type ++ int16 c.format)))

abbrev pub FitsType : ColumnType → Type 0
FitsType t = (t.oid < 2 ^ 32) × (FitsSigned w16 t.size × FitsSigned w32 t.modifier)

abbrev pub FitsColumn : ColumnDescription → Type 0
FitsColumn c = (has_zero c.name ≡ false) × ((c.table < 2 ^ 32) × (FitsSigned w16 c.attribute × (FitsType c.data_type × (c.format < 2 ^ 16))))

abbrev pub is_column_text : ColumnDescription → Bool
is_column_text c = is_utf8 c.name

unfoldable pub type_at : List ℕ → Result (ColumnType × List ℕ) (Unit {0})
type_at bytes = do
  oid ← there (number_at w32 bytes)
  size ← signed_at tt w16 oid.1
  modifier ← signed_at tt w32 size.1
  Ok (record { oid = oid.0; size = size.0; modifier = modifier.0 }, modifier.1)

unfoldable pub column_at : List ℕ → Result (ColumnDescription × List ℕ) (Unit {0})
column_at bytes = do
  name ← there (string_at bytes)
  table ← there (number_at w32 name.1)
  attribute ← signed_at tt w16 table.1
  data_type ← type_at attribute.1
  format ← there (number_at w16 data_type.1)
  Ok (record { name = name.0; table = table.0; attribute = attribute.0; data_type = data_type.0; format = format.0 }, format.1)
