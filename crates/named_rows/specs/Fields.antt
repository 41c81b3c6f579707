-- What is told of a row by the names of its columns.
use Rattle.std.specs.Prelude.{◌≡◌, ℕ, Bool, true, false, List, filter, find, map, position, take, slice_get, Option, None, IsSomeAnd, ⊤}
use Rattle.std.specs.List.{list_any}
use Rattle.std.specs.Option.{option_and_then, option_map_or}
use Rattle.std.specs.Str.{bytes_eq}
use Rattle.tables.specs.declared.kinds.Value.{Value}
use Rattle.tables.specs.declared.kinds.Value.TheVariants as values
use Rattle.tables.specs.declared.column.Column.{Column}
use Rattle.tables.specs.declared.table.Table.{Table}
use Rattle.tables.specs.Tables.{fits_column}
use Rattle.named_rows.specs.declared.datum.Datum.{Datum}
use Rattle.named_rows.specs.declared.datum.Datum.TheVariants as datums
use Rattle.named_rows.specs.declared.datum.NamedDatum.{NamedDatum}
use Rattle.named_rows.specs.declared.telling.Told.{Told}
use Rattle.named_rows.specs.declared.telling.Told.TheVariants as tolds
use Rattle.named_rows.specs.declared.row_view.RowView.{RowView}
use Rattle.named_rows.specs.declared.fault.FieldFault.{FieldFault}
use Rattle.named_rows.specs.declared.fault.FieldFault.TheVariants as faults

-- what a row holds of it
abbrev pub value_told : Datum → Value
value_told datums.Null = values.Null
value_told (datums.Bool b) = values.Bool b
value_told (datums.Int2 n) = values.Int2 n
value_told (datums.Int4 n) = values.Int4 n
value_told (datums.Int8 n) = values.Int8 n
value_told (datums.Text text) = values.Text text.now
value_told (datums.Uuid n) = values.Uuid n

-- the column of this name
abbrev pub column_named : List ℕ → List Column → Option Column
column_named name columns = find (λ c. bytes_eq c.name name) columns

-- what is told of the column of this name: null where nothing is
abbrev pub told_of : List ℕ → List NamedDatum → Value
told_of name fields = option_map_or (λ f. value_told f.datum) (find (λ f. bytes_eq f.column.now name) fields) values.Null

-- the row of these fields
abbrev pub row_told : List Column → List NamedDatum → List Value
row_told columns fields = map (λ c. told_of c.name fields) columns

-- the columns of the primary key
abbrev pub key_columns : List Column → List Column
key_columns columns = filter (λ c. c.is_key) columns

-- those that may be told
abbrev pub columns_of : Told → List Column → List Column
columns_of tolds.Row columns = columns
columns_of tolds.Key columns = key_columns columns

-- what is wrong with a field
abbrev pub IsFieldFault : List Column → List NamedDatum → FieldFault → Type 0
IsFieldFault columns fields (faults.UnknownColumn k) = IsSomeAnd (slice_get fields k) (λ f. column_named f.column.now columns ≡ None)
IsFieldFault columns fields (faults.WrongKind k) =
    IsSomeAnd (slice_get fields k) (λ f. IsSomeAnd (column_named f.column.now columns) (λ c. fits_column c (value_told f.datum) ≡ false))
IsFieldFault columns fields (faults.Repeated k) =
    IsSomeAnd (slice_get fields k) (λ f. list_any (λ earlier. bytes_eq earlier.column.now f.column.now) (take k fields) ≡ true)
IsFieldFault columns fields faults.Memory = ⊤

-- a view shows this row of this table
abbrev pub Shows : Table → List Value → RowView → Type 0
Shows table row view = (view.table.now ≡ table) × (view.row.now ≡ row)

-- what a row holds in the column of this name
abbrev pub value_at : List Column → List Value → List ℕ → Option Value
value_at columns row name = option_and_then (slice_get row) (position (λ c. bytes_eq c.name name) columns)
