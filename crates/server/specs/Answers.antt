-- What is said to questions (PostgreSQL 15, 55.2.2): columns of texts, rows, and which command is complete.
use Rattle.std.specs.Prelude.{ℕ, ◌<◌, ◌≤◌, ◌^◌, List, [], ◌∷◌, ◌++◌, length, Option, Some, None, Result, Ok, Err, if◌then◌else◌, codes}
use Rattle.std.specs.Fmt.{decimal}
use Rattle.std.specs.List.{flat_map, AllByRecursion}
use Rattle.std.specs.Str.{bytes_eq}
use Rattle.frames.specs.declared.backend.data_row.DataValue.TheVariants.{Bytes}
use Rattle.server.specs.declared.backend_fault.BackendFault.{BackendFault}
use Rattle.server.specs.declared.refusal.Refusal.TheVariants.{Asked, UnknownParameter}
use Rattle.server.specs.declared.asked.table_name.TableName.{TableName}
use Rattle.server.specs.declared.asked.table_name.TableColumns.{TableColumns}
use Rattle.server.specs.Arrays.{array_text}
use Rattle.server.specs.Refusals.{parameter_text}
use Rattle.server.specs.Said.{refused_with, sent_frame, ready, error_and_ready, completion, columns_frame, values_frame, column_of, text_type}

-- texts for which a row has room
abbrev pub IsShort : List ℕ → Type 0
IsShort text = length text < 2 ^ 16

abbrev pub IsShortName : TableName → Type 0
IsShortName table = IsShort table.schema × IsShort table.name

-- columns as no table has more, and names as PostgreSQL has none longer
abbrev pub AreShortColumns : TableColumns → Type 0
AreShortColumns found = IsShortName found.table × (length found.columns ≤ 64) × AllByRecursion (λ column. length column ≤ 63) found.columns

-- one value, or two
unfoldable pub single_row : List ℕ → List ℕ
single_row value = sent_frame (values_frame (Bytes value ∷ []))

unfoldable pub table_row : TableName → List ℕ
table_row table = sent_frame (values_frame (Bytes table.schema ∷ Bytes table.name ∷ []))

-- and three: the columns are an array of names
unfoldable pub columns_row : TableColumns → List ℕ
columns_row found = sent_frame (values_frame (Bytes found.table.schema ∷ Bytes found.table.name ∷ Bytes (array_text found.columns) ∷ []))

-- the end of an answer of so many rows
unfoldable pub end_of_rows : ℕ → List ℕ
end_of_rows count = sent_frame (completion (codes "SELECT " ++ decimal count)) ++ ready

unfoldable pub single_column : List ℕ → List ℕ
single_column name = sent_frame (columns_frame (column_of text_type name ∷ []))

unfoldable pub table_columns : List ℕ
table_columns = sent_frame (columns_frame (column_of text_type (codes "schemaname") ∷ column_of text_type (codes "tablename") ∷ []))

unfoldable pub array_columns : List ℕ
array_columns = sent_frame (columns_frame (column_of text_type (codes "schemaname") ∷ column_of text_type (codes "tablename") ∷ column_of text_type (codes "attnames") ∷ []))

-- the search path is empty now
unfoldable pub path_set : List ℕ
path_set = single_column (codes "set_config") ++ (single_row [] ++ end_of_rows 1)

-- The parameters that clients ask for: the version as which questions are answered, and what each setup that is served has.
abbrev pub parameter_value : List ℕ → Option (List ℕ)
parameter_value name =
    if bytes_eq name (codes "data_directory_mode") then Some (codes "0700")
    else if bytes_eq name (codes "integer_datetimes") then Some (codes "on")
    else if bytes_eq name (codes "server_version") then Some (codes "15.0")
    else if bytes_eq name (codes "wal_level") then Some (codes "logical")
    else if bytes_eq name (codes "wal_segment_size") then Some (codes "16MB")
    else None

unfoldable pub value_shown : List ℕ → List ℕ → List ℕ
value_shown name value = single_column name ++ (single_row value ++ (sent_frame (completion (codes "SHOW")) ++ ready))

-- a parameter; one that isn't known is refused
abbrev pub shown_as : List ℕ → Option (List ℕ) → List ℕ
shown_as name (Some value) = value_shown name value
shown_as name None = refused_with UnknownParameter (parameter_text name)

abbrev pub parameter_shown : List ℕ → List ℕ
parameter_shown name = shown_as name (parameter_value name)

-- the publications
unfoldable pub publications_told : Result (List (List ℕ)) BackendFault → List ℕ
publications_told (Ok names) = single_column (codes "pubname") ++ (flat_map single_row names ++ end_of_rows (length names))
publications_told (Err fault) = error_and_ready (Asked fault)

-- the tables
unfoldable pub tables_told : Result (List TableName) BackendFault → List ℕ
tables_told (Ok tables) = table_columns ++ (flat_map table_row tables ++ end_of_rows (length tables))
tables_told (Err fault) = error_and_ready (Asked fault)

-- and their columns
unfoldable pub columns_told : Result (List TableColumns) BackendFault → List ℕ
columns_told (Ok tables) = array_columns ++ (flat_map columns_row tables ++ end_of_rows (length tables))
columns_told (Err fault) = error_and_ready (Asked fault)
