-- What is said to the questions that a subscriber asks of one table before it copies that (PostgreSQL 15, 53.7 and 53.11).
use Rattle.std.specs.Prelude.{ℕ, ◌+◌, ◌≤◌, ◌<◌, ◌^◌, List, [], ◌∷◌, ◌++◌, length, Option, Some, None, Result, Ok, Err, Bool, true, false, codes}
use Rattle.std.specs.Fmt.{decimal}
use Rattle.std.specs.List.{flat_map, AllByRecursion}
use Rattle.frames.specs.declared.backend.data_row.DataValue.{DataValue}
use Rattle.frames.specs.declared.backend.data_row.DataValue.TheVariants.{Null, Bytes}
use Rattle.frames.specs.declared.backend.row_description.ColumnType.{ColumnType}
use Rattle.server.specs.declared.backend_fault.BackendFault.{BackendFault}
use Rattle.server.specs.declared.said.column_types.TheConstants.{OID_OID, OID_SIZE, CHAR_OID, CHAR_SIZE, INT2_OID, INT2_SIZE, INT2VECTOR_OID, NAME_OID, NAME_SIZE, BOOL_OID, BOOL_SIZE}
use Rattle.server.specs.declared.found_table.FoundTable.{FoundTable}
use Rattle.server.specs.declared.found_table.TableAttribute.{TableAttribute}
use Rattle.server.specs.declared.found_table.TableIdentity.{TableIdentity}
use Rattle.server.specs.declared.found_table.TableIdentity.TheVariants.{Default, Nothing, Full}
use Rattle.server.specs.declared.refusal.Refusal.TheVariants.{Asked}
use Rattle.server.specs.declared.said.say.TheConstants.{ANY_SIZE, NO_MODIFIER}
use Rattle.server.specs.Answers.{IsShort, end_of_rows}
use Rattle.server.specs.Said.{sent_frame, error_and_ready, columns_frame, values_frame, column_of, text_type}

-- ---- types

abbrev pub oid_type : ColumnType
oid_type = record { oid = OID_OID; size = OID_SIZE; modifier = NO_MODIFIER }

abbrev pub char_type : ColumnType
char_type = record { oid = CHAR_OID; size = CHAR_SIZE; modifier = NO_MODIFIER }

abbrev pub int2_type : ColumnType
int2_type = record { oid = INT2_OID; size = INT2_SIZE; modifier = NO_MODIFIER }

abbrev pub int2vector_type : ColumnType
int2vector_type = record { oid = INT2VECTOR_OID; size = ANY_SIZE; modifier = NO_MODIFIER }

abbrev pub name_type : ColumnType
name_type = record { oid = NAME_OID; size = NAME_SIZE; modifier = NO_MODIFIER }

abbrev pub bool_type : ColumnType
bool_type = record { oid = BOOL_OID; size = BOOL_SIZE; modifier = NO_MODIFIER }

-- ---- what a row has room for

abbrev pub AreShortAttributes : List TableAttribute → Type 0
AreShortAttributes attributes = (length attributes ≤ 64) × AllByRecursion (λ attribute. IsShort attribute.name × (attribute.type_oid < 2 ^ 32)) attributes

abbrev pub IsShortList : Option (List ℕ) → Type 0
IsShortList None = Unit {0}
IsShortList (Some numbers) = (length numbers ≤ 64) × AllByRecursion (λ number. number < 2 ^ 16) numbers

abbrev pub IsShortFilter : Option (List ℕ) → Type 0
IsShortFilter None = Unit {0}
IsShortFilter (Some filter) = IsShort filter

-- ---- the table

abbrev pub identity_letter : TableIdentity → List ℕ
identity_letter Default = codes "d"
identity_letter Nothing = codes "n"
identity_letter Full = codes "f"

unfoldable pub found_columns : List ℕ
found_columns = sent_frame (columns_frame (column_of oid_type (codes "oid") ∷ column_of char_type (codes "relreplident") ∷ column_of char_type (codes "relkind") ∷ []))

-- Each is an ordinary table, of the kind r.
unfoldable pub found_row : FoundTable → List ℕ
found_row table = sent_frame (values_frame (Bytes (decimal table.oid) ∷ Bytes (identity_letter table.identity) ∷ Bytes (codes "r") ∷ []))

unfoldable pub table_told : Result (Option FoundTable) BackendFault → List ℕ
table_told (Ok (Some table)) = found_columns ++ (found_row table ++ end_of_rows 1)
table_told (Ok None) = found_columns ++ end_of_rows 0
table_told (Err fault) = error_and_ready (Asked fault)

-- ---- its columns

abbrev pub truth_value : Option Bool → DataValue
truth_value None = Null
truth_value (Some true) = Bytes (codes "t")
truth_value (Some false) = Bytes (codes "f")

unfoldable pub attribute_columns : List ℕ
attribute_columns =
    sent_frame (columns_frame (column_of int2_type (codes "attnum") ∷ column_of name_type (codes "attname") ∷ column_of oid_type (codes "atttypid") ∷ column_of bool_type (codes "?column?") ∷ []))

unfoldable pub attribute_row : ℕ → TableAttribute → List ℕ
attribute_row number attribute = sent_frame (values_frame (Bytes (decimal number) ∷ Bytes attribute.name ∷ Bytes (decimal attribute.type_oid) ∷ truth_value attribute.is_identity ∷ []))

-- with their numbers, from this one on
abbrev pub attribute_rows : ℕ → List TableAttribute → List ℕ
attribute_rows number [] = []
attribute_rows number (attribute ∷ attributes) = attribute_row number attribute ++ attribute_rows (number + 1) attributes

unfoldable pub attributes_told : Result (List TableAttribute) BackendFault → List ℕ
attributes_told (Ok attributes) = attribute_columns ++ (attribute_rows 1 attributes ++ end_of_rows (length attributes))
attributes_told (Err fault) = error_and_ready (Asked fault)

-- ---- those that are published

abbrev pub further_number : ℕ → List ℕ
further_number number = 32 ∷ decimal number

-- numbers with blanks between
abbrev pub numbers_text : List ℕ → List ℕ
numbers_text [] = []
numbers_text (number ∷ numbers) = decimal number ++ flat_map further_number numbers

abbrev pub list_value : Option (List ℕ) → DataValue
list_value None = Null
list_value (Some numbers) = Bytes (numbers_text numbers)

unfoldable pub list_row : Option (List ℕ) → List ℕ
list_row numbers = sent_frame (values_frame (list_value numbers ∷ []))

unfoldable pub list_columns : List ℕ
list_columns = sent_frame (columns_frame (column_of int2vector_type (codes "attrs") ∷ []))

unfoldable pub lists_told : Result (List (Option (List ℕ))) BackendFault → List ℕ
lists_told (Ok lists) = list_columns ++ (flat_map list_row lists ++ end_of_rows (length lists))
lists_told (Err fault) = error_and_ready (Asked fault)

-- ---- and the rows

abbrev pub filter_value : Option (List ℕ) → DataValue
filter_value None = Null
filter_value (Some filter) = Bytes filter

unfoldable pub filter_row : Option (List ℕ) → List ℕ
filter_row filter = sent_frame (values_frame (filter_value filter ∷ []))

unfoldable pub filter_columns : List ℕ
filter_columns = sent_frame (columns_frame (column_of text_type (codes "pg_get_expr") ∷ []))

unfoldable pub filters_told : Result (List (Option (List ℕ))) BackendFault → List ℕ
filters_told (Ok filters) = filter_columns ++ (flat_map filter_row filters ++ end_of_rows (length filters))
filters_told (Err fault) = error_and_ready (Asked fault)
