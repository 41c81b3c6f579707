-- What a TOML text names as publications over the tables of a catalogue. Publications are judged in the order of the text: of each its own
-- members first, then its tables in their order, and of each table its members, its filter, and what its identity asks. The first fault is
-- told.
use Rattle.std.specs.Prelude.{◌≡◌, ℕ, suc, ◌+◌, ◌==◌, Bool, true, false, ◌&&◌, ◌||◌, not, if◌then◌else◌, is_some, List, [], ◌∷◌, ◌++◌, filter, length, map, replicate, codes, Option, Some, None, option_map, ok_or, Result, Ok, Err}
use Rattle.std.specs.List.{list_all, list_any}
use Rattle.std.specs.Str.{bytes_eq}
use Rattle.toml.specs.Data.{Data, Items, no_items, item, get, as_array, as_bool, as_str, as_table}
use Rattle.toml.specs.View.{items_view}
use Rattle.pqformat.specs.Steps.{◌>>=◌}
use Rattle.tables.specs.declared.column.Column.{Column}
use Rattle.tables.specs.declared.identity.Identity.{Identity}
use Rattle.tables.specs.declared.identity.Identity.TheVariants as identities
use Rattle.tables.specs.declared.table.Table.{Table}
use Rattle.catalog.specs.Config.{and_then, document_of, is_column, is_more_than, name_in, names_in}
use Rattle.tables.specs.Tables.{table_named}
use Rattle.conditions.specs.declared.fault.FilterFault.{FilterFault}
use Rattle.rowfilter.specs.Answers.{read_filter}
use Rattle.conditions.specs.Conditions.{Condition, names}
use Rattle.publication_config.specs.declared.document.config_fault.TablePlace.{TablePlace}
use Rattle.publication_config.specs.declared.document.config_fault.PublicationMember.{PublicationMember}
use Rattle.publication_config.specs.declared.document.config_fault.PublicationMember.TheVariants as members
use Rattle.publication_config.specs.declared.document.config_fault.TableMember.{TableMember}
use Rattle.publication_config.specs.declared.document.config_fault.TableMember.TheVariants as table_members
use Rattle.publication_config.specs.declared.document.config_fault.PublicationMisfit.TheVariants as misfits
use Rattle.publication_config.specs.declared.document.config_fault.ConfigRefusal.{ConfigRefusal}
use Rattle.publication_config.specs.declared.document.config_fault.ConfigRefusal.TheVariants as refusals
use Rattle.publication_config.specs.declared.document.config_fault.UnreadPublication.{UnreadPublication}
use Rattle.publication_config.specs.declared.document.config_fault.UnreadPublication.TheVariants as unread
use Rattle.publication_config.specs.declared.document.config_publication.Reach.{Reach as Found}
use Rattle.publication_config.specs.declared.document.config_publication.Reach.TheVariants as founds
use Rattle.publication_config.specs.declared.fault.PubFault.{PubFault}
use Rattle.publication_config.specs.declared.fault.PubFault.TheVariants as faults
use Rattle.publication_config.specs.declared.operations.Operation.{Operation}
use Rattle.publication_config.specs.declared.operations.Operation.TheVariants.{Insert, Update, Delete, Truncate}
use Rattle.publication_config.specs.declared.operations.Operations.{Operations}
use Rattle.publication_config.specs.declared.publication.Publication.{Publication}
use Rattle.publication_config.specs.declared.published_table.PublishedTable.{PublishedTable}
use Rattle.publication_config.specs.Published.{PublicationSet, all_operations, is_identity, is_listed, published_whole, with_operation}

-- what reading a part of a configuration answers, memory apart
abbrev pub Reads : {X : Type 0} → Result X UnreadPublication → Result X ConfigRefusal → Type 0
Reads (Ok x) read = read ≡ Ok x
Reads (Err (unread.Refused refusal)) read = read ≡ Err refusal
Reads (Err unread.Memory) read = Unit {0}

-- ---- what is published of what is done

abbrev pub operation_of : List ℕ → Option Operation
operation_of word =
    if bytes_eq word (codes "insert") then Some Insert
    else if bytes_eq word (codes "update") then Some Update
    else if bytes_eq word (codes "delete") then Some Delete
    else if bytes_eq word (codes "truncate") then Some Truncate
    else None

abbrev pub no_operations : Operations
no_operations = record { insert = false; update = false; delete = false; truncate = false }

unfoldable pub operation_in : Data → Option Operation
operation_in d = and_then (as_str d) operation_of

-- a repeated word counts once
abbrev pub operations_after : Operations → Items → Option Operations
operations_after operations no_items = Some operations
operations_after operations (item d ds) = and_then (operation_in d) (λ operation. operations_after (with_operation operations operation) ds)

-- all operations, where none are named
unfoldable pub operations_in : Option Data → Option Operations
operations_in None = Some all_operations
operations_in (Some d) = and_then (as_array d) (operations_after no_operations)

-- ---- what the identity of a table asks

-- a column, or its place, meets the test; the number is the place of the first
abbrev pub some_column : (ℕ → Column → Bool) → ℕ → List Column → Bool
some_column test place [] = false
some_column test place (column ∷ columns) = test place column || some_column test (suc place) columns

-- a column of the identity is not in the list
abbrev pub lacks_identity : Table → List Bool → Bool
lacks_identity table listed = some_column (λ place column. is_identity table.identity column.is_key && not (is_listed listed place)) 0 table.columns

-- the filter names a column outside the identity
abbrev pub leaves_identity : Table → Condition → Bool
leaves_identity table condition = some_column (λ place column. not (is_identity table.identity column.is_key) && names condition place) 0 table.columns

abbrev pub filter_leaves_identity : Table → Option Condition → Bool
filter_leaves_identity table None = false
filter_leaves_identity table (Some condition) = leaves_identity table condition

abbrev pub is_full : Identity → Bool
is_full identities.Full = true
is_full other = false

abbrev pub is_nothing : Identity → Bool
is_nothing identities.Nothing = true
is_nothing other = false

-- why a table may not be published: subscribers could not find its rows by what is sent of them; the flag says that there is a column list
abbrev pub identity_fault : TablePlace → Operations → Table → Bool → PublishedTable → Option ConfigRefusal
identity_fault place operations table has_list published =
    if not (operations.update || operations.delete) then None
    else if is_nothing table.identity then Some (refusals.NoIdentity place)
    else if has_list && (is_full table.identity || lacks_identity table published.listed) then Some (refusals.ListWithoutIdentity place)
    else if filter_leaves_identity table published.filter then Some (refusals.FilterOutsideIdentity place)
    else None

abbrev pub unless_fault : PublishedTable → Option ConfigRefusal → Result PublishedTable ConfigRefusal
unless_fault published None = Ok published
unless_fault published (Some refusal) = Err refusal

unfoldable pub judged_table : TablePlace → Operations → Table → Bool → PublishedTable → Result PublishedTable ConfigRefusal
judged_table place operations table has_list published = unless_fault published (identity_fault place operations table has_list published)

-- ---- a table of a publication

abbrev pub has_published : List PublishedTable → ℕ → Bool
has_published published oid = list_any (λ t. t.oid == oid) published

abbrev pub unless_published : List PublishedTable → Table → Option Table
unless_published published table = if has_published published table.oid then None else Some table

-- a table of the catalogue, which the publication doesn't have yet
unfoldable pub table_in : List Table → List PublishedTable → Data → Option Table
table_in tables published d =
    and_then (and_then (get (codes "name") d) as_str) (λ name. and_then (table_named name tables) (unless_published published))

-- a text, or none
abbrev pub text_in : Option Data → Option (Option (List ℕ))
text_in None = Some None
text_in (Some d) = option_map (λ text. Some text) (as_str d)

abbrev pub listed_if : Table → List (List ℕ) → Option (List Bool)
listed_if table columns =
    if list_all (is_column table.columns) columns then Some (map (λ c. list_any (bytes_eq c.name) columns) table.columns)
    else None

-- the columns of a list, or all
unfoldable pub listed_in : Table → Option Data → Option (List Bool)
listed_in table None = Some (replicate (length table.columns) true)
listed_in table (Some d) = and_then (names_in d) (listed_if table)

abbrev pub count_if : Bool → ℕ
count_if there = if there then 1 else 0

abbrev pub filter_read : TablePlace → Result Condition FilterFault → Result (Option Condition) ConfigRefusal
filter_read place (Ok condition) = Ok (Some condition)
filter_read place (Err fault) = Err (refusals.BadFilter place fault)

abbrev pub filter_in : TablePlace → Table → Option (List ℕ) → Result (Option Condition) ConfigRefusal
filter_in place table None = Ok None
filter_in place table (Some text) = filter_read place (read_filter table text)

abbrev pub wrong_member : TablePlace → TableMember → ConfigRefusal
wrong_member place which = refusals.Misfit (misfits.Table place which)

-- there are others than a name, and a text and columns where those are there
abbrev pub has_more : Data → Bool
has_more d = is_more_than (1 + count_if (is_some (get (codes "where") d)) + count_if (is_some (get (codes "columns") d))) (as_table d)

-- the columns, and then whether there are others
unfoldable pub columns_in : TablePlace → Table → Data → Result (List Bool) ConfigRefusal
columns_in place table d = do
  listed ← ok_or (listed_in table (get (codes "columns") d)) (wrong_member place table_members.Columns)
  if has_more d then Err (wrong_member place table_members.Other) else Ok listed

unfoldable pub published_in : TablePlace → Operations → List Table → List PublishedTable → Data → Result PublishedTable ConfigRefusal
published_in place operations tables before d = do
  table ← ok_or (table_in tables before d) (wrong_member place table_members.Name)
  text ← ok_or (text_in (get (codes "where") d)) (wrong_member place table_members.Where)
  listed ← columns_in place table d
  condition ← filter_in place table text
  judged_table place operations table (is_some (get (codes "columns") d)) (record { oid = table.oid; filter = condition; listed = listed })

-- the tables of a list, in its order
abbrev pub published_behind : ℕ → Operations → List Table → List PublishedTable → Items → Result (List PublishedTable) ConfigRefusal
published_behind number operations tables published no_items = Ok published
published_behind number operations tables published (item d ds) =
    published_in (record { publication = number; table = length published + 1 }) operations tables published d
    >>= λ t. published_behind number operations tables (published ++ t ∷ []) ds

-- these tables as a whole
abbrev pub whole_after : ℕ → Operations → List PublishedTable → List Table → Result (List PublishedTable) ConfigRefusal
whole_after number operations published [] = Ok published
whole_after number operations published (table ∷ tables) =
    judged_table (record { publication = number; table = length published + 1 }) operations table false (published_whole table)
    >>= λ t. whole_after number operations (published ++ t ∷ []) tables

-- ---- a publication

-- of which tables it is: those of a list, those of schemas, or all
pub data Reach : Type 0 where
  Listed : Items → Reach
  OfSchemas : List (List ℕ) → Reach
  All : Reach

-- whether it is of a table as a whole
abbrev pub has_whole : Reach → Table → Bool
has_whole (Listed ds) t = false
has_whole (OfSchemas schemas) t = list_any (bytes_eq t.schema) schemas
has_whole All t = true

abbrev pub wrong : ℕ → PublicationMember → ConfigRefusal
wrong number which = refusals.Misfit (misfits.Publication number which)

-- a list that isn't empty
abbrev pub listed_by : Items → Option Reach
listed_by no_items = None
listed_by (item d ds) = Some (Listed (item d ds))

unfoldable pub list_in : Data → Option Reach
list_in d = and_then (as_array d) listed_by

abbrev pub is_schema : List Table → List ℕ → Bool
is_schema tables name = list_any (λ t. bytes_eq t.schema name) tables

abbrev pub schemas_if : List Table → List (List ℕ) → Option Reach
schemas_if tables schemas = if list_all (is_schema tables) schemas then Some (OfSchemas schemas) else None

-- names, each of the schema of some table
unfoldable pub schemas_in : List Table → Data → Option Reach
schemas_in tables d = and_then (names_in d) (schemas_if tables)

abbrev pub all_if : Bool → Option Reach
all_if is_all = if is_all then Some All else None

unfoldable pub all_in : Data → Option Reach
all_in d = and_then (as_bool d) all_if

-- Exactly one of tables, schemas and all_tables is there.
abbrev pub reach_of : ℕ → List Table → Option Data → Option Data → Option Data → Result Reach ConfigRefusal
reach_of number tables (Some d) None None = ok_or (list_in d) (wrong number members.Tables)
reach_of number tables None (Some d) None = ok_or (schemas_in tables d) (wrong number members.Schemas)
reach_of number tables None None (Some d) = ok_or (all_in d) (wrong number members.AllTables)
reach_of number tables _ _ _ = Err (wrong number members.OneOfThree)

unfoldable pub reach_in : ℕ → List Table → Data → Result Reach ConfigRefusal
reach_in number tables d = reach_of number tables (get (codes "tables") d) (get (codes "schemas") d) (get (codes "all_tables") d)

-- what the code's reach stands for, and what reading one answers, memory apart
abbrev pub seen_reach : Found → Reach
seen_reach (founds.Listed values) = Listed (items_view values.now)
seen_reach (founds.OfSchemas schemas) = OfSchemas schemas
seen_reach founds.All = All

abbrev pub ReadsReach : Result Found UnreadPublication → Result Reach ConfigRefusal → Type 0
ReadsReach (Ok reach) read = read ≡ Ok (seen_reach reach)
ReadsReach (Err (unread.Refused refusal)) read = read ≡ Err refusal
ReadsReach (Err unread.Memory) read = Unit {0}

abbrev pub published_by : ℕ → Operations → List Table → Reach → Result (List PublishedTable) ConfigRefusal
published_by number operations tables (Listed ds) = published_behind number operations tables [] ds
published_by number operations tables reach = whole_after number operations [] (filter (has_whole reach) tables)

abbrev pub unless_taken : List Publication → List ℕ → Option (List ℕ)
unless_taken publications name = if list_any (λ p. bytes_eq p.name name) publications then None else Some name

-- a name that no publication has yet
unfoldable pub name_of : List Publication → Data → Option (List ℕ)
name_of publications d = and_then (and_then (get (codes "name") d) name_in) (unless_taken publications)

-- there are others than the name, what it is of, and publish where that is there
abbrev pub has_others : Data → Bool
has_others d = is_more_than (2 + count_if (is_some (get (codes "publish") d))) (as_table d)

-- what it is of, then whether there are others, and then its tables
unfoldable pub tables_in : ℕ → Operations → List Table → Data → Result (List PublishedTable) ConfigRefusal
tables_in number operations tables d = do
  reach ← reach_in number tables d
  if has_others d then Err (wrong number members.Other) else published_by number operations tables reach

unfoldable pub publication_in : ℕ → List Table → List Publication → Data → Result Publication ConfigRefusal
publication_in number tables before d = do
  name ← ok_or (name_of before d) (wrong number members.Name)
  operations ← ok_or (operations_in (get (codes "publish") d)) (wrong number members.Publish)
  published ← tables_in number operations tables d
  Ok (record { name = name; operations = operations; tables = published })

-- the publications of a list, in its order
abbrev pub publications_after : List Table → List Publication → Items → Result (List Publication) ConfigRefusal
publications_after tables before no_items = Ok before
publications_after tables before (item d ds) =
    publication_in (length before + 1) tables before d >>= λ p. publications_after tables (before ++ p ∷ []) ds

abbrev pub publications_of : List Table → Option Data → Result (List Publication) ConfigRefusal
publications_of tables None = Ok []
publications_of tables (Some d) = ok_or (as_array d) (refusals.Misfit misfits.NoList) >>= λ ds. publications_after tables [] ds

-- ---- a whole text

-- the code of a refusal
abbrev pub fault_of : ConfigRefusal → PubFault
fault_of (refusals.Misfit misfit) = faults.BadToml misfit
fault_of (refusals.BadFilter place fault) = faults.BadFilter place fault
fault_of (refusals.NoIdentity place) = faults.NoIdentity place
fault_of (refusals.ListWithoutIdentity place) = faults.ListWithoutIdentity place
fault_of (refusals.FilterOutsideIdentity place) = faults.FilterOutsideIdentity place

abbrev pub over : List Table → Result (List Publication) ConfigRefusal → Result PublicationSet PubFault
over tables (Ok publications) = Ok (record { tables = tables; publications = publications; messages = false })
over tables (Err refusal) = Err (fault_of refusal)

-- the publications that a document names over the tables of a catalogue, or why it names none
abbrev pub publications_in : List Table → Data → Result PublicationSet PubFault
publications_in tables d = over tables (publications_of tables (get (codes "publication") d))

-- the same of a text; None where it is no TOML
abbrev pub configured_by : List Table → List ℕ → Option (Result PublicationSet PubFault)
configured_by tables text = option_map (publications_in tables) (document_of text)

-- publications that were read, as a set over these tables
abbrev pub set_over : List Table → Result (List Publication) PubFault → Result PublicationSet PubFault
set_over tables (Ok publications) = Ok (record { tables = tables; publications = publications; messages = false })
set_over tables (Err fault) = Err fault

-- What a reader of documents answers is what the document names, memory apart.
abbrev pub ReadsPublications : Result PublicationSet PubFault → Result PublicationSet PubFault → Type 0
ReadsPublications (Ok publications) read = read ≡ Ok publications
ReadsPublications (Err (faults.NotToml line)) read = ⊥
ReadsPublications (Err faults.Memory) read = Unit {0}
ReadsPublications (Err fault) read = read ≡ Err fault

-- What a reader of texts answers is what the text names, memory apart. Which line of a text that is no TOML is at fault isn't told here.
abbrev pub Configures : Result PublicationSet PubFault → Option (Result PublicationSet PubFault) → Type 0
Configures (Ok publications) named = named ≡ Some (Ok publications)
Configures (Err (faults.NotToml line)) named = named ≡ None
Configures (Err faults.Memory) named = Unit {0}
Configures (Err fault) named = named ≡ Some (Err fault)
