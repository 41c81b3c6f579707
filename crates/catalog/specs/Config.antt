-- What a TOML text names as tables. The members of a table are judged in one order, and the first that is wrong is told.
use Rattle.std.specs.Prelude.{◌||◌, ◌≡◌, ℕ, ℤ, pos, nat_abs, int_le, ◌+◌, ◌==◌, nat_lt, Bool, true, ◌&&◌, not, if◌then◌else◌, is_some, List, [], ◌∷◌, ◌++◌, length, codes, Option, Some, None, option_map, ok_or, Result, Ok, Err}
use Rattle.std.specs.List.{list_all, list_any}
use Rattle.std.specs.Str.{bytes_eq}
use Rattle.toml.specs.Data.{Data, Items, no_items, item, Members, no_members, member, table, get, at, as_str, as_integer, as_array, as_table}
use Rattle.toml.specs.Parse.{parse_document}
use Rattle.toml.specs.View.{view}
use Rattle.toml.specs.declared.value.Value.{Value}
use Rattle.pqformat.specs.Steps.{◌>>=◌}
use Rattle.tables.specs.declared.kinds.Kind.{Kind}
use Rattle.tables.specs.declared.identity.Identity.{Identity}
use Rattle.tables.specs.declared.identity.Identity.TheVariants as identities
use Rattle.tables.specs.declared.column.Column.{Column}
use Rattle.tables.specs.declared.table.Table.{Table}
use Rattle.catalog.specs.declared.config_fault.CatalogMember.{CatalogMember}
use Rattle.catalog.specs.declared.config_fault.CatalogMember.TheVariants as members
use Rattle.catalog.specs.declared.config_fault.CatalogMisfit.{CatalogMisfit}
use Rattle.catalog.specs.declared.config_fault.CatalogMisfit.TheVariants as misfits
use Rattle.catalog.specs.declared.config_fault.CatalogFault.{CatalogFault}
use Rattle.catalog.specs.declared.config_fault.CatalogFault.TheVariants as faults
use Rattle.catalog.specs.declared.config.TheConstants.{MAX_TABLES}
use Rattle.tables.specs.declared.table.TheConstants.{MAX_COLUMNS}
use Rattle.catalog.specs.declared.config_member.TheConstants.{MAX_OID}
use Rattle.catalog.specs.declared.config_table.UnreadTable.{UnreadTable}
use Rattle.catalog.specs.declared.config_table.UnreadTable.TheVariants as unread
use Rattle.tables.specs.Kinds.{identifies, kind_named}
use Rattle.tables.specs.Tables.{is_name, is_namesake}

-- what is read of what was found, if anything was
abbrev pub and_then : {A B : Type 0} → Option A → (A → Option B) → Option B
and_then None f = None
and_then (Some x) f = f x

unfoldable pub name_in : Data → Option (List ℕ)
name_in d = and_then (as_str d) (λ text. if is_name text then Some text else None)

abbrev pub oid_of : ℤ → Option ℕ
oid_of number = if int_le (pos 1) number && int_le number MAX_OID then Some (nat_abs number) else None

unfoldable pub oid_in : Data → Option ℕ
oid_in d = and_then (as_integer d) oid_of

abbrev pub identity_of : List ℕ → Option Identity
identity_of text =
    if bytes_eq text (codes "default") then Some identities.Default
    else if bytes_eq text (codes "nothing") then Some identities.Nothing
    else if bytes_eq text (codes "full") then Some identities.Full
    else None

-- the primary key, where no identity is named
unfoldable pub identity_in : Option Data → Option Identity
identity_in None = Some identities.Default
identity_in (Some d) = and_then (as_str d) identity_of

unfoldable pub kind_in : Data → Option Kind
kind_in d = and_then (as_str d) kind_named

abbrev pub unless_empty : {X : Type 0} → List X → Option (List X)
unless_empty [] = None
unless_empty (x ∷ xs) = Some (x ∷ xs)

-- one more name, which isn't among them
unfoldable pub another_name : List (List ℕ) → Data → Option (List ℕ)
another_name names d = and_then (name_in d) (λ name. if list_any (bytes_eq name) names then None else Some name)

abbrev pub names_behind : List (List ℕ) → Items → Option (List (List ℕ))
names_behind names no_items = Some names
names_behind names (item d ds) = and_then (another_name names d) (λ name. names_behind (names ++ name ∷ []) ds)

-- one or more names, each once
unfoldable pub names_in : Data → Option (List (List ℕ))
names_in d = and_then (as_array d) (λ ds. and_then (names_behind [] ds) unless_empty)

-- a list of two
unfoldable pub pair_in : Data → Option (Data × Data)
pair_in d = and_then (at 0 d) (λ first. and_then (at 1 d) (λ second. if is_some (at 2 d) then None else Some (first, second)))

abbrev pub is_column : List Column → List ℕ → Bool
is_column columns name = list_any (λ column. bytes_eq column.name name) columns

-- a name, which none of them has, and a type
unfoldable pub another_column : List (List ℕ) → List Column → Data → Option Column
another_column key columns d =
    and_then (pair_in d) (λ pair.
    and_then (name_in pair.0) (λ name.
    and_then (kind_in pair.1) (λ kind.
    if is_column columns name then None
    else Some (record { name = name; kind = kind; is_key = list_any (bytes_eq name) key }))))

-- the next column, where there is room for one more
unfoldable pub next_column : List (List ℕ) → List Column → Data → Option Column
next_column key columns d = if nat_lt (length columns) MAX_COLUMNS then another_column key columns d else None

abbrev pub columns_after : List (List ℕ) → List Column → Items → Option (List Column)
columns_after key columns no_items = Some columns
columns_after key columns (item d ds) = and_then (next_column key columns d) (λ column. columns_after key (columns ++ column ∷ []) ds)

unfoldable pub columns_in : List (List ℕ) → Data → Option (List Column)
columns_in key d = and_then (as_array d) (λ ds. and_then (columns_after key [] ds) unless_empty)

-- the member of this name, where it is there and is read so
abbrev pub told_member : {M X : Type 0} → M → List ℕ → (Data → Option X) → Data → Result X M
told_member which key read d = ok_or (and_then (get key d) read) which

abbrev pub count_of : Members → ℕ
count_of no_members = 0
count_of (member k d ms) = count_of ms + 1

abbrev pub is_more_than : ℕ → Option Members → Bool
is_more_than known None = true
is_more_than known (Some ms) = not (count_of ms == known)

-- There are others than the five members and the identity, where that is there.
abbrev pub has_others : Data → Bool
has_others d = is_more_than (if is_some (get (codes "identity") d) then 6 else 5) (as_table d)

-- Rows can be told apart by the values of its columns.
abbrev pub is_identifying : List Column → Bool
is_identifying columns = list_all (λ column. not column.is_key || identifies column.kind) columns

-- the columns, of which some have the names of the key
unfoldable pub columns_at : Data → Result (List Column) CatalogMember
columns_at d = do
  key ← told_member members.Key (codes "key") names_in d
  columns ← told_member members.Columns (codes "columns") (columns_in key) d
  if list_all (is_column columns) key && is_identifying columns then Ok columns else Err members.Key

unfoldable pub table_in : Data → Result Table CatalogMember
table_in d = do
  oid ← told_member members.Oid (codes "oid") oid_in d
  schema ← told_member members.Schema (codes "schema") name_in d
  name ← told_member members.Name (codes "name") name_in d
  identity ← ok_or (identity_in (get (codes "identity") d)) members.Identity
  columns ← columns_at d
  if has_others d then Err members.Other
      else Ok (record { oid = oid; schema = schema; name = name; identity = identity; columns = columns })

-- what reading a table or a part of it answers, memory apart
abbrev pub Reads : {X : Type 0} → Result X UnreadTable → Result X CatalogMember → Type 0
Reads (Ok x) read = read ≡ Ok x
Reads (Err (unread.Wrong which)) read = read ≡ Err which
Reads (Err unread.Memory) read = Unit {0}

-- the OID or the name of the table is that of another
abbrev pub clash : List Table → Table → Option CatalogMember
clash tables t =
    if list_any (λ u. u.oid == t.oid) tables then Some members.Oid
    else if list_any (λ u. is_namesake u t) tables then Some members.Name
    else None

abbrev pub unless_clash : Table → Option CatalogMember → Result Table CatalogMember
unless_clash t None = Ok t
unless_clash t (Some which) = Err which

-- a table that has neither the OID nor the name of another
unfoldable pub another_table : List Table → Data → Result Table CatalogMember
another_table tables d = table_in d >>= λ t. unless_clash t (clash tables t)

abbrev pub numbered : {X : Type 0} → ℕ → Result X CatalogMember → Result X CatalogMisfit
numbered n (Ok x) = Ok x
numbered n (Err which) = Err (misfits.Table n which)

-- the next table, where there is room for one more
unfoldable pub next_table : List Table → Data → Result Table CatalogMisfit
next_table tables d =
    if nat_lt (length tables) MAX_TABLES then numbered (length tables + 1) (another_table tables d) else Err misfits.TooMany

-- the tables of a list, in its order
abbrev pub tables_after : List Table → Items → Result (List Table) CatalogMisfit
tables_after tables no_items = Ok tables
tables_after tables (item d ds) = next_table tables d >>= λ t. tables_after (tables ++ t ∷ []) ds

abbrev pub tables_of : Option Data → Result (List Table) CatalogMisfit
tables_of None = Ok []
tables_of (Some d) = ok_or (as_array d) misfits.NoList >>= λ ds. tables_after [] ds

-- what reading tables answers, memory apart
abbrev pub ReadsTables : {X : Type 0} → Result X CatalogFault → Result X CatalogMisfit → Type 0
ReadsTables (Ok x) read = read ≡ Ok x
ReadsTables (Err (faults.BadTables misfit)) read = read ≡ Err misfit
ReadsTables (Err (faults.NotToml line)) read = ⊥
ReadsTables (Err faults.Memory) read = Unit {0}

-- the tables of a document
abbrev pub tables_in : Data → Result (List Table) CatalogMisfit
tables_in d = tables_of (get (codes "table") d)

-- what a TOML text says, as one table of its members; None where it is no TOML
abbrev pub document_of : List ℕ → Option Data
document_of text = option_map table (parse_document text)

-- What reading a document answers. Which line of a text that is no TOML is at fault isn't told here.
abbrev pub ReadsDocument : Result Value CatalogFault → Option Data → Type 0
ReadsDocument (Ok value) read = read ≡ Some (view value)
ReadsDocument (Err (faults.NotToml line)) read = read ≡ None
ReadsDocument (Err (faults.BadTables misfit)) read = ⊥
ReadsDocument (Err faults.Memory) read = Unit {0}

-- the tables that a text names
abbrev pub named_by : List ℕ → Option (Result (List Table) CatalogMisfit)
named_by text = option_map tables_in (document_of text)

-- What a reader answers is what the text names, memory apart.
abbrev pub Names : Result (List Table) CatalogFault → Option (Result (List Table) CatalogMisfit) → Type 0
Names (Ok tables) named = named ≡ Some (Ok tables)
Names (Err (faults.NotToml line)) named = named ≡ None
Names (Err (faults.BadTables misfit)) named = named ≡ Some (Err misfit)
Names (Err faults.Memory) named = Unit {0}
