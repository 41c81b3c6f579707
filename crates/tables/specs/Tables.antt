-- Which rows a table takes, and which changes fit a catalogue.
use Rattle.std.specs.Prelude.{◌≡◌, ℕ, ◌^◌, ◌<◌, ◌≤◌, ◌==◌, nat_le, Bool, true, false, ◌&&◌, ◌||◌, not, List, [], ◌∷◌, ◌++◌, length, codes, count_by, filter, find, map, Option, IsSome, IsSomeAnd}
use Rattle.std.specs.List.{list_all, list_any, zip, AllByRecursion}
use Rattle.std.specs.Str.{bytes_eq, is_utf8}
use Rattle.tables.specs.declared.table.TheConstants.{MAX_NAME_LENGTH}
use Rattle.tables.specs.declared.table.TheConstants.{MAX_COLUMNS}
use Rattle.tables.specs.declared.rows.row.TheConstants.{MAX_ROW_LENGTH}
use Rattle.tables.specs.declared.changes.change_body.TheConstants.{MAX_TRUNCATED}
use Rattle.tables.specs.declared.kinds.Kind.TheVariants as kinds
use Rattle.tables.specs.declared.identity.Identity.TheVariants as identities
use Rattle.tables.specs.declared.kinds.Value.{Value}
use Rattle.tables.specs.declared.kinds.Value.TheVariants as values
use Rattle.tables.specs.declared.column.Column.{Column}
use Rattle.tables.specs.declared.table.Table.{Table}
use Rattle.tables.specs.declared.changes.change.Change.{Change}
use Rattle.tables.specs.declared.changes.change.Change.TheVariants as changes
use Rattle.tables.specs.declared.changes.message.TheConstants.{MAX_PREFIX_LENGTH, MAX_CONTENT_LENGTH}
use Rattle.tables.specs.declared.changes.message.Message.{Message}
use Rattle.tables.specs.Kinds.{IsValue, has_no_zero, is_of_kind}
use Rattle.tables.specs.Spelling.{spell_row}

-- the table public.item: id int4 in the key, name text, qty int8
abbrev pub item_table : Table
item_table = record {
  oid = 16384;
  schema = codes "public";
  name = codes "item";
  identity = identities.Default;
  columns = record { name = codes "id"; kind = kinds.Int4; is_key = true }
      ∷ record { name = codes "name"; kind = kinds.Text; is_key = false }
      ∷ record { name = codes "qty"; kind = kinds.Int8; is_key = false } ∷ [];
}

-- a catalogue of that table alone
abbrev pub item_tables : List Table
item_tables = item_table ∷ []

-- the table of this OID
abbrev pub table_of : ℕ → List Table → Option Table
table_of oid tables = find (λ table. table.oid == oid) tables

-- schema, a dot and name, as one text
abbrev pub full_name : Table → List ℕ
full_name table = table.schema ++ 46 ∷ table.name

abbrev pub table_named : List ℕ → List Table → Option Table
table_named name tables = find (λ table. bytes_eq (full_name table) name) tables

-- 1 to 63 bytes, no zero byte and no dot
abbrev pub is_name : List ℕ → Bool
is_name text = not (length text == 0) && (nat_le (length text) MAX_NAME_LENGTH && (has_no_zero text && list_all (λ b. not (b == 46)) text))

-- a name, in UTF-8 as every text of Rust
abbrev pub IsName : List ℕ → Type 0
IsName text = (is_name text ≡ true) × (is_utf8 text ≡ true)

-- at most 64 columns, each named
abbrev pub AreColumns : List Column → Type 0
AreColumns columns = AllByRecursion (λ c. IsName c.name) columns × (length columns ≤ MAX_COLUMNS)

-- what every table of a catalogue is
pub record IsTable (table : Table) : Type 0 where
  pub oid : table.oid < 2 ^ 32
  pub schema : IsName table.schema
  pub name : IsName table.name
  pub columns : AreColumns table.columns

-- a column takes null, unless it belongs to the key, and values of its kind
abbrev pub fits_column : Column → Value → Bool
fits_column column values.Null = not column.is_key
fits_column column value = is_of_kind column.kind value

-- one value for each column, which takes it
abbrev pub fits_table : Table → List Value → Bool
fits_table table row = (length table.columns == length row) && list_all (λ p. fits_column p.0 p.1) (zip table.columns row)

-- one value for each column of the primary key, in table order, which takes it
abbrev pub fits_key : Table → List Value → Bool
fits_key table key =
    (count_by (λ c. c.is_key) table.columns == length key) && list_all (λ p. fits_column p.0 p.1) (zip (filter (λ c. c.is_key) table.columns) key)

-- a row that may stand in the log for this table
pub record FitsRow (tables : List Table) (oid : ℕ) (row : List Value) : Type 0 where
  pub number : oid < 2 ^ 32
  pub fits : IsSomeAnd (table_of oid tables) (λ table. fits_table table row ≡ true)
  pub in_range : AllByRecursion IsValue row
  pub short : length (spell_row row) ≤ MAX_ROW_LENGTH

-- at most 63 bytes, and no zero byte
abbrev pub is_prefix : List ℕ → Bool
is_prefix text = nat_le (length text) MAX_PREFIX_LENGTH && has_no_zero text

-- a message that may stand in the log, whatever the tables are
pub record FitsMessage (message : Message) : Type 0 where
  pub prefix : is_prefix message.prefix ≡ true
  pub in_range : is_utf8 message.prefix ≡ true
  pub short : length message.content ≤ MAX_CONTENT_LENGTH

abbrev pub FitsChange : List Table → Change → Type 0
FitsChange tables (changes.Insert oid row) = FitsRow tables oid row
FitsChange tables (changes.Update oid old row) = FitsRow tables oid old × FitsRow tables oid row
FitsChange tables (changes.Delete oid old) = FitsRow tables oid old
FitsChange tables (changes.Truncate oids) =
    (length oids ≤ MAX_TRUNCATED) × AllByRecursion (λ oid. (oid < 2 ^ 32) × IsSome (table_of oid tables)) oids
FitsChange tables (changes.Message message) = FitsMessage message

-- a table stands there twice
abbrev pub repeats : List ℕ → Bool
repeats [] = false
repeats (oid ∷ oids) = list_any (λ other. other == oid) oids || repeats oids

-- Schema and name are those of the other table.
abbrev pub is_namesake : Table → Table → Bool
is_namesake u t = bytes_eq u.schema t.schema && bytes_eq u.name t.name

-- two of the tables have one name
abbrev pub has_namesakes : List Table → Bool
has_namesakes [] = false
has_namesakes (t ∷ tables) = list_any (λ u. is_namesake u t) tables || has_namesakes tables

abbrev pub oids_of : List Table → List ℕ
oids_of tables = map (λ t. t.oid) tables

-- what the tables of a catalogue are: each is one, and no two have one OID or one name
pub record AreCatalogued (tables : List Table) : Type 0 where
  pub each : AllByRecursion IsTable tables
  pub oids : repeats (oids_of tables) ≡ false
  pub names : has_namesakes tables ≡ false
