-- Publications as values, over the tables of a catalogue (PostgreSQL 15, 31.1 to 31.4): the tables that each has, what it publishes of each,
-- and where two of them differ.
use Rattle.std.specs.Prelude.{ℕ, get_or, ◌==◌, Bool, true, false, ◌&&◌, not, List, filter, find, length, replicate, if◌then◌else◌, Option, None}
use Rattle.std.specs.List.{list_all, list_any, zip}
use Rattle.std.specs.Str.{bytes_eq}
use Rattle.tables.specs.declared.identity.Identity.{Identity}
use Rattle.tables.specs.declared.identity.Identity.TheVariants as identities
use Rattle.tables.specs.declared.table.Table.{Table}
-- for whoever tells of publications in the value of a type
pub use Rattle.rowfilter.specs.Codes.{condition_code}
use Rattle.publication_config.specs.declared.operations.Operation.{Operation}
use Rattle.publication_config.specs.declared.operations.Operation.TheVariants.{Insert, Update, Delete, Truncate}
use Rattle.publication_config.specs.declared.operations.Operations.{Operations}
use Rattle.publication_config.specs.declared.published_table.PublishedTable.{PublishedTable}
use Rattle.publication_config.specs.declared.publication.Publication.{Publication}

-- Publications, and the tables of the catalogue that they are over. What a stream selects of them by names is such a set too; it also
-- tells whether the stream asked for the messages of the log.
pub record PublicationSet : Type 0 where
  pub tables : List Table
  pub publications : List Publication
  pub messages : Bool

-- ---- What a publication has and publishes.

abbrev pub publishes : Operations → Operation → Bool
publishes operations Insert = operations.insert
publishes operations Update = operations.update
publishes operations Delete = operations.delete
publishes operations Truncate = operations.truncate

abbrev pub with_operation : Operations → Operation → Operations
with_operation operations Insert = record operations { insert = true }
with_operation operations Update = record operations { update = true }
with_operation operations Delete = record operations { delete = true }
with_operation operations Truncate = record operations { truncate = true }

-- whether a publication has the table of this OID
abbrev pub has : ℕ → Publication → Bool
has oid p = list_any (λ t. t.oid == oid) p.tables

-- what a publication has of the table of this OID
abbrev pub table_in : ℕ → Publication → Option PublishedTable
table_in oid p = find (λ t. t.oid == oid) p.tables

-- whether a list has the column at this place
abbrev pub is_listed : List Bool → ℕ → Bool
is_listed listed place = get_or listed place false

-- whether a column belongs to the identity: the primary key, no column, or every column
abbrev pub is_identity : Identity → Bool → Bool
is_identity identities.Default is_key = is_key
is_identity identities.Nothing is_key = false
is_identity identities.Full is_key = true

-- ---- Publications of one list.

-- the same columns of one table
abbrev pub same_list : List Bool → List Bool → Bool
same_list a b = (length a == length b) && list_all (λ p. if p.0 then p.1 else not p.1) (zip a b)

-- another column list for the same table
abbrev pub differs_from : PublishedTable → PublishedTable → Bool
differs_from t u = (u.oid == t.oid) && not (same_list u.listed t.listed)

-- whether a publication has another column list for a table
abbrev pub lists_otherwise : PublishedTable → Publication → Bool
lists_otherwise t p = list_any (differs_from t) p.tables

abbrev pub is_listed_otherwise : List Publication → PublishedTable → Bool
is_listed_otherwise publications t = list_any (lists_otherwise t) publications

-- whether one of the names is the publication's
abbrev pub is_among : List (List ℕ) → Publication → Bool
is_among names p = list_any (bytes_eq p.name) names

-- the publications of these names, each once however often it is named
abbrev pub publications_named : List (List ℕ) → List Publication → List Publication
publications_named names publications = filter (is_among names) publications

-- whether two of the publications have different column lists for one table
abbrev pub conflicts : List Publication → Bool
conflicts publications = list_any (λ p. list_any (is_listed_otherwise publications) p.tables) publications

-- ---- A table and operations without a choice.

abbrev pub published_whole : Table → PublishedTable
published_whole t = record { oid = t.oid; filter = None; listed = replicate (length t.columns) true }

abbrev pub all_operations : Operations
all_operations = record { insert = true; update = true; delete = true; truncate = true }
