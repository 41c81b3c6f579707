-- What a column list leaves of a table, and the Relation of that (PostgreSQL 15, 31.4 and 55.9).
use Rattle.std.specs.Prelude.{◌<◌, ◌≤◌, ◌^◌, Bool, List, [], ◌∷◌, map, length, if◌then◌else◌}
use Rattle.std.specs.List.{AllByRecursion}
use Rattle.pgoutput.specs.declared.messages.relation.Relation.{Relation}
use Rattle.pgoutput.specs.declared.messages.relation.Column.{Column as ToldColumn}
use Rattle.pgoutput.specs.declared.messages.relation.Identity.{Identity as ToldIdentity}
use Rattle.pgoutput.specs.declared.messages.relation.Identity.TheVariants as told
use Rattle.pgoutput.specs.Relation.{FitsName}
use Rattle.tables.specs.declared.identity.Identity.{Identity}
use Rattle.tables.specs.declared.identity.Identity.TheVariants as identities
use Rattle.tables.specs.declared.column.Column.{Column}
use Rattle.tables.specs.declared.table.Table.{Table}
use Rattle.publication_config.specs.Published.{is_identity}
use Rattle.row_messages.specs.Kinds.{type_modifier, type_oid}

-- what stands at the places that a list has, in its order; the rest is left out
abbrev pub listed_items : {A : Type 0} → List Bool → List A → List A
listed_items [] xs = []
listed_items (listed ∷ flags) [] = []
listed_items (listed ∷ flags) (x ∷ xs) = if listed then x ∷ listed_items flags xs else listed_items flags xs

-- a table as a subscriber sees it: with the columns of the list alone
abbrev pub table_as_published : List Bool → Table → Table
table_as_published listed t = record t { columns = listed_items listed t.columns }

abbrev pub identity_of : Identity → ToldIdentity
identity_of identities.Default = told.Default
identity_of identities.Nothing = told.Nothing
identity_of identities.Full = told.Full

abbrev pub relation_column : Identity → Column → ToldColumn
relation_column identity c = record { is_key = is_identity identity c.is_key; name = c.name; kind = type_oid c.kind; modifier = type_modifier c.kind }

-- the Relation of a table: its columns in table order
abbrev pub relation_of : Table → Relation
relation_of t = record { oid = t.oid; namespace = t.schema; name = t.name; identity = identity_of t.identity; columns = map (relation_column t.identity) t.columns }

-- a table whose Relation fits its fields
pub record FitsTable (t : Table) : Type 0 where
  pub oid : t.oid < 2 ^ 32
  pub schema : FitsName t.schema
  pub schema_length : length t.schema ≤ 63
  pub name : FitsName t.name
  pub name_length : length t.name ≤ 63
  pub columns : AllByRecursion (λ c. FitsName c.name × (length c.name ≤ 63)) t.columns
  pub count : length t.columns ≤ 64
