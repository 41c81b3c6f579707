-- What subscribers are told of a table before they copy it (PostgreSQL 15, 31.7).
use Rattle.std.specs.Prelude.{ℕ, Bool, ◌&&◌, List, find, Option, Some, None, option_map}
use Rattle.std.specs.Str.{bytes_eq}
use Rattle.pgoutput.specs.declared.messages.relation.Column.{Column}
use Rattle.tables.specs.declared.identity.Identity.{Identity}
use Rattle.tables.specs.declared.identity.Identity.TheVariants as identities
use Rattle.tables.specs.declared.table.Table.{Table}
use Rattle.publication.specs.Publications.{PublicationSet}
use Rattle.server.specs.declared.found_table.FoundTable.{FoundTable}
use Rattle.server.specs.declared.found_table.TableAttribute.{TableAttribute}
use Rattle.server.specs.declared.found_table.TableIdentity.{TableIdentity}
use Rattle.server.specs.declared.found_table.TableIdentity.TheVariants as told

abbrev pub told_identity : Identity → TableIdentity
told_identity identities.Default = told.Default
told_identity identities.Nothing = told.Nothing
told_identity identities.Full = told.Full

abbrev pub told_table : Table → FoundTable
told_table t = record { oid = t.oid; identity = told_identity t.identity }

-- the table of this schema and name
abbrev pub table_named : PublicationSet → List ℕ → List ℕ → Option Table
table_named s schema name = find (λ t. bytes_eq t.schema schema && bytes_eq t.name name) s.tables

abbrev pub found_table : PublicationSet → List ℕ → List ℕ → Option FoundTable
found_table s schema name = option_map told_table (table_named s schema name)

-- whether a column stands in the index of the replica identity, if there is one
abbrev pub told_key : Identity → Bool → Option Bool
told_key identities.Default is_key = Some is_key
told_key identities.Nothing is_key = None
told_key identities.Full is_key = None

-- a column of a Relation
abbrev pub told_attribute : Identity → Column → TableAttribute
told_attribute identity c = record { name = c.name; type_oid = c.kind; is_identity = told_key identity c.is_key }
