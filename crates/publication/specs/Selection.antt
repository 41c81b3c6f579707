-- The tables of a selection, and what it says of each: its listed columns, and its Relation (PostgreSQL 15, 31.4 and 55.9).
use Rattle.std.specs.Prelude.{ℕ, Bool, List, [], ◌∷◌, map, filter, Option, Some, None, option_map, if◌then◌else◌}
use Rattle.std.specs.List.{list_any, AllByRecursion}
use Rattle.pgoutput.specs.declared.messages.relation.Relation.{Relation}
use Rattle.pgoutput.specs.declared.messages.relation.Identity.TheVariants as told
use Rattle.tables.specs.declared.table.Table.{Table}
use Rattle.tables.specs.Tables.{table_of}
use Rattle.row_messages.specs.Relations.{FitsTable, relation_of, table_as_published}
use Rattle.publication_config.specs.declared.publication.Publication.{Publication}
use Rattle.publication_config.specs.declared.published_table.PublishedTable.{PublishedTable}
use Rattle.publication_config.specs.Published.{PublicationSet, has, table_in}

-- whether some publication of the selection has the table of this OID
abbrev pub has_table : PublicationSet → ℕ → Bool
has_table s oid = list_any (has oid) s.publications

-- the list of a table, or this one where there is no such table
abbrev pub listed_or : List Bool → Option PublishedTable → List Bool
listed_or others None = others
listed_or others (Some t) = t.listed

-- The column list for the table of this OID. The publications of a selection agree on it, so it is that of the first that has the table.
abbrev pub list_by : List Publication → ℕ → List Bool
list_by [] oid = []
list_by (p ∷ publications) oid = listed_or (list_by publications oid) (table_in oid p)

-- the table of this OID, if the selection has it
abbrev pub whole_table : PublicationSet → ℕ → Option Table
whole_table s oid = if has_table s oid then table_of oid s.tables else None

-- the same as the selection shows it
abbrev pub selected_table : PublicationSet → ℕ → Option Table
selected_table s oid = option_map (table_as_published (list_by s.publications oid)) (whole_table s oid)

-- the tables of the selection, in the order of the catalogue
abbrev pub selected_oids : PublicationSet → List ℕ
selected_oids s = filter (has_table s) (map (λ t. t.oid) s.tables)

-- outside the selection no message names a table
abbrev pub no_relation : ℕ → Relation
no_relation oid = record { oid = oid; namespace = []; name = []; identity = told.Nothing; columns = [] }

abbrev pub relation_in : ℕ → Option Table → Relation
relation_in oid None = no_relation oid
relation_in oid (Some table) = relation_of table

-- the Relation of the table of each OID
abbrev pub relation : PublicationSet → ℕ → Relation
relation s oid = relation_in oid (selected_table s oid)

abbrev pub FitTables : PublicationSet → Type 0
FitTables s = AllByRecursion FitsTable s.tables
