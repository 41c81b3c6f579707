-- What an initial copy of a table hands over (PostgreSQL 15, 31.7): its rows that the filter of one of the publications passes, with the
-- columns that are asked for. Which operations a publication publishes has no say in it.
use Rattle.std.specs.Prelude.{ℕ, ◌==◌, Bool, false, List, [], ◌∷◌, length, map, if◌then◌else◌, Option, Some, None}
use Rattle.publication_config.specs.declared.operations.Operations.{Operations}
use Rattle.publication_config.specs.declared.publication.Publication.{Publication}
use Rattle.publication_config.specs.declared.published_table.PublishedTable.{PublishedTable}
use Rattle.publication_config.specs.Published.{PublicationSet, all_operations, publications_named, table_in}

-- the table under this list, with the filter that a publication has for it
abbrev pub with_list : ℕ → List Bool → Option PublishedTable → List PublishedTable
with_list oid listed None = []
with_list oid listed (Some t) = record { oid = oid; filter = t.filter; listed = listed } ∷ []

-- a publication of that table alone, and of all operations
abbrev pub copied_publication : ℕ → List Bool → Publication → Publication
copied_publication oid listed p = record { name = p.name; operations = all_operations; tables = with_list oid listed (table_in oid p) }

-- all rows of the table
abbrev pub copied_whole : ℕ → List Bool → Publication
copied_whole oid listed = record { name = []; operations = all_operations; tables = record { oid = oid; filter = None; listed = listed } ∷ [] }

-- by the publications of these names, or, with no name, all rows
abbrev pub copied_publications : ℕ → List Bool → List (List ℕ) → List Publication → List Publication
copied_publications oid listed names publications = if length names == 0 then copied_whole oid listed ∷ [] else map (copied_publication oid listed) (publications_named names publications)

-- what the copy is of: a row is handed over where its insert would be a message, and as the tuple of that
abbrev pub copied_by : PublicationSet → ℕ → List Bool → List (List ℕ) → PublicationSet
copied_by s oid listed names = record { tables = s.tables; publications = copied_publications oid listed names s.publications; messages = false }
