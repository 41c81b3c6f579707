-- What subscribers are told of the publications of a hub: which there are, and their tables.
use Rattle.std.specs.Prelude.{ℕ, nat_le, Bool, ◌&&◌, List, filter, map, length, Option, option_map}
use Rattle.std.specs.List.{filter_map, list_any}
use Rattle.std.specs.Str.{bytes_eq}
use Rattle.publication.specs.Publications.{PublicationSet}
use Rattle.publication.specs.Choosing.{selected_publications}
use Rattle.publication.specs.Selection.{selected_oids, selected_table}
use Rattle.row_messages.specs.Relations.{relation_of}
use Rattle.server.specs.declared.asked.table_name.TableName.{TableName}
use Rattle.server.specs.declared.asked.table_name.TableColumns.{TableColumns}
use Rattle.server_state.specs.declared.publications.published.TheConstants.{MOST_NAME_BYTES}

-- A publication has this name. PostgreSQL's names are no longer.
abbrev pub is_publication : PublicationSet → List ℕ → Bool
is_publication s name = nat_le (length name) MOST_NAME_BYTES && list_any (λ p. bytes_eq p.name name) s.publications

-- the name of a table of a selection
abbrev pub told_table : PublicationSet → ℕ → Option TableName
told_table selection oid = option_map (λ t. record { schema = t.schema; name = t.name }) (selected_table selection oid)

-- the tables of a selection, each once, in the order of the catalogue
abbrev pub tables_in : PublicationSet → List TableName
tables_in selection = filter_map (told_table selection) (selected_oids selection)

-- what the publications of these names select together
abbrev pub selection_told : PublicationSet → List (List ℕ) → PublicationSet
selection_told s names = selected_publications s (filter (is_publication s) names)

-- the tables of the publications of these names
abbrev pub tables_told : PublicationSet → List (List ℕ) → List TableName
tables_told s names = tables_in (selection_told s names)

-- a table of a selection with the columns of its Relation
abbrev pub told_columns : PublicationSet → ℕ → Option TableColumns
told_columns selection oid =
    option_map (λ t. record { table = record { schema = t.schema; name = t.name }; columns = map (λ c. c.name) (relation_of t).columns }) (selected_table selection oid)

abbrev pub columns_in : PublicationSet → List TableColumns
columns_in selection = filter_map (told_columns selection) (selected_oids selection)

-- the same tables, with their columns that are published
abbrev pub columns_told : PublicationSet → List (List ℕ) → List TableColumns
columns_told s names = columns_in (selection_told s names)
