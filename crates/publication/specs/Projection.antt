-- The message of a change, or none (PostgreSQL 15, 31.1 to 31.4 and 55.9).
use Rattle.std.specs.Prelude.{◌≡◌, ◌&&◌, ◌==◌, ℕ, Bool, true, false, not, List, [], length, filter, nat_le, is_some, Option, Some, None, IsSome, option_map, option_and_then, if◌then◌else◌}
use Rattle.std.specs.List.{list_all, list_any, AllByRecursion}
use Rattle.std.specs.Str.{is_utf8}
use Rattle.pgoutput.specs.declared.logical.Logical.{Logical}
use Rattle.pgoutput.specs.declared.logical.Logical.TheVariants as logical
use Rattle.pgoutput.specs.Logical.{FitsLogical}
use Rattle.tables.specs.declared.changes.change_body.TheConstants.{MAX_TRUNCATED}
use Rattle.tables.specs.declared.kinds.Value.{Value}
use Rattle.tables.specs.declared.table.Table.{Table}
use Rattle.tables.specs.declared.changes.change.Change.{Change}
use Rattle.tables.specs.declared.changes.change.Change.TheVariants as changes
use Rattle.tables.specs.Tables.{repeats}
use Rattle.tables.specs.Kinds.{IsValue}
use Rattle.tables.specs.Tables.{table_of}
use Rattle.pgoutput.specs.Items.{tables_of, IsShortMessage, IsOfChange, FitsRelationOf}
use Rattle.publication_config.specs.declared.operations.Operation.{Operation}
use Rattle.publication_config.specs.declared.operations.Operation.TheVariants.{Insert, Update, Delete, Truncate}
use Rattle.publication_config.specs.Published.{PublicationSet, has, publishes}
use Rattle.publication.specs.Publications.{passes_in}
use Rattle.row_messages.specs.Relations.{listed_items}
use Rattle.row_messages.specs.Messages.{stands_in, insert_message, update_message, delete_message}
use Rattle.publication.specs.Selection.{list_by, selected_table, relation}
use Rattle.publication.specs.declared.projection.Projected.{Projected}
use Rattle.publication.specs.declared.projection.Projected.TheVariants.{Nothing, Message}

-- ---- What passes.

-- whether some publication of the selection publishes the operation for the table
abbrev pub is_published : PublicationSet → Operation → ℕ → Bool
is_published s operation oid = list_any (λ p. publishes p.operations operation && has oid p) s.publications

-- whether some publication of the selection publishes the operation for the table, and has no filter for it or one that is true of the row
abbrev pub passes : PublicationSet → Operation → ℕ → List Value → Bool
passes s operation oid row = list_any (passes_in operation oid row) s.publications

-- ---- What fits the catalogue: the table, the rows and the list of a change are none that S1, S2 or S6 refuses.

abbrev pub stands : Option Table → List Value → Bool
stands None row = false
stands (Some table) row = stands_in table row

abbrev pub may_be_emptied : List Table → List ℕ → Bool
may_be_emptied tables oids =
    list_all (λ oid. is_some (table_of oid tables)) oids && (not (length oids == 0) && (not (repeats oids) && nat_le (length oids) MAX_TRUNCATED))

abbrev pub fits_catalogue : List Table → Change → Bool
fits_catalogue tables (changes.Insert oid row) = stands (table_of oid tables) row
fits_catalogue tables (changes.Update oid old new) = stands (table_of oid tables) old && stands (table_of oid tables) new
fits_catalogue tables (changes.Delete oid old) = stands (table_of oid tables) old
fits_catalogue tables (changes.Truncate oids) = may_be_emptied tables oids
fits_catalogue tables (changes.Message m) = false

-- ---- Messages.

abbrev pub truncate_message : List ℕ → Option Logical
truncate_message [] = None
truncate_message oids = Some (logical.Truncate (record { options = record { cascade = false; restart_identity = false }; oids = oids }))

-- An update of a row that passed and passes still is one; else a row has come, or gone, for whoever reads what passes.
abbrev pub message_of_update : (old_passes new_passes : Bool) → Option Table → (old new : List Value) → Option Logical
message_of_update true true t old new = option_map (update_message old new) t
message_of_update false true t old new = option_map (insert_message new) t
message_of_update true false t old new = option_and_then (delete_message old) t
message_of_update false false t old new = None

-- the listed columns of a row
abbrev pub row_as_published : PublicationSet → ℕ → List Value → List Value
row_as_published s oid row = listed_items (list_by s.publications oid) row

-- The message of a change that fits the catalogue. The whole row is judged, its listed columns are told. A message of the log is no
-- change of a table (`Logged.antt`).
abbrev pub message_by : PublicationSet → Change → Option Logical
message_by s (changes.Insert oid row) = if passes s Insert oid row then option_map (insert_message (row_as_published s oid row)) (selected_table s oid) else None
message_by s (changes.Update oid old new) = message_of_update (passes s Update oid old) (passes s Update oid new) (selected_table s oid) (row_as_published s oid old) (row_as_published s oid new)
message_by s (changes.Delete oid old) = if passes s Delete oid old then option_and_then (delete_message (row_as_published s oid old)) (selected_table s oid) else None
message_by s (changes.Truncate oids) = truncate_message (filter (is_published s Truncate) oids)
message_by s (changes.Message m) = None

abbrev pub only_if : Option Logical → Bool → Option Logical
only_if None fits = None
only_if (Some m) fits = if fits then Some m else None

abbrev pub message : PublicationSet → Change → Option Logical
message s change = only_if (message_by s change) (fits_catalogue s.tables change)

abbrev pub projection_of : Option Logical → Projected
projection_of None = Nothing
projection_of (Some m) = Message m

-- the values in the rows of a change, and the prefix of a message, are those of Rust
abbrev pub AreValues : Change → Type 0
AreValues (changes.Insert oid row) = AllByRecursion IsValue row
AreValues (changes.Update oid old new) = AllByRecursion IsValue old × AllByRecursion IsValue new
AreValues (changes.Delete oid old) = AllByRecursion IsValue old
AreValues (changes.Truncate oids) = Unit {0}
AreValues (changes.Message m) = is_utf8 m.prefix ≡ true

-- ---- What the stream asks of the message of a change.

-- The selection has the tables that it names; it fits its fields and a frame, and so do the Relations of the tables that it names, with as many columns as its tuples have
-- cells.
pub record MessageFits (s : PublicationSet) (m : Logical) : Type 0 where
  pub known : AllByRecursion (λ oid. IsSome (selected_table s oid)) (tables_of m)
  pub of_change : IsOfChange (relation s) m
  pub fits : FitsLogical m
  pub short : IsShortMessage m
  pub relations : AllByRecursion (FitsRelationOf (relation s)) (tables_of m)

abbrev pub FitsProjected : PublicationSet → Projected → Type 0
FitsProjected s Nothing = Unit {0}
FitsProjected s (Message m) = MessageFits s m
