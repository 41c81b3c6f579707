-- What publications over a catalogue let pass (PostgreSQL 15, 31.1 to 31.4).
use Rattle.std.specs.Prelude.{ℕ, ◌==◌, Bool, true, ◌&&◌, List, Option, Some, None}
use Rattle.std.specs.List.{list_any}
use Rattle.tables.specs.declared.kinds.Value.{Value}
use Rattle.conditions.specs.Conditions.{Condition}
use Rattle.conditions.specs.Truth.{is_true, truth}
use Rattle.publication_config.specs.declared.operations.Operation.{Operation}
use Rattle.publication_config.specs.declared.published_table.PublishedTable.{PublishedTable}
use Rattle.publication_config.specs.declared.publication.Publication.{Publication}
use Rattle.publication_config.specs.Published.{publishes}
-- for whoever tells of publications, also in the value of a type
pub use Rattle.publication_config.specs.Published.{PublicationSet, condition_code}

-- There is no filter, or it is true of the row.
abbrev pub lets_pass : Option Condition → List Value → Bool
lets_pass None row = true
lets_pass (Some f) row = is_true (truth f row)

-- It is the table of this OID, and lets the row pass.
abbrev pub admits : ℕ → List Value → PublishedTable → Bool
admits oid row t = (t.oid == oid) && lets_pass t.filter row

-- whether a publication publishes the operation for the table, and lets the row pass
abbrev pub passes_in : Operation → ℕ → List Value → Publication → Bool
passes_in operation oid row p = publishes p.operations operation && list_any (admits oid row) p.tables
