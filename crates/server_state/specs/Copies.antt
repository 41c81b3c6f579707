-- What an initial copy hands over of a row (PostgreSQL 15, 31.7): the values that a stream's Insert of it would have.
use Rattle.std.specs.Prelude.{ℕ, List, map, Option, Some, None}
use Rattle.pgoutput.specs.declared.logical.Logical.{Logical}
use Rattle.pgoutput.specs.declared.logical.Logical.TheVariants as logical
use Rattle.pgoutput.specs.declared.parts.tuple.Cell.{Cell}
use Rattle.pgoutput.specs.declared.parts.tuple.Cell.TheVariants as cells
use Rattle.tables.specs.declared.changes.change.Change.TheVariants as changes
use Rattle.tables.specs.declared.kinds.Value.{Value}
use Rattle.publication.specs.Publications.{PublicationSet}
use Rattle.publication.specs.Logged.{change_message}

-- the text of a value, which a null has not
abbrev pub text_of : Cell → Option (List ℕ)
text_of cells.Null = None
text_of cells.Unchanged = None
text_of (cells.Text text) = Some text

abbrev pub texts_in : Option Logical → Option (List (Option (List ℕ)))
texts_in (Some (logical.Insert insert)) = Some (map text_of insert.new)
texts_in _ = None

-- a row of this table, if the copy has it
abbrev pub copied_row : PublicationSet → ℕ → List Value → Option (List (Option (List ℕ)))
copied_row selection oid row = texts_in (change_message selection 0 (changes.Insert oid row))
