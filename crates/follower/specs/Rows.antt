-- The rows of a stream, by the names of their columns.
use Rattle.std.specs.Prelude.{ℕ, List, position, slice_get, Option, Some, None}
use Rattle.std.specs.Option.{option_and_then}
use Rattle.std.specs.Str.{bytes_eq}
use Rattle.pgoutput.specs.declared.messages.relation.Column.{Column}
use Rattle.pgoutput.specs.declared.parts.tuple.Cell.{Cell}
use Rattle.pgoutput.specs.declared.parts.tuple.Cell.TheVariants as cells

-- what was sent of the column of this name
abbrev pub cell_named : List Column → List Cell → List ℕ → Option Cell
cell_named columns cells name = option_and_then (slice_get cells) (position (λ c. bytes_eq c.name name) columns)

-- what is kept of a cell, where this was kept before: of a value that is unchanged and wasn't sent, that
abbrev pub kept_of : Cell → Option (List ℕ) → Option (List ℕ)
kept_of cells.Null before = None
kept_of (cells.Text text) before = Some text
kept_of cells.Unchanged before = before
