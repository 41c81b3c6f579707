-- The tuples of rows (PostgreSQL 15, 55.9), and which of an old row is sent.
use Rattle.std.specs.Prelude.{◌&&◌, Bool, not, List, map, Option, Some, None, if◌then◌else◌}
use Rattle.std.specs.List.{list_any, zip}
use Rattle.pgoutput.specs.declared.parts.tuple.Cell.{Cell}
use Rattle.pgoutput.specs.declared.parts.tuple.Cell.TheVariants as cells
use Rattle.pgoutput.specs.declared.parts.old_tuple.OldTuple.{OldTuple}
use Rattle.pgoutput.specs.declared.parts.old_tuple.OldTuple.TheVariants.{Key, Full}
use Rattle.tables.specs.declared.identity.Identity.{Identity}
use Rattle.tables.specs.declared.identity.Identity.TheVariants as identities
use Rattle.tables.specs.declared.kinds.Value.{Value}
use Rattle.tables.specs.declared.column.Column.{Column}
use Rattle.tables.specs.declared.table.Table.{Table}
use Rattle.row_messages.specs.Kinds.{cell_of, is_long, same_value}

abbrev pub tuple_of : List Value → List Cell
tuple_of row = map cell_of row

-- as many cells as columns, null outside the primary key
abbrev pub key_tuple_of : List Column → List Value → List Cell
key_tuple_of columns row = map (λ p. if p.0.is_key then cell_of p.1 else cells.Null) (zip columns row)

-- the cell of a value that took the place of another one: a long text that stayed the same isn't sent
abbrev pub cell_after : (old new : Value) → Cell
cell_after old new = if is_long new && same_value old new then cells.Unchanged else cell_of new

-- the tuple of a row that took the place of another one
abbrev pub tuple_after : (old new : List Value) → List Cell
tuple_after old new = map (λ p. cell_after p.0 p.1) (zip old new)

-- whether a column of the primary key has one value in the one row and another one in the other
abbrev pub changes_key : List Column → (old new : List Value) → Bool
changes_key columns old new = list_any (λ p. p.0.is_key && not (same_value p.1.0 p.1.1)) (zip columns (zip old new))

-- what is sent of a row that is gone: the key, or the whole row, or nothing, by the table's identity
abbrev pub old_by : Identity → Table → List Value → Option OldTuple
old_by identities.Default t old = Some (Key (key_tuple_of t.columns old))
old_by identities.Nothing t old = None
old_by identities.Full t old = Some (Full (tuple_of old))

-- what is sent of a row beside the one that took its place: the key only where it changed
abbrev pub old_row_of_update : Identity → Table → (old new : List Value) → Option OldTuple
old_row_of_update identities.Default t old new = if changes_key t.columns old new then old_by identities.Default t old else None
old_row_of_update identities.Nothing t old new = None
old_row_of_update identities.Full t old new = old_by identities.Full t old
