-- The messages of a row that came, of one that took the place of another, and of one that is gone (PostgreSQL 15, 55.9).
use Rattle.std.specs.Prelude.{◌&&◌, Bool, List, nat_le, Option, option_map}
use Rattle.pgoutput.specs.declared.logical.Logical.{Logical}
use Rattle.pgoutput.specs.declared.logical.Logical.TheVariants as logical
use Rattle.tables.specs.declared.rows.row.TheConstants.{MAX_ROW_LENGTH}
use Rattle.tables.specs.declared.kinds.Value.{Value}
use Rattle.tables.specs.declared.table.Table.{Table}
use Rattle.tables.specs.Spelling.{row_length}
use Rattle.tables.specs.Tables.{fits_table}
use Rattle.row_messages.specs.Tuples.{tuple_of, tuple_after, old_by, old_row_of_update}

-- a row that the table takes, and that is no longer than rows may be
abbrev pub stands_in : Table → List Value → Bool
stands_in table row = fits_table table row && nat_le (row_length row) MAX_ROW_LENGTH

abbrev pub insert_message : List Value → Table → Logical
insert_message row t = logical.Insert (record { oid = t.oid; new = tuple_of row })

abbrev pub update_message : (old new : List Value) → Table → Logical
update_message old new t = logical.Update (record { oid = t.oid; old = old_row_of_update t.identity t old new; new = tuple_after old new })

-- without an identity nothing can be told of a row that is gone
abbrev pub delete_message : List Value → Table → Option Logical
delete_message old t = option_map (λ o. logical.Delete (record { oid = t.oid; old = o })) (old_by t.identity t old)
