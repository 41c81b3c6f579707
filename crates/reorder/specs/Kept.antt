-- A change that is kept by the record that made it.
use Rattle.std.specs.Prelude.{[]}
use Rattle.tables.specs.declared.changes.change.Change.{Change}
use Rattle.tables.specs.declared.changes.change.Change.TheVariants as changes
use Rattle.wal.specs.declared.record.Record.{Record}
use Rattle.wal.specs.declared.record.Body.{Body}
use Rattle.wal.specs.declared.record.Body.TheVariants.{Change as Changed}
use Rattle.wal.specs.Log.{Entry, xid_in}

-- the change of a record that has one
abbrev pub change_in : Body → Change
change_in (Changed xid change) = change
change_in _ = changes.Insert 0 []

abbrev pub kept_entry : Record → Entry
kept_entry r = record { position = r.start; xid = xid_in r.body; change = change_in r.body }
