-- What a log comes to: the changes that stand, and the rows that they leave in the tables. What a transaction in progress
-- holds, and which changes of others are refused for it, is told of the changes that stand (History.antt of tables).
use Rattle.std.specs.Prelude.{ℕ, ◌==◌, Bool, false, ◌&&◌, not, List, map, filter, Option, Some, None, if◌then◌else◌}
use Rattle.std.specs.List.{list_any}
use Rattle.tables.specs.declared.table.Table.{Table}
use Rattle.store.specs.Rows.{Rows}
use Rattle.store.specs.History.{Made, rows_after}
use Rattle.wal.specs.declared.record.Record.{Record}
use Rattle.wal.specs.declared.record.Body.{Body}
use Rattle.wal.specs.declared.record.Body.TheVariants.{Abort}
use Rattle.wal.specs.Log.{Entry, entries, top_of, is_dropped, has_ended}

abbrev pub aborts : ℕ → Body → Bool
aborts x (Abort xid) = xid == x
aborts x body = false

abbrev pub is_aborted : List Record → ℕ → Bool
is_aborted log x = list_any (λ r. aborts x r.body) log

-- a change stands unless a rollback dropped it or its transaction aborted
abbrev pub stands : List Record → Entry → Bool
stands log e = not (is_dropped log e.xid) && not (is_aborted log (top_of log e.xid))

-- a transaction while it is in progress; nobody once it has ended
abbrev pub while_live : List Record → ℕ → Option ℕ
while_live log top = if has_ended log top then None else Some top

abbrev pub made_by : List Record → Entry → Made
made_by log e = record { top = while_live log (top_of log e.xid); change = e.change }

-- the changes that stand, in the order of the log, each with its transaction while that is in progress
abbrev pub standing_changes : List Record → List Entry
standing_changes log = filter (stands log) (entries log)

abbrev pub history_of : List Record → List Made
history_of log = map (made_by log) (standing_changes log)

-- the rows after all changes that stand
abbrev pub rows_of : List Table → List Record → Rows
rows_of tables log = rows_after tables (history_of log)
