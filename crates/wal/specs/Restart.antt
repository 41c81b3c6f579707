-- Where a stream that starts at a position begins to read the log: after that position stand all records of the transactions
-- that commit there or later, and all notes from the position on. In PostgreSQL it is the `restart_lsn` of a replication slot, "the address (LSN) of oldest WAL
-- which still might be required by the consumer of this slot" (manual, pg_replication_slots).
use Rattle.std.specs.Prelude.{ℕ, suc, Bool, ◌&&◌, not, List, [], ◌∷◌, take, nat_le, if◌then◌else◌}
use Rattle.wal.specs.declared.record.TheConstants.{FIRST_POSITION}
use Rattle.wal.specs.declared.record.Record.{Record}
use Rattle.wal.specs.Log.{end_of, has_ended, is_note, top_of, xid_in}

-- the place of the first of these records that passes the test, or their number where none does
abbrev pub first_place : (Record → Bool) → List Record → ℕ
first_place test [] = 0
first_place test (r ∷ rs) = if test r then 0 else suc (first_place test rs)

-- the place of the first record that starts at s or later, or the length of the log
abbrev pub place_from : ℕ → List Record → ℕ
place_from s log = first_place (λ r. nat_le s r.start) log

-- whether the transaction of the record is in progress: no Commit and no Abort names it. A note is of none.
abbrev pub is_in_progress : List Record → Record → Bool
is_in_progress log r = not (is_note r.body) && not (has_ended log (top_of log (xid_in r.body)))

-- the place of the earliest record of a transaction in progress, or the length of the log
abbrev pub oldest : List Record → ℕ
oldest log = first_place (is_in_progress log) log

-- The place from which a stream reads that starts at s: where the transactions began that were in progress there.
abbrev pub restart_place : ℕ → List Record → ℕ
restart_place s log = oldest (take (place_from s log) log)

-- the position of that place
abbrev pub restart : ℕ → List Record → ℕ
restart s log = end_of FIRST_POSITION (take (restart_place s log) log)
