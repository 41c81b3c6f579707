-- What is given back of the log: what stands before where the stream of any slot would begin to read. In PostgreSQL WAL is removed up to the
-- oldest `restart_lsn` of its slots (PostgreSQL 15, 30.5 and 54.19).
use Rattle.std.specs.Prelude.{◌≡◌, ◌≤◌, ◌-◌, ◌⊎◌, ℕ, List, length}
use mathlib.Core.List.{IsPrefix}
use Rattle.wal.specs.declared.record.Record.{Record}
use Rattle.wal.specs.Log.{IsWellFormedLog}
use Rattle.wal.specs.Restart.{restart_place}
use Rattle.shared_log.specs.Removed.{NeedsRemoved}
use Rattle.txlog.specs.Publishing.{PublisherState, after_give_back}

-- The place from which a log is kept for a slot that is confirmed at this position. It is the record before the one where a stream would begin
-- to read that starts there, since the position may lie within that.
abbrev pub kept_place : ℕ → List Record → ℕ
kept_place confirmed log = restart_place confirmed log - 1

-- A stream that starts at this position or later has lost nothing, over the log or any that it becomes: if it may need what was given back, it
-- may have needed what was given back before.
abbrev pub Spares : ℕ → PublisherState → PublisherState → Type 0
Spares confirmed old new =
    (start limit : ℕ) (log : List Record) → confirmed ≤ start → IsPrefix old.log log → IsWellFormedLog log → length old.log ≤ limit → NeedsRemoved start limit new.given log → NeedsRemoved start limit old.given log

-- What was given back for slots that are confirmed at this position or later: all that stands before the place for it, or nothing.
pub record GivesBack (confirmed : ℕ) (old new : PublisherState) : Type 0 where
  pub gives : (new ≡ old) ⊎ (new ≡ after_give_back (kept_place confirmed old.log) old)
  pub spares : Spares confirmed old new
