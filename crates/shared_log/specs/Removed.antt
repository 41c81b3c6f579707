-- What a reader can't have, since it was given back. In PostgreSQL "requested WAL segment %s has already been removed".
use Rattle.std.specs.Prelude.{◌<◌, ◌≤◌, ◌⊎◌, ℕ, List, take}
use Rattle.wal.specs.declared.record.TheConstants.{FIRST_POSITION}
use Rattle.wal.specs.declared.record.Record.{Record}
use Rattle.wal.specs.Log.{end_of}
use Rattle.wal.specs.Restart.{restart_place}
use Rattle.shared_log.specs.declared.fault.ReadFault.{ReadFault}
use Rattle.shared_log.specs.declared.fault.ReadFault.TheVariants as reads

-- What a fetch at a place found of records that lie from an edge on.
abbrev pub IsUnread : (place edge : ℕ) → ReadFault → Type 0
IsUnread place edge reads.NoEntry = ⊥
IsUnread place edge reads.Stale = ⊥
IsUnread place edge reads.Memory = edge ≤ place
IsUnread place edge reads.Removed = place < edge

-- A stream that starts at this position, over the first records of a log, may need some before the edge: so many end before it, or the
-- position stands before it, or the place from which the stream reads does.
abbrev pub NeedsRemoved : (start limit edge : ℕ) → List Record → Type 0
NeedsRemoved start limit edge log = (limit < edge) ⊎ ((start < end_of FIRST_POSITION (take edge log)) ⊎ (restart_place start (take limit log) < edge))
