-- What a commit tells of its record.
use Rattle.std.specs.Prelude.{ℕ, ◌==◌, Bool, false, ◌&&◌, List, Option, Some, None, slice_get}
use Rattle.wal.specs.declared.record.Record.{Record}
use Rattle.wal.specs.declared.record.Body.{Body}
use Rattle.wal.specs.declared.record.Body.TheVariants.{Commit}

-- the place of the record in the log, where it starts and ends, and the transaction's xid
pub record Committed : Type 0 where
  pub place : ℕ
  pub start : ℕ
  pub end : ℕ
  pub xid : ℕ

abbrev pub commits : ℕ → Body → Bool
commits x (Commit xid time) = xid == x
commits x body = false

abbrev pub is_told : Committed → Option Record → Bool
is_told c None = false
is_told c (Some r) = (r.start == c.start) && (r.end == c.end) && commits c.xid r.body

-- whether the log has, at this place, a Commit of this xid that starts and ends there
abbrev pub has_commit : List Record → Committed → Bool
has_commit log c = is_told c (slice_get log c.place)
