-- What a CREATE_REPLICATION_SLOT says of its slot's snapshot (PostgreSQL 15, 55.4), by a keyword or by a value of the option SNAPSHOT; and
-- how either is read.
use Rattle.std.specs.Prelude.{ℕ, List, Option, Some, None, Bool, true, false, if◌then◌else◌, codes}
use Rattle.std.specs.Str.{bytes_eq}
use Rattle.replcmd.specs.declared.clauses.snapshot_clause.SnapshotClause.{SnapshotClause}
use Rattle.replcmd.specs.declared.clauses.snapshot_clause.SnapshotClause.TheVariants.{Export, Nothing, Use}
use Rattle.replcmd.specs.declared.clauses.strictness.Strictness.{Strictness}
use Rattle.replcmd.specs.declared.clauses.strictness.Strictness.TheVariants.{Strict, Lenient}
use Rattle.replcmd.specs.Words.{is_keyword}

abbrev pub snapshot_keyword : SnapshotClause → List ℕ
snapshot_keyword Export = codes "EXPORT_SNAPSHOT"
snapshot_keyword Nothing = codes "NOEXPORT_SNAPSHOT"
snapshot_keyword Use = codes "USE_SNAPSHOT"

abbrev pub snapshot_value : SnapshotClause → List ℕ
snapshot_value Export = codes "export"
snapshot_value Nothing = codes "nothing"
snapshot_value Use = codes "use"

-- whether it may be said
abbrev pub may_say : Strictness → SnapshotClause → Bool
may_say Strict Nothing = true
may_say Strict _ = false
may_say Lenient _ = true

-- ---- reading

unfoldable pub said_snapshot : Strictness → List ℕ → Option SnapshotClause
said_snapshot Strict word = if is_keyword (codes "NOEXPORT_SNAPSHOT") word then Some Nothing else None
said_snapshot Lenient word =
    if is_keyword (codes "NOEXPORT_SNAPSHOT") word then Some Nothing
    else if is_keyword (codes "EXPORT_SNAPSHOT") word then Some Export
    else if is_keyword (codes "USE_SNAPSHOT") word then Some Use
    else None

unfoldable pub snapshot_named : Strictness → List ℕ → Option SnapshotClause
snapshot_named Strict value = if bytes_eq value (codes "nothing") then Some Nothing else None
snapshot_named Lenient value =
    if bytes_eq value (codes "nothing") then Some Nothing
    else if bytes_eq value (codes "export") then Some Export
    else if bytes_eq value (codes "use") then Some Use
    else None
