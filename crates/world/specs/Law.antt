-- The headline, of every start of a sender. While the sender is there: what it has produced, with what it still holds, is a
-- stream encoding of exactly the published transactions and notes among the records that it has read, with safe keepalives. Once it
-- is cut: what it had produced is a beginning of such an encoding.
use Rattle.std.specs.Prelude.{◌≡◌, ℕ, ◌++◌, true, List}
use Rattle.std.specs.List.{AllByRecursion}
use Rattle.wal.specs.declared.record.TheConstants.{FIRST_POSITION}
use Rattle.wal.specs.declared.record.Record.{Record}
use Rattle.wal.specs.Log.{end_of}
use Rattle.publication.specs.Selection.{relation}
use Rattle.pgoutput.specs.Stream.{IsStream}
use Rattle.walsender.specs.Published.{published_transactions}
use Rattle.world.specs.Start.{StartState}
use Rattle.world.specs.Acting.{read_by}
use Rattle.world.specs.State.{WorldState}

-- The bytes are a stream encoding of what the start publishes of the records that it has read.
abbrev pub Streams : List Record → StartState → List ℕ → Type 0
Streams log s bytes = IsStream (relation s.selection) bytes (published_transactions s.selection (read_by s.position log) s.start) s.position

-- they are a beginning of one
pub record BeginsStream (log : List Record) (s : StartState) (bytes : List ℕ) : Type 0 where
  pub rest : List ℕ
  pub whole : Streams log s (bytes ++ rest)

-- the position is the end of the last record that was read
pub record IsExact (log : List Record) (s : StartState) : Type 0 where
  pub reads : s.position ≡ end_of FIRST_POSITION (read_by s.position log)
  pub begins : BeginsStream log s s.produced
  pub whole : s.is_open ≡ true → Streams log s (s.produced ++ s.held)

abbrev pub Headline : WorldState → Type 0
Headline w = AllByRecursion (IsExact w.publisher.log) w.starts
