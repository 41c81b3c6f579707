-- A segment that has the records of a log.
use Rattle.std.specs.Prelude.{ℕ, List, map, take}
use Rattle.shared_log.specs.Readers.{seen_of}
use Rattle.shared_log.specs.declared.following.reader.LogReader.{LogReader}
use Rattle.wal.specs.declared.record.Body.{Body}
use Rattle.wal.specs.declared.record.Record.{Record}
use Rattle.segments.specs.Contents.{HasWritten}
use Rattle.segments.specs.Entries.{Written}
use Rattle.segments.specs.Kinds.{records_in}
use Rattle.segments.specs.Recovery.{AreTold}
use Rattle.segments.specs.declared.segment.Segment.{Segment}

abbrev pub bodies_of : List Record → List Body
bodies_of log = map (λ r. r.body) log

-- of its entries those that tell records tell these, and no others
pub record HasLogged {D : Type 0} (seen : D → List ℕ) (s : Segment D) (log : List Record) : Type 0 where
  pub es : List Written
  pub written : HasWritten seen s es
  pub told : AreTold (records_in es) (bodies_of log)

-- they tell all records up to a reader's place
abbrev pub Keeps : {D L : Type 0} → (D → List ℕ) → Segment D → LogReader L → Type 0
Keeps seen s reader = HasLogged seen s (take reader.place (seen_of reader))
