-- What a start shows, and what is true of it between lines. No promise is told here but by `start_state`, which says how it is
-- seen.
use Rattle.std.specs.Prelude.{◌≡◌, ℕ, Bool, true, false, List, []}
use Rattle.wal.specs.declared.record.Record.{Record}
use Rattle.publication.specs.Publications.{PublicationSet}
use Rattle.shared_log.specs.Readers.{seen_of}
use Rattle.walsender.specs.Sending.{SenderState}
use Rattle.walsender.specs.Serving.{IsStreaming, Serves}
use Rattle.world.specs.declared.stepping.start.Start.{Start}
use Rattle.world.specs.declared.stepping.start.StartStage.{StartStage}
use Rattle.world.specs.declared.stepping.start.StartStage.TheVariants as stages
use Rattle.world.specs.Start.{StartState}

-- what a start shows while its sender is there, and once it was cut
abbrev pub open_state : List ℕ → List ℕ → SenderState → StartState
open_state connection produced s =
    record { connection = connection; is_open = true; selection = s.selection; start = s.start; position = s.position; failed = s.failed; produced = produced; held = s.held }

abbrev pub state_with : {L : Type 0} → List ℕ → List ℕ → StartStage L → StartState
state_with connection produced (stages.Open w) = open_state connection produced w.sender
state_with connection produced (stages.Cut e) =
    record { connection = connection; is_open = false; selection = e.selection; start = e.start; position = e.position; failed = false; produced = produced; held = [] }

abbrev pub start_state : {L : Type 0} → Start L → StartState
start_state s = state_with s.connection s.produced.items s.stage

abbrev pub is_open : {L : Type 0} → StartStage L → Bool
is_open (stages.Open w) = true
is_open (stages.Cut e) = false

-- the log as its reader saw it last
abbrev pub seen_at : {L : Type 0} → StartStage L → List Record
seen_at (stages.Open w) = seen_of w.reader
seen_at (stages.Cut e) = []

-- what a sender that is no longer there was before it was cut
pub record WasStreaming (log : List Record) (produced : List ℕ) (selection : PublicationSet) (start position : ℕ) : Type 0 where
  pub before : SenderState
  pub count : ℕ
  pub streaming : IsStreaming log count produced before
  pub selection_is : selection ≡ before.selection
  pub start_is : start ≡ before.start
  pub position_is : position ≡ before.position

abbrev pub IsServedBy : {L : Type 0} → List Record → List ℕ → StartStage L → Type 0
IsServedBy log produced (stages.Open w) = Serves log produced w
IsServedBy log produced (stages.Cut e) = WasStreaming log produced e.selection e.start e.position

abbrev pub IsServed : {L : Type 0} → List Record → Start L → Type 0
IsServed log s = IsServedBy log s.produced.items s.stage
