-- What a stream does of the work that its connection brings, turn by turn, and what that leaves of its slot.
use Rattle.std.specs.Prelude.{◌≡◌, ◌⊎◌, ◌-◌, ℕ, ℤ, false, List, [], ◌∷◌, ◌++◌, Option, Some, None, Result, Ok, Err, max, min, take}
use mathlib.Core.List.{IsPrefix}
use Rattle.std.specs.Io.KnownBytes.{Appends}
use Rattle.shared_log.specs.SeenPrefixes.{settled_records}
use Rattle.shared_log.specs.Readers.{seen_of}
use Rattle.wal.specs.Log.{end_of}
use Rattle.slots.specs.Seats.{DidAt}
use Rattle.slots.specs.declared.words_kept.step.SlotKind.TheVariants.{Raise}
use Rattle.slots.specs.declared.words_kept.step.SeatView.{SeatView}
use Rattle.server.specs.declared.connection.Phase.TheVariants as phases
use Rattle.walsender.specs.declared.walsender.Walsender.{Walsender}
use Rattle.pgoutput.specs.Words.{word_bytes}
use Rattle.pgoutput.specs.Items.{keepalive_word}
use Rattle.walsender.specs.Sending.{SenderState}
use Rattle.walsender.specs.Serving.{ReadsAndWrites, Serves, WritesFirst}
use Rattle.walsender.specs.Turning.{fetched_from}
use Rattle.walsender.specs.declared.stream_turn.limits.TheConstants.{TURN_RECORDS}
use Rattle.walsender.specs.declared.fault.SendFault.TheVariants.{ArenaFull}
use Rattle.walsender.specs.declared.stream_turn.turn_fault.TurnFault.{TurnFault}
use Rattle.walsender.specs.declared.stream_turn.turn_fault.TurnFault.TheVariants as turns
use Rattle.connections.specs.declared.fault.ConnectionEnd.{ConnectionEnd}
use Rattle.connections.specs.declared.fault.ConnectionEnd.TheVariants as ends
use Rattle.connections.specs.declared.words.StreamError.{StreamError}
use Rattle.connections.specs.declared.words.StreamError.TheVariants as stream_errors
use Rattle.connections.specs.declared.inbox.Work.{Work}
use Rattle.hub.specs.Streams.{StreamsOn, asking, keepalives}

-- What a status brings is confirmed as far as was read: the slot is raised to it, unless it stands further.
abbrev pub Confirms : Option ℕ → ℕ → ℕ → SeatView → SeatView → Type 0
Confirms None read place old new = new ≡ old
Confirms (Some flushed) read place old new = (found : ℕ) × DidAt Raise place found (max found (min flushed read)) old new

-- a stream between two turns: its walsender, the seat that holds its slot, and what its writer took
pub record Standing (L : Type 0) : Type 0 where
  pub walsender : Walsender L
  pub seat : SeatView
  pub written : Option (List ℕ)

abbrev pub standing : {L : Type 0} → Walsender L → SeatView → Option (List ℕ) → Standing L
standing walsender seat written = record { walsender = walsender; seat = seat; written = written }

-- One turn: what came is confirmed, and the stream goes on.
abbrev pub Turn : {L : Type 0} → ℕ → Work → Standing L → Standing L → Type 0
Turn place work old new = Confirms work.flushed old.walsender.sender.position place old.seat new.seat × StreamsOn old.walsender new.walsender old.written new.written

-- how many records a turn reads at most: no more than make as many as its work says
abbrev pub most_read : {L : Type 0} → Work → Walsender L → ℕ
most_read work old = min TURN_RECORDS (work.readable - old.reader.place)

-- Its reader sees all that it was told of. What it sees from its place on was read, as many records as a turn takes, and nothing is held back.
pub record ReadsWhole {L : Type 0} (most : ℕ) (old new : Walsender L) : Type 0 where
  pub sees : IsPrefix (settled_records new.reader.told) (seen_of new.reader)
  pub reads : new.sender.position ≡ end_of old.sender.position (fetched_from most old.reader.place (seen_of new.reader))
  pub whole : new.sender.held ≡ []

-- All that it writes is under one clock: what is due before the log is read, of which a part may be held until then; what was read; and a
-- keepalive after that, if there is one.
pub record WritesUnder {L : Type 0} (most : ℕ) (clock : ℤ) (due : List ℕ) (old new : Walsender L) (before after : Option (List ℕ)) : Type 0 where
  pub early : List ℕ
  pub between : Option (List ℕ)
  pub first : Appends before between early
  pub asked : SenderState
  pub same : asked ≡ record old.sender { held = asked.held; lent = asked.lent }
  pub parts : early ++ asked.held ≡ due
  pub read : SenderState
  pub turned : Option (List ℕ)
  pub reads : ReadsAndWrites clock asked read (fetched_from most old.reader.place (seen_of new.reader)) between turned
  pub last : (after ≡ turned) ⊎ Appends turned after (word_bytes (keepalive_word read.position clock false))

-- what it is to write before all else: what was held, a keepalive for each status that asked, and one that asks a silent client
abbrev pub due_first : {L : Type 0} → Work → Walsender L → List ℕ
due_first work old = (old.sender.held ++ keepalives old.sender.position work.clock work.asked) ++ asking work.is_silent old.sender.position work.clock

-- what it wrote under the work's clock, where it went well
abbrev pub WritesWhole : {L : Type 0} → Work → Walsender L → Walsender L → Option (List ℕ) → Option (List ℕ) → Type 0
WritesWhole work old new before after = WritesFirst (due_first work old) old before after × WritesUnder (most_read work old) work.clock (due_first work old) old new before after × ReadsWhole (most_read work old) old new

-- It went well, unless the connection is over: what is due was written before all else, and all that could be read was read and written.
abbrev pub Answers : {L : Type 0} → Work → Standing L → Standing L → Type 0
Answers work old new = (work.phase ≡ phases.Closed) ⊎ WritesWhole work old.walsender new.walsender old.written new.written

-- what is known of the last turn of a stream that ended so
abbrev pub Ended : {L T E : Type 0} → Result T E → Work → Standing L → Standing L → Type 0
Ended (Ok done) = Answers
Ended (Err fault) = λ work old new. Unit {0}

-- A turn for the first work, and for each of those that a backend gave after it, one after the other. All went well but perhaps the last.
abbrev pub Turns : {D L : Type 0} → (D → Work → D → Type 0) → ℕ → (Work → Standing L → Standing L → Type 0) → Work → List Work → D → Standing L → D → Standing L → Type 0
Turns told place last first [] backend old after new = (after ≡ backend) × Turn place first old new × last first old new
Turns {D} {L} told place last first (work ∷ rest) backend old after new =
    (given : D) × (mid : Standing L) × Turn place first old mid × Answers first old mid × told backend work given × Turns told place last work rest given mid after new

abbrev pub TakesTurns : {D L : Type 0} → (D → Work → D → Type 0) → ℕ → (Work → Standing L → Standing L → Type 0) → Work → D → Standing L → D → Standing L → Type 0
TakesTurns told place last first backend old after new = (works : List Work) × Turns told place last first works backend old after new

-- how a connection ends whose stream's turn failed so
abbrev pub end_of_fault : TurnFault → ConnectionEnd
end_of_fault (turns.Write e) = ends.Client
end_of_fault (turns.Sender ArenaFull) = ends.FullArena
end_of_fault (turns.Sender fault) = ends.Memory
end_of_fault turns.Memory = ends.Memory
end_of_fault turns.NoEntry = ends.NoEntry
end_of_fault turns.Stale = ends.NoEntry
end_of_fault turns.Removed = ends.Removed

-- what its client is told of that, if it can still be
abbrev pub stream_error_of : ConnectionEnd → Option StreamError
stream_error_of ends.Memory = Some stream_errors.Memory
stream_error_of ends.FullArena = Some stream_errors.FullArena
stream_error_of ends.NoEntry = Some stream_errors.NoEntry
stream_error_of ends.Removed = Some stream_errors.Removed
stream_error_of end = None

-- They came, or a beginning of them did.
abbrev pub CameInPart : List ℕ → Option (List ℕ) → Option (List ℕ) → Type 0
CameInPart words before after = (count : ℕ) × Appends before after (take count words)

-- How a stream ended whose last turn ended so: by that turn's fault; in order, where its client asked for that, with the last work's words after
-- all that was written; or since its client is gone, with what came of them.
abbrev pub EndsBy : Result Work TurnFault → Result (Unit {0}) ConnectionEnd → Option (List ℕ) → Option (List ℕ) → Type 0
EndsBy (Err fault) ended before after = ended ≡ Err (end_of_fault fault)
EndsBy (Ok last) (Ok done) before after = (last.phase ≡ phases.Stopping) × Appends before after last.said.items
EndsBy (Ok last) (Err end) before after = (end ≡ ends.Client) × CameInPart last.said.items before after

-- they were taken, up to this position and this seat, however the last one ended, and by that the stream ended
abbrev pub EndsTurns : {D L : Type 0} → (D → Work → D → Type 0) → ℕ → Work → Result (Unit {0}) ConnectionEnd → D → Standing L → D → ℕ → SeatView → Option (List ℕ) → Type 0
EndsTurns {D} {L} told place first ended backend old after position seat written =
    (end : Standing L) × (last : Result Work TurnFault) × TakesTurns told place (Ended last) first backend old after end × (position ≡ end.walsender.sender.position) × (seat ≡ end.seat) × EndsBy last ended end.written written

-- What a writer took since a stream began, of which nothing had been written: with what is held it is the stream's encoding, of the log that its reader sees.
abbrev pub WritesStream : {L : Type 0} → Standing L → Standing L → Type 0
WritesStream old end = (given : List ℕ) × Serves (seen_of end.walsender.reader) given end.walsender × Appends old.written end.written given

-- What a stream leaves of its slot, what was written of it, and by what it ended: all that came was confirmed in its turn. Where the connection is over, so was the last work, after which nothing comes.
abbrev pub LeavesSlot : {D L : Type 0} → (D → Work → D → Type 0) → ℕ → Work → Result (Unit {0}) ConnectionEnd → D → Standing L → D → SeatView → Option (List ℕ) → Type 0
LeavesSlot {D} {L} told place first (Ok done) backend old after seat written =
    (end : Standing L) × (last : Result Work TurnFault) × TakesTurns told place (Ended last) first backend old after end × ∥ WritesStream old end ∥₁ × (seat ≡ end.seat) × EndsBy last (Ok done) end.written written
LeavesSlot {D} {L} told place first (Err over) backend old after seat written =
    (end : Standing L) × (last : Result Work TurnFault) × (closed : D) × (work : Work) × TakesTurns told place (Ended last) first backend old closed end × ∥ WritesStream old end ∥₁ × told closed work after
    × Confirms work.flushed end.walsender.sender.position place end.seat seat × EndsBy last (Err over) end.written written
