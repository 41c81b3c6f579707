-- Turns of a stream, one after the other.
use Rattle.std.proofs.Common.{◌≡◌, ◌⊎◌, ◌-◌, ℕ, ℤ, true, false, List, [], ◌∷◌, ◌++◌, Result, Ok, Err, inl, inr, refl, sym, ap, subst, ◌∙◌, append_assoc}
use Rattle.std.proofs.Math.Logic.{∥∥₁_map}
use Rattle.std.specs.Prelude.{min}
use Rattle.std.specs.Result.{IsErr, is_err}
use Rattle.std.specs.declared.option.Option.{Option}
use Rattle.slots.specs.declared.words_kept.step.SeatView.{SeatView}
use Rattle.walsender.specs.Sending.{SenderState}
use Rattle.std.specs.Io.KnownBytes.{Appends}
use Rattle.wal.specs.declared.record.Record.{Record}
use mathlib.Core.List.{IsPrefix}
use Rattle.shared_log.specs.SeenPrefixes.{settled_records}
use Rattle.shared_log.specs.Readers.{seen_of}
use Rattle.shared_log.specs.declared.following.reader.LogReader.{LogReader}
use Rattle.wal.specs.Log.{end_of}
use Rattle.walsender.specs.Turning.{fetched_from}
use Rattle.walsender.specs.declared.stream_turn.limits.TheConstants.{TURN_RECORDS}
use Rattle.server.specs.declared.connection.Phase.TheVariants as phases
use Rattle.walsender.specs.declared.walsender.Walsender.{Walsender}
use Rattle.pgoutput.specs.Words.{word_bytes}
use Rattle.pgoutput.specs.Items.{keepalive_word}
use Rattle.walsender.specs.Serving.{IsServing, ReadsAndWrites, Serves}
use Rattle.connections.specs.declared.fault.ConnectionEnd.{ConnectionEnd}
use Rattle.connections.specs.declared.inbox.Work.{Work}
use Rattle.hub.specs.Streams.{HasLearnt, StreamsOn, asking, keepalives}
use Rattle.hub.specs.Turns.{Answers, Confirms, Ended, EndsTurns, LeavesSlot, ReadsWhole, Standing, TakesTurns, Turn, Turns, WritesStream, WritesUnder, WritesWhole, due_first, most_read, standing}
use Rattle.hub.proofs.Streams.{Gave, learnt, one_more}

-- A turn was all that read: what was done before and after it read nothing.
pub read_whole : {L : Type 0} (most : ℕ) (old asked turned new : Walsender L) → asked.sender.position ≡ old.sender.position → asked.reader ≡ old.reader → IsPrefix (settled_records turned.reader.told) (seen_of turned.reader)
    → turned.sender.position ≡ end_of asked.sender.position (fetched_from most asked.reader.place (seen_of turned.reader)) → new.sender.position ≡ turned.sender.position → new.reader ≡ turned.reader → new.sender.held ≡ [] → ReadsWhole most old new
read_whole most old asked turned new before at sees read after same empty =
    let From : ℕ → Type 0 = λ p. turned.sender.position ≡ end_of p (fetched_from most asked.reader.place (seen_of turned.reader)) in
    let At : LogReader _ → Type 0 = λ r. turned.sender.position ≡ end_of old.sender.position (fetched_from most r.place (seen_of turned.reader)) in
    let Seen : LogReader _ → Type 0 = λ r. turned.sender.position ≡ end_of old.sender.position (fetched_from most old.reader.place (seen_of r)) in
    let Sees : LogReader _ → Type 0 = λ r. IsPrefix (settled_records r.told) (seen_of r) in
    record { sees = subst Sees (sym same) sees; reads = after ∙ subst Seen (sym same) (subst At at (subst From before read)); whole = empty }

-- one that was told of a commit before it
told_whole : {L : Type 0} (most : ℕ) (old informed new : Walsender L) → HasLearnt old informed → ReadsWhole most informed new → ReadsWhole most old new
told_whole most old informed new is reads =
    let From : SenderState → Type 0 = λ s. new.sender.position ≡ end_of s.position (fetched_from most informed.reader.place (seen_of new.reader)) in
    let At : ℕ → Type 0 = λ place. new.sender.position ≡ end_of old.sender.position (fetched_from most place (seen_of new.reader)) in
    record { sees = reads.sees; reads = subst At is.place (subst From is.sender reads.reads); whole = reads.whole }

-- more is held of it, and of that more is lent
pub held_on : (a b c : SenderState) (held : List ℕ) → b ≡ record a { held = b.held; lent = b.lent } → c ≡ record b { held = held } → c ≡ record a { held = c.held; lent = c.lent }
held_on a b c held first then =
    let With : SenderState → Type 0 = λ s. s ≡ record a { held = s.held; lent = s.lent } in
    subst With (sym then) (ap (λ (s : SenderState). record s { held = held; lent = b.lent }) first)

-- What was due before the log was read was held after all that was written of it; then the turn read under the clock.
pub writes_under : {L : Type 0} (most : ℕ) (clock : ℤ) (old answered asked turned new : Walsender L) (before between middle after : Option (List ℕ)) (promised more : List ℕ) → Gave promised answered.sender.held before between
    → asked.sender.held ≡ answered.sender.held ++ more → asked.sender ≡ record old.sender { held = asked.sender.held; lent = asked.sender.lent }
    → ReadsAndWrites clock asked.sender turned.sender (fetched_from most asked.reader.place (seen_of turned.reader)) between middle → asked.reader ≡ old.reader → new.reader ≡ turned.reader
    → (after ≡ middle) ⊎ Appends middle after (word_bytes (keepalive_word turned.sender.position clock false)) → WritesUnder most clock (promised ++ more) old new before after
writes_under most clock old answered asked turned new before between middle after promised more (early, whole, first) held rest reads at same last =
    let At : LogReader _ → Type 0 = λ r. ReadsAndWrites clock asked.sender turned.sender (fetched_from most r.place (seen_of turned.reader)) between middle in
    let Seen : LogReader _ → Type 0 = λ r. ReadsAndWrites clock asked.sender turned.sender (fetched_from most old.reader.place (seen_of r)) between middle in
    record {
      early = early;
      between = between;
      first = first;
      asked = asked.sender;
      same = rest;
      parts = ap (λ (l : List ℕ). early ++ l) held ∙ sym (append_assoc early answered.sender.held more) ∙ ap (λ (l : List ℕ). l ++ more) whole;
      read = turned.sender;
      turned = middle;
      reads = subst Seen (sym same) (subst At at reads);
      last = last;
    }

-- one that was told of a commit before it
told_under : {L : Type 0} (most : ℕ) (clock : ℤ) (due : List ℕ) (old informed new : Walsender L) (before after : Option (List ℕ)) → HasLearnt old informed → WritesUnder most clock due informed new before after → WritesUnder most clock due old new before after
told_under most clock due old informed new before after is writes =
    let Same : SenderState → Type 0 = λ s. writes.asked ≡ record s { held = writes.asked.held; lent = writes.asked.lent } in
    let At : ℕ → Type 0 = λ place. ReadsAndWrites clock writes.asked writes.read (fetched_from most place (seen_of new.reader)) writes.between writes.turned in
    record {
      early = writes.early;
      between = writes.between;
      first = writes.first;
      asked = writes.asked;
      same = subst Same is.sender writes.same;
      parts = writes.parts;
      read = writes.read;
      turned = writes.turned;
      reads = subst At is.place writes.reads;
      last = writes.last;
    }

-- the turn of a stream that was told of a commit before it
pub told_turn : {L : Type 0} (place here : ℕ) (work : Work) (old informed new : Walsender L) (seat seat_then seat_after : SeatView) (before after : Option (List ℕ)) → HasLearnt old informed → seat_then ≡ seat → here ≡ place
    → Confirms work.flushed informed.sender.position here seat_then seat_after → StreamsOn informed new before after → Turn place work (standing old seat before) (standing new seat_after after)
told_turn place here work old informed new seat seat_then seat_after before after is same at confirmed goes =
    let Read : ℕ → Type 0 = λ read. Confirms work.flushed read place seat seat_after in
    let From : SeatView → Type 0 = λ v. Confirms work.flushed informed.sender.position place v seat_after in
    let At : ℕ → Type 0 = λ p. Confirms work.flushed informed.sender.position p seat_then seat_after in (
      subst Read (ap (λ (s : SenderState). s.position) is.sender) (subst From same (subst At at confirmed)),
      one_more old informed new before before after (learnt old informed before is) goes,
    )

-- and reads as much
same_most : {L : Type 0} (work : Work) (old informed : Walsender L) → HasLearnt old informed → most_read work informed ≡ most_read work old
same_most work old informed is = ap (λ (place : ℕ). min TURN_RECORDS (work.readable - place)) is.place

-- what it answered, likewise
pub told_answers : {L : Type 0} (work : Work) (old informed new : Walsender L) (seat seat_then seat_after : SeatView) (before after : Option (List ℕ)) → HasLearnt old informed
    → (work.phase ≡ phases.Closed) ⊎ WritesWhole work informed new before after → Answers work (standing old seat before) (standing new seat_after after)
told_answers work old informed new seat seat_then seat_after before after is (inl over) = inl over
told_answers work old informed new seat seat_then seat_after before after is (inr (first, writes, reads)) =
    let Due : SenderState → Type 0 = λ s. WritesUnder (most_read work informed) work.clock ((s.held ++ keepalives s.position work.clock work.asked) ++ asking work.is_silent s.position work.clock) informed new before after in
    let Under : ℕ → Type 0 = λ most. WritesUnder most work.clock (due_first work old) informed new before after in
    let Whole : ℕ → Type 0 = λ most. ReadsWhole most informed new in
    inr (
      λ written serving.
          let Seen : List Record → Type 0 = λ log. IsServing log old.reader.place written old.sender in
          let At : ℕ → Type 0 = λ place. IsServing (seen_of informed.reader) place written old.sender in
          let By : SenderState → Type 0 = λ s. IsServing (seen_of informed.reader) informed.reader.place written s in
          let (more, appended) = first written (subst By (sym is.sender) (subst At (sym is.place) (subst Seen (sym is.seen) serving))) in
          let Wrote : SenderState → Type 0 = λ s. Appends before after (((s.held ++ keepalives s.position work.clock work.asked) ++ asking work.is_silent s.position work.clock) ++ more) in
          (more, subst Wrote is.sender appended),
      told_under (most_read work old) work.clock (due_first work old) old informed new before after is (subst Under (same_most work old informed is) (subst Due is.sender writes)),
      told_whole (most_read work old) old informed new is (subst Whole (same_most work old informed is) reads),
    )

-- one turn more after others, all of which went well
turns_more : {D L : Type 0} (told : D → Work → D → Type 0) (place : ℕ) (last : Work → Standing L → Standing L → Type 0) (first : Work) (works : List Work) (work : Work) (backend given after : D) (old between new : Standing L)
    → Turns told place Answers first works backend old given between → told given work after → Turn place work between new → last work between new → Turns told place last first (works ++ work ∷ []) backend old after new
turns_more {D} {L} told place last first [] work backend given after old between new (no_more, turn, answered) gives one ends =
    let Gives : D → Type 0 = λ d. told d work after in
    (after, between, turn, answered, subst Gives no_more gives, (refl, one, ends))
turns_more told place last first (w ∷ works) work backend given after old between new (early, then, turned, answered, gave, rest) gives one ends =
    (early, then, turned, answered, gave, turns_more told place last w works work early given after then between new rest gives one ends)

-- the turn of the first work
pub first_turn : {D L : Type 0} (told : D → Work → D → Type 0) (place : ℕ) (last : Work → Standing L → Standing L → Type 0) (first : Work) (backend : D) (old new : Standing L) → Turn place first old new → last first old new
    → TakesTurns told place last first backend old backend new
first_turn told place last first backend old new turn ends = ([], (refl, turn, ends))

-- one turn more
pub one_turn_more : {D L : Type 0} (told : D → Work → D → Type 0) (place : ℕ) (last : Work → Standing L → Standing L → Type 0) (first work : Work) (backend given after : D) (old between new : Standing L)
    → TakesTurns told place Answers first backend old given between → told given work after → Turn place work between new → last work between new → TakesTurns told place last first backend old after new
one_turn_more told place last first work backend given after old between new (works, turns) gives one ends =
    (works ++ work ∷ [], turns_more told place last first works work backend given after old between new turns gives one ends)

-- of a turn that failed nothing is known
pub ended_with_fault : {L T E : Type 0} (r : Result T E) (work : Work) (old new : Standing L) → IsErr r → Ended r work old new
ended_with_fault (Ok done) work old new is = let never : false ≡ true = is in cc
ended_with_fault (Err fault) work old new is = tt

-- turns one after the other write the stream
turns_write : {D L : Type 0} (told : D → Work → D → Type 0) (place : ℕ) (last : Work → Standing L → Standing L → Type 0) (first : Work) (works : List Work) (backend : D) (old : Standing L) (after : D) (new : Standing L)
    → Turns told place last first works backend old after new → StreamsOn old.walsender new.walsender old.written new.written
turns_write told place last first [] backend old after new (same, turn, ends) = turn.1
turns_write told place last first (work ∷ works) backend old after new (given, mid, turn, answered, gives, rest) =
    one_more old.walsender mid.walsender new.walsender old.written mid.written new.written turn.1 (turns_write told place last work works given mid after new rest)

writes_stream : {D L : Type 0} (told : D → Work → D → Type 0) (place : ℕ) (last : Work → Standing L → Standing L → Type 0) (first : Work) (backend : D) (old : Standing L) (after : D) (end : Standing L)
    → ∥ Serves (seen_of old.walsender.reader) [] old.walsender ∥₁ → TakesTurns told place last first backend old after end → ∥ WritesStream old end ∥₁
writes_stream told place last first backend old after end new (works, turns) =
    let (given, goes, appended) = turns_write told place last first works backend old after end turns in
    ∥∥₁_map new (λ serves. (given, goes [] serves, appended))

-- ---- the end of a stream

-- its client asked for it
pub left_at_end : {D L : Type 0} (told : D → Work → D → Type 0) (place : ℕ) (first : Work) (r : Result (Unit {0}) ConnectionEnd) (backend after : D) (old : Standing L) (position : ℕ) (seat : SeatView) (written : Option (List ℕ)) → ∥ Serves (seen_of old.walsender.reader) [] old.walsender ∥₁ → is_err r ≡ false
    → EndsTurns told place first r backend old after position seat written → LeavesSlot told place first r backend old after seat written
left_at_end told place first (Ok done) backend after old position seat written new ok (end, last, turns, read, same, by) = (end, last, turns, writes_stream told place (Ended last) first backend old after end new turns, same, by)
left_at_end told place first (Err over) backend after old position seat written new ok ends = absurd cc

-- the connection is over
pub left_at_close : {D L : Type 0} (told : D → Work → D → Type 0) (place here : ℕ) (first work : Work) (r : Result (Unit {0}) ConnectionEnd) (backend closed after : D) (old : Standing L) (position : ℕ) (seat seat_after : SeatView) (written : Option (List ℕ)) → ∥ Serves (seen_of old.walsender.reader) [] old.walsender ∥₁ → is_err r ≡ true → here ≡ place
    → EndsTurns told place first r backend old closed position seat written → told closed work after → Confirms work.flushed position here seat seat_after → LeavesSlot told place first r backend old after seat_after written
left_at_close told place here first work (Ok done) backend closed after old position seat seat_after written new err at ends gives confirmed = absurd cc
left_at_close told place here first work (Err over) backend closed after old position seat seat_after written new err at (end, last, turns, read, same, by) gives confirmed =
    let At : ℕ → Type 0 = λ p. Confirms work.flushed position p seat seat_after in
    let Read : ℕ → Type 0 = λ n. Confirms work.flushed n place seat seat_after in
    let From : SeatView → Type 0 = λ v. Confirms work.flushed end.walsender.sender.position place v seat_after in
    (end, last, closed, work, turns, writes_stream told place (Ended last) first backend old closed end new turns, gives, subst From same (subst Read read (subst At at confirmed)), by)
