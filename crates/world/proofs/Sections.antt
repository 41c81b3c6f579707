-- What calls of a walsender make of a start, in the world's words.
use Rattle.std.proofs.Common.{◌≡◌, ◌<◌, ◌≤◌, ℕ, ℤ, Bool, true, false, List, ◌++◌, length, take, drop, refl, sym, ap, subst, ◌∙◌}
use Rattle.std.specs.Prelude.{◌↔◌, Result, Ok, Err, OnErr, OnOk}
use Rattle.std.proofs.lemmas.Bool.{false_from_ne_true}
use Rattle.wal.specs.declared.record.TheConstants.{FIRST_POSITION}
use Rattle.wal.specs.declared.record.Record.{Record}
use Rattle.wal.specs.Log.{IsWellFormedLog, end_of}
use Rattle.pgoutput.specs.Words.{word_bytes}
use Rattle.pgoutput.specs.Items.{keepalive_word}
use Rattle.walsender.specs.declared.fault.SendFault.{SendFault}
use Rattle.walsender.specs.declared.fault.SendFault.TheVariants as sends
use Rattle.walsender.specs.Published.{published_from, published_transactions}
use Rattle.walsender.specs.Sending.{SenderState, published_bytes, ReadAll, RanOut}
use Rattle.world.specs.declared.printed.answer.Answer.{Answer}
use Rattle.world.specs.declared.printed.answer.Answer.TheVariants as answers
use Rattle.walsender.specs.Serving.{IsServing, Reads, next_records}
use Rattle.walsender.proofs.ServedSections.{section_front, section_of}
use Rattle.walsender.proofs.Skipping.{adds_whole, reads_after}
use Rattle.walsender.proofs.Serving.{grown, grown_streaming, no_gap, reading}
use Rattle.world.specs.declared.stepping.action.Action.TheVariants as actions
use Rattle.world.specs.declared.stepping.start.StartStage.{StartStage}
use Rattle.world.specs.declared.stepping.start.StartStage.TheVariants as stages
use Rattle.world.specs.Start.{StartState}
use Rattle.world.specs.Acting.{read_by}
use Rattle.world.specs.Acting.{unread_records, after_action, after_reading, answer_of, BreaksDown, Acts}
use Rattle.world.specs.Starts.{IsServedBy, open_state}
use Rattle.world.proofs.Positions.{read_by_place, unread_place}

-- ---- a read

read_is : (log : List Record) (place : ℕ) (clock : ℤ) (name produced : List ℕ) (s new : SenderState) (section : List Record) → IsWellFormedLog log → s.position ≡ end_of FIRST_POSITION (take place log)
    → new.selection ≡ s.selection → new.start ≡ s.start → new.position ≡ end_of s.position section → new.failed ≡ s.failed
    → new.held ≡ s.held ++ published_bytes s.selection clock (published_transactions s.selection (take place log) s.start) (published_from s.selection s.start (take place log) section)
    → open_state name produced new ≡ after_reading log clock section (open_state name produced s)
read_is log place clock name produced s new section good at selection start position failed held =
    let pre_is : take place log ≡ read_by s.position log = sym (read_by_place log place good) ∙ ap (λ (p : ℕ). read_by p log) (sym at) in
    let held_is = held ∙ ap (λ l. s.held ++ published_bytes s.selection clock (published_transactions s.selection l s.start) (published_from s.selection s.start l section)) pre_is in
    rw (selection, start, position, failed, held_is) refl

unread_is : (log : List Record) (place max : ℕ) (s : SenderState) → IsWellFormedLog log → s.position ≡ end_of FIRST_POSITION (take place log) → next_records max place log ≡ take max (unread_records s.position log)
unread_is log place max s good at = ap (take max) (sym (unread_place log place good)) ∙ ap (λ (p : ℕ). take max (unread_records p log)) (sym at)

fed_acts : (log : List Record) (place max : ℕ) (clock : ℤ) (name produced : List ℕ) (s new : SenderState) → IsWellFormedLog log → IsServing log place produced s
    → s.failed ≡ false → new.failed ≡ false → ReadAll clock s new (next_records max place log)
    → open_state name produced new ≡ after_action log (actions.Read max clock) (open_state name produced s)
fed_acts log place max clock name produced s new good serving running still fed =
    let r = reading log place produced s serving running in
    let section = take max (drop place log) in
    let behind = reads_after s.selection s.start serving.from place log section (section_of log place max r.streaming.within good) serving.reads_from r.since in
    let added = adds_whole clock s new.held serving.from place log section behind (fed.after (drop serving.from (take place log)) r.read behind.may).1 in
    read_is log place clock name produced s new section good r.streaming.at fed.selection fed.start fed.position (still ∙ sym running) added.adds
    ∙ ap (λ l. after_reading log clock l (open_state name produced s)) (unread_is log place max s good r.streaming.at)

broken_acts : (log : List Record) (place max : ℕ) (clock : ℤ) (name produced : List ℕ) (s new : SenderState) → IsWellFormedLog log → IsServing log place produced s
    → s.failed ≡ false → RanOut clock s new (next_records max place log) → BreaksDown log max clock (open_state name produced s) (open_state name produced new)
broken_acts log place max clock name produced s new good serving running fed =
    let r = reading log place produced s serving running in
    let section = take max (drop place log) in
    let less = section_front log place fed.count section (section_of log place max r.streaming.within good) in
    let behind = reads_after s.selection s.start serving.from place log (take fed.count section) less serving.reads_from r.since in
    let added = adds_whole clock s new.held serving.from place log (take fed.count section) behind (fed.after (drop serving.from (take place log)) r.read behind.may) in
    let section_is = unread_is log place max s good r.streaming.at in
    let sound : SenderState = record new { failed = s.failed } in
    let same = read_is log place clock name produced s sound (take fed.count section) good r.streaming.at fed.selection fed.start fed.position refl added.adds in
    let N : ℕ → Type 0 = λ n. fed.count < n in
    record {
      count = fed.count;
      fewer = subst N (ap length section_is) fed.fewer;
      is = rw fed.failed (ap (λ (l : StartState). record l { failed = true }) (same ∙ ap (λ l. after_reading log clock (take fed.count l) (open_state name produced s)) section_is));
    }

pub read_acts : (log : List Record) (place max : ℕ) (clock : ℤ) (name produced : List ℕ) (s new : SenderState) (r : Result (Unit {0}) SendFault) → IsWellFormedLog log → IsServing log place produced s
    → Reads clock s new (next_records max place log) r → Acts log (actions.Read max clock) (open_state name produced s) (answer_of r) (open_state name produced new)
read_acts log place max clock name produced s new (Ok done) good serving reads = (reads.0, fed_acts log place max clock name produced s new good serving reads.0 reads.2 reads.1)
read_acts log place max clock name produced s new (Err sends.ArenaFull) good serving reads = (reads.0, broken_acts log place max clock name produced s new good serving reads.0 reads.1)
read_acts log place max clock name produced s new (Err sends.Memory) good serving reads = (reads.0, broken_acts log place max clock name produced s new good serving reads.0 reads.1)
read_acts log place max clock name produced s new (Err sends.Failed) good serving reads = (refl, reads.0, ap (λ (t : SenderState). open_state name produced t) reads.1)
read_acts log place max clock name produced s new (Err sends.Gap) good serving reads = absurd (no_gap log place max produced s good serving reads.0 reads.1)

-- ---- a keepalive

-- a sender that answered anything but Failed was running
pub was_running : (s : SenderState) (r : Result (Unit {0}) SendFault) → (r ≡ Err sends.Failed) ↔ (s.failed ≡ true) → (r ≡ Err sends.Failed → ⊥) → s.failed ≡ false
was_running s r failed other = false_from_ne_true s.failed (λ is. other (failed.1 is))

abbrev failed_with : SendFault → Result (Unit {0}) SendFault
failed_with fault = Err fault

pub refused_keepalive : (log : List Record) (clock : ℤ) (name produced : List ℕ) (s new : SenderState) (r : Result (Unit {0}) SendFault) (fault : SendFault) → r ≡ Err fault → (r ≡ Err sends.Failed) ↔ (s.failed ≡ true)
    → (r ≡ Err sends.Gap → ⊥) → (r ≡ Err sends.ArenaFull → ⊥) → new ≡ s → Acts log (actions.Keepalive clock) (open_state name produced s) (answers.Sender fault) (open_state name produced new)
refused_keepalive log clock name produced s new r sends.ArenaFull is failed gap full same = absurd (full is)
refused_keepalive log clock name produced s new r sends.Memory is failed gap full same =
    (was_running s r failed (λ other. differ (sym is ∙ other)), ap (λ (t : SenderState). open_state name produced t) same)
  where
    differ : failed_with sends.Memory ≡ failed_with sends.Failed → ⊥
    differ e = cc
refused_keepalive log clock name produced s new r sends.Failed is failed gap full same = (refl, failed.0 is, ap (λ (t : SenderState). open_state name produced t) same)
refused_keepalive log clock name produced s new r sends.Gap is failed gap full same = absurd (gap is)

pub keepalive_acts : (log : List Record) (clock : ℤ) (name produced : List ℕ) (s new : SenderState) (r : Result (Unit {0}) SendFault) → (r ≡ Err sends.Failed) ↔ (s.failed ≡ true) → (r ≡ Err sends.Gap → ⊥) → (r ≡ Err sends.ArenaFull → ⊥)
    → OnOk r (new ≡ record s { held = s.held ++ word_bytes (keepalive_word s.position clock false) }) → OnErr r (new ≡ s) → Acts log (actions.Keepalive clock) (open_state name produced s) (answer_of r) (open_state name produced new)
keepalive_acts log clock name produced s new (Ok done) failed gap full told same = (was_running s (Ok done) failed (λ other. cc), ap (λ (t : SenderState). open_state name produced t) told)
keepalive_acts log clock name produced s new (Err fault) failed gap full told same = refused_keepalive log clock name produced s new (Err fault) fault refl failed gap full same

-- ---- a longer log

pub grown_served : {L : Type 0} (log more : List Record) (produced : List ℕ) (s : StartStage L) → IsServedBy log produced s → IsServedBy (log ++ more) produced s
grown_served log more produced (stages.Open w) serving = grown log more w.reader.place produced w.sender serving
grown_served log more produced (stages.Cut e) was = record {
  before = was.before;
  count = was.count;
  streaming = grown_streaming log more was.count produced was.before was.streaming;
  selection_is = was.selection_is;
  start_is = was.start_is;
  position_is = was.position_is;
}
