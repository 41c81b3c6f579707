-- A turn of a walsender, however it ends.
use Rattle.std.proofs.Common.{◌≡◌, ◌+◌, ◌<◌, ℕ, ℤ, true, false, List, [], ◌++◌, length, drop, take, refl, ap, sym, subst, ◌∙◌}
use Rattle.std.proofs.lemmas.List.{append-nil}
use Rattle.std.specs.Prelude.{FitsSigned, Result, Ok, Err, OnOk}
use Rattle.std.specs.Int.{w64}
use Rattle.std.specs.Io.KnownBytes.{Appends}
use Rattle.std.proofs.KnownBytes.{Appends-nil}
use Rattle.std.specs.declared.io.Error.{Error}
use Rattle.std.specs.declared.option.Option.{Option}
use mathlib.Core.List.{IsPrefix}
use Rattle.wal.specs.declared.record.Record.{Record}
use Rattle.wal.specs.Log.{IsWellFormedLog}
use Rattle.walsender.specs.declared.fault.SendFault.{SendFault}
use Rattle.walsender.specs.declared.stream_turn.turn_fault.TurnFault.{TurnFault}
use Rattle.walsender.specs.declared.stream_turn.turn_fault.TurnFault.TheVariants as turns
use Rattle.walsender.specs.Faults.{has_fetched, has_written}
use Rattle.walsender.specs.Published.{published_from, published_transactions}
use Rattle.walsender.specs.Sending.{SenderState, published_bytes}
use Rattle.walsender.specs.Turning.{IsRefused, ReadAndGave, fetched_from}
use Rattle.walsender.specs.Serving.{IsServing, ReadsAndWrites}
use Rattle.walsender.proofs.ServedSections.{section_of}
use Rattle.walsender.proofs.Skipping.{reads_after}
use Rattle.walsender.proofs.Serving.{given, grown_to, nothing_given, read_on, reading}

-- what a turn tells
pub record Turns (most : ℕ) (clock : ℤ) (old new : SenderState) (place moved_to : ℕ) (seen : List Record) (before after : Option (List ℕ)) (r : Result ℕ TurnFault) : Type 0 where
  pub moved : has_fetched r ≡ true → moved_to ≡ place + length (fetched_from most place seen)
  pub good : has_fetched r ≡ true → IsWellFormedLog seen
  pub unfetched : has_fetched r ≡ false → (moved_to ≡ place) × (new ≡ old)
  pub sent : OnOk r ((bytes : List ℕ) × ReadAndGave clock old new (fetched_from most place seen) bytes × (new.held ≡ []) × Appends before after bytes)
  pub broken : (e : Error) → r ≡ Err (turns.Write e) → (bytes : List ℕ) × ReadAndGave clock old new (fetched_from most place seen) bytes × (0 < length new.held) × Appends before after bytes
  pub refused : (e : SendFault) → r ≡ Err (turns.Sender e) → IsRefused clock old new (fetched_from most place seen) e
  pub silent : has_written r ≡ false → after ≡ before

pub turns_so : {most : ℕ} {clock : ℤ} {old new : SenderState} {place moved_to : ℕ} {seen : List Record} {before after : Option (List ℕ)} {r : Result ℕ TurnFault}
    → (has_fetched r ≡ true → moved_to ≡ place + length (fetched_from most place seen))
    → (has_fetched r ≡ true → IsWellFormedLog seen)
    → (has_fetched r ≡ false → (moved_to ≡ place) × (new ≡ old))
    → OnOk r ((bytes : List ℕ) × ReadAndGave clock old new (fetched_from most place seen) bytes × (new.held ≡ []) × Appends before after bytes)
    → ((e : Error) → r ≡ Err (turns.Write e) → (bytes : List ℕ) × ReadAndGave clock old new (fetched_from most place seen) bytes × (0 < length new.held) × Appends before after bytes)
    → ((e : SendFault) → r ≡ Err (turns.Sender e) → IsRefused clock old new (fetched_from most place seen) e)
    → (has_written r ≡ false → after ≡ before)
    → Turns most clock old new place moved_to seen before after r
turns_so moved good unfetched sent broken refused silent = record { moved = moved; good = good; unfetched = unfetched; sent = sent; broken = broken; refused = refused; silent = silent }

-- a turn that went well wrote what was held before all that it read
pub held_first : (most : ℕ) (clock : ℤ) (old new : SenderState) (place : ℕ) (early seen : List Record) (before after : Option (List ℕ)) (written bytes : List ℕ) → IsPrefix early seen → IsWellFormedLog seen
    → ReadAndGave clock old new (fetched_from most place seen) bytes → new.held ≡ [] → Appends before after bytes → IsServing early place written old → (more : List ℕ) × Appends before after (old.held ++ more)
held_first most clock old new place early seen before after written bytes begins good read empty appended serving =
    let r = reading seen place written old (grown_to early seen place written old begins serving) read.running in
    let part = section_of seen place most r.streaming.within good in
    let from = (grown_to early seen place written old begins serving).from in
    let behind = reads_after old.selection old.start from place seen (fetched_from most place seen) part (grown_to early seen place written old begins serving).reads_from r.since in
    let added = (read.read.after (drop from (take place seen)) r.read behind.may).1 in
    let more = published_bytes old.selection clock (published_transactions old.selection (drop from (take place seen)) old.start) (published_from old.selection old.start (drop from (take place seen)) (fetched_from most place seen)) in
    let whole : bytes ≡ old.held ++ more = sym (append-nil bytes) ∙ ap (λ (l : List ℕ). bytes ++ l) (sym empty) ∙ sym read.parts ∙ added.adds in
    let P : List ℕ → Type 0 = λ l. Appends before after l in
    (more, subst P whole appended)

pub first : (most : ℕ) (clock : ℤ) (old new : SenderState) (place moved_to : ℕ) (early seen : List Record) (before after : Option (List ℕ)) (r : Result ℕ TurnFault) → IsPrefix early seen → Turns most clock old new place moved_to seen before after r
    → OnOk r ((written : List ℕ) → IsServing early place written old → (more : List ℕ) × Appends before after (old.held ++ more))
first most clock old new place moved_to early seen before after (Ok n) begins t =
    λ written serving.
    let (bytes, read, empty, appended) = t.sent in
    held_first most clock old new place early seen before after written bytes begins (t.good refl) read empty appended serving
first most clock old new place moved_to early seen before after (Err e) begins t = tt

pub reads : (most : ℕ) (clock : ℤ) (old new : SenderState) (place moved_to : ℕ) (seen : List Record) (before after : Option (List ℕ)) (r : Result ℕ TurnFault) → Turns most clock old new place moved_to seen before after r
    → OnOk r (ReadsAndWrites clock old new (fetched_from most place seen) before after)
reads most clock old new place moved_to seen before after (Ok n) t = let (bytes, read, empty, appended) = t.sent in (bytes, read, appended)
reads most clock old new place moved_to seen before after (Err e) t = tt

abbrev pub GoesFrom : List Record → List Record → ℕ → ℕ → SenderState → SenderState → Option (List ℕ) → Option (List ℕ) → Type 0
GoesFrom early seen place moved_to old new before after =
    (bytes : List ℕ) × ((written : List ℕ) → IsServing early place written old → IsServing seen moved_to (written ++ bytes) new) × Appends before after bytes

gave : (most : ℕ) (clock : ℤ) (old new : SenderState) (place moved_to : ℕ) (early seen : List Record) (before after : Option (List ℕ)) → FitsSigned w64 clock → IsPrefix early seen → IsWellFormedLog seen
    → moved_to ≡ place + length (fetched_from most place seen) → ReadsAndWrites clock old new (fetched_from most place seen) before after → GoesFrom early seen place moved_to old new before after
gave most clock old new place moved_to early seen before after fits begins good moved (bytes, read, appended) = (
  bytes,
  λ written serving.
      given seen moved_to written bytes read.fed new read.parts read.rest read.lent
      (read_on seen place moved_to most clock written old read.fed (Ok tt) good fits moved (read.running, read.read, read.runs_on) (grown_to early seen place written old begins serving)),
  appended,
)

silent : (place moved_to : ℕ) (early seen : List Record) (old new : SenderState) (before after : Option (List ℕ)) → after ≡ before
    → ((written : List ℕ) → IsServing early place written old → IsServing seen moved_to written new) → GoesFrom early seen place moved_to old new before after
silent place moved_to early seen old new before after same goes =
    let P : Option (List ℕ) → Type 0 = λ o. Appends before o [] in
    ([], λ written serving. nothing_given seen moved_to written new (goes written serving), subst P (sym same) (Appends-nil before))

stays : (place moved_to : ℕ) (early seen : List Record) (old new : SenderState) → IsPrefix early seen → (moved_to ≡ place) × (new ≡ old)
    → (written : List ℕ) → IsServing early place written old → IsServing seen moved_to written new
stays place moved_to early seen old new begins same written serving = rw (same.0, same.1) (grown_to early seen place written old begins serving)

pub turned : (most : ℕ) (clock : ℤ) (old new : SenderState) (place moved_to : ℕ) (early seen : List Record) (before after : Option (List ℕ)) (r : Result ℕ TurnFault) → FitsSigned w64 clock → IsPrefix early seen
    → Turns most clock old new place moved_to seen before after r → GoesFrom early seen place moved_to old new before after
turned most clock old new place moved_to early seen before after (Ok n) fits begins t =
    gave most clock old new place moved_to early seen before after fits begins (t.good refl) (t.moved refl) (let (bytes, read, empty, appended) = t.sent in (bytes, read, appended))
turned most clock old new place moved_to early seen before after (Err (turns.Write e)) fits begins t =
    gave most clock old new place moved_to early seen before after fits begins (t.good refl) (t.moved refl) (let (bytes, read, left, appended) = t.broken e refl in (bytes, read, appended))
turned most clock old new place moved_to early seen before after (Err (turns.Sender e)) fits begins t =
    silent place moved_to early seen old new before after (t.silent refl)
    (λ written serving. read_on seen place moved_to most clock written old new (Err e) (t.good refl) fits (t.moved refl) (t.refused e refl) (grown_to early seen place written old begins serving))
turned most clock old new place moved_to early seen before after (Err turns.Memory) fits begins t =
    silent place moved_to early seen old new before after (t.silent refl) (stays place moved_to early seen old new begins (t.unfetched refl))
turned most clock old new place moved_to early seen before after (Err turns.NoEntry) fits begins t =
    silent place moved_to early seen old new before after (t.silent refl) (stays place moved_to early seen old new begins (t.unfetched refl))
turned most clock old new place moved_to early seen before after (Err turns.Stale) fits begins t =
    silent place moved_to early seen old new before after (t.silent refl) (stays place moved_to early seen old new begins (t.unfetched refl))
turned most clock old new place moved_to early seen before after (Err turns.Removed) fits begins t =
    silent place moved_to early seen old new before after (t.silent refl) (stays place moved_to early seen old new begins (t.unfetched refl))
