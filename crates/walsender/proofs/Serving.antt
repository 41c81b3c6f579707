-- What calls do to a walsender that serves.
use Rattle.std.proofs.Common.{◌≡◌, ◌<◌, ◌≤◌, ◌+◌, ◌^◌, ℕ, ℤ, suc, Bool, true, false, List, [], ◌∷◌, ◌++◌, length, take, drop, refl, sym, ap, subst, ◌∙◌, append_assoc, arith}
use Rattle.std.specs.Prelude.{FitsSigned, ◌↔◌, Result, Ok, Err, OnOk, OnErr}
use Rattle.std.specs.Int.{w64}
use Rattle.std.proofs.lemmas.Bool.{false_from_ne_true}
use Rattle.std.proofs.lemmas.List.{append-nil, drop_all, take-append-drop, take_at, length-append, length-take}
use Rattle.std.specs.Global.{Global}
use Rattle.std.specs.declared.sync.Arc.{Arc}
use mathlib.Core.List.{IsPrefix}
use Rattle.wal.specs.Records.{shared_records}
use Rattle.wal.specs.declared.record.TheConstants.{FIRST_POSITION}
use Rattle.wal.specs.declared.record.Record.{Record}
use Rattle.wal.specs.Log.{IsWellFormedLog, IsSized, follows, end_of}
use Rattle.wal.proofs.Laws.{end_of-append}
use Rattle.publication.specs.Selection.{relation}
use Rattle.pgoutput.specs.declared.published.Published.{Published}
use Rattle.pgoutput.specs.Words.{word_bytes}
use Rattle.pgoutput.specs.Items.{keepalive_word}
use Rattle.pgoutput.specs.Stream.{IsStream}
use Rattle.walsender.specs.declared.fault.SendFault.{SendFault}
use Rattle.walsender.specs.declared.fault.SendFault.TheVariants as sends
use Rattle.walsender.specs.Published.{published_from, published_transactions}
use Rattle.walsender.specs.Lent.{AreLastOf, sent_transactions}
use Rattle.walsender.proofs.Lasting.{last_then}
use Rattle.walsender.specs.Sending.{SenderState, HasRead, published_bytes, AddsPublished, ReadAll, RanOut}
use Rattle.walsender.specs.Turning.{IsRefused}
use Rattle.walsender.proofs.Sections.{all_back, starts_below}
use Rattle.walsender.specs.Serving.{BeginsAt, ReadsFrom, IsStreaming, IsServing, Reads, next_records}
use Rattle.walsender.proofs.Late.{published_late}
use Rattle.walsender.proofs.ServedSections.{IsSection, next_part, section_front, section_of, take_section, within_section}
use Rattle.walsender.proofs.Skipping.{adds_whole, drop_section, from_grown, from_within, nothing_skipped, reads_after}
use Rattle.walsender.proofs.Streams.{stream_read, stream_kept_alive, stream_moved, stream_new}

-- ---- reading on

-- what a batch, or the part of it that was read, does to what is held
grown_stream : (log : List Record) (place : ℕ) (section : List Record) (clock : ℤ) (written : List ℕ) (s new : SenderState) → IsSection log place section → FitsSigned w64 clock
    → IsStreaming log place written s → new.selection ≡ s.selection → new.start ≡ s.start → new.position ≡ end_of s.position section
    → AddsPublished clock s new.held (take place log) section → IsStreaming log (place + length section) written new
grown_stream log place section clock written s new part fits t selection start position added =
    let pre = take place log in
    let next = next_part log place section part in
    let goes : follows s.position section ≡ true = ap (λ (p : ℕ). follows p section) t.at ∙ next.follows_on in
    let sized = all_back IsSized pre section next.sized in
    let le = (starts_below s.position section goes sized).0 in
    let more = published_bytes s.selection clock (published_transactions s.selection pre s.start) (published_from s.selection s.start pre section) in
    let grown : written ++ new.held ≡ (written ++ s.held) ++ more = ap (λ (l : List ℕ). written ++ l) added.adds ∙ sym (append_assoc written s.held more) in
    let stream = stream_read s.selection clock (written ++ s.held) (written ++ new.held) pre section s.start s.position (end_of s.position section) t.stream grown le
    (published_late s.selection s.start s.position pre section goes sized) added.fit fits in
    record {
      within = within_section log place section part;
      at = position ∙ ap (λ (p : ℕ). end_of p section) t.at ∙ sym (end_of-append FIRST_POSITION pre section) ∙ ap (end_of FIRST_POSITION) (sym (take_section log place section part));
      stream = rw (selection, start, position, take_section log place section part) stream;
    }

-- A sender that has not failed streams up to its reader's place, and is as these records leave one.
pub record IsReading (log : List Record) (place from : ℕ) (written : List ℕ) (s : SenderState) : Type 0 where
  pub streaming : IsStreaming log place written s
  pub read : HasRead s (drop from (take place log))
  pub since : from ≤ place

pub reading : (log : List Record) (place : ℕ) (written : List ℕ) (s : SenderState) (serving : IsServing log place written s) → s.failed ≡ false → IsReading log place serving.from written s
reading log place written s serving running =
    let r = serving.running running in
    let P : ℕ → Type 0 = λ n. IsStreaming log n written s in
    record { streaming = subst P r.0 serving.streaming; read = r.1; since = omega (arith, serving.since, r.0) }

fed_on : (log : List Record) (place : ℕ) (section : List Record) (clock : ℤ) (written : List ℕ) (s new : SenderState) → IsSection log place section → FitsSigned w64 clock
    → IsServing log place written s → s.failed ≡ false → ReadAll clock s new section → IsServing log (place + length section) written new
fed_on log place section clock written s new part fits serving running fed =
    let r = reading log place written s serving running in
    let behind = reads_after s.selection s.start serving.from place log section part serving.reads_from r.since in
    let done = fed.after (drop serving.from (take place log)) r.read behind.may in
    let P : List Record → Type 0 = λ l. HasRead new l in
    let now : drop serving.from (take (place + length section) log) ≡ drop serving.from (take place log) ++ section =
    ap (drop serving.from) (take_section log place section part) ∙ drop_section log section serving.from place (omega (arith, r.since, part.len)) in
    record {
      from = serving.from;
      reads_from = subst (λ (n : ℕ). ReadsFrom log n serving.from) (sym fed.start) serving.reads_from;
      count = place + length section;
      since = omega (arith, r.since);
      streaming = grown_stream log place section clock written s new part fits r.streaming fed.selection fed.start fed.position (adds_whole clock s new.held serving.from place log section behind done.1);
      running = λ still. (refl, subst P (sym now) done.0);
    }

not_both : {b : Bool} → b ≡ true → b ≡ false → ⊥
not_both p q = let never : true ≡ false = sym p ∙ q in cc

-- after a refusal for room or memory the place is of no use any more
broken_on : (log : List Record) (place any : ℕ) (section : List Record) (clock : ℤ) (written : List ℕ) (s new : SenderState) → IsSection log place section → FitsSigned w64 clock
    → IsServing log place written s → s.failed ≡ false → RanOut clock s new section → IsServing log any written new
broken_on log place any section clock written s new part fits serving running fed =
    let r = reading log place written s serving running in
    let less = section_front log place fed.count section part in
    let behind = reads_after s.selection s.start serving.from place log (take fed.count section) less serving.reads_from r.since in
    let added = fed.after (drop serving.from (take place log)) r.read behind.may in
    record {
      from = serving.from;
      reads_from = subst (λ (n : ℕ). ReadsFrom log n serving.from) (sym fed.start) serving.reads_from;
      count = place + length (take fed.count section);
      since = omega (arith, r.since);
      streaming = grown_stream log place (take fed.count section) clock written s new less fits r.streaming fed.selection fed.start fed.position (adds_whole clock s new.held serving.from place log (take fed.count section) behind added);
      running = λ still. absurd (not_both fed.failed still);
    }

-- what is next follows, so no gap is answered
pub no_gap : (log : List Record) (place max : ℕ) (written : List ℕ) (s : SenderState) → IsWellFormedLog log → IsServing log place written s → s.failed ≡ false → follows s.position (next_records max place log) ≡ false → ⊥
no_gap log place max written s good serving running gap =
    let t = (reading log place written s serving running).streaming in
    let next = next_part log place (take max (drop place log)) (section_of log place max t.within good) in
    let P : ℕ → Type 0 = λ p. follows p (take max (drop place log)) ≡ true in
    not_both (subst P (sym t.at) next.follows_on) gap

refused_on : (log : List Record) (place any max : ℕ) (clock : ℤ) (written : List ℕ) (s new : SenderState) (fault : SendFault) → IsWellFormedLog log → FitsSigned w64 clock → IsServing log place written s
    → IsRefused clock s new (next_records max place log) fault → IsServing log any written new
refused_on log place any max clock written s new sends.ArenaFull good fits serving refused =
    let t = (reading log place written s serving refused.0).streaming in
    broken_on log place any (take max (drop place log)) clock written s new (section_of log place max t.within good) fits serving refused.0 refused.1
refused_on log place any max clock written s new sends.Memory good fits serving refused =
    let t = (reading log place written s serving refused.0).streaming in
    broken_on log place any (take max (drop place log)) clock written s new (section_of log place max t.within good) fits serving refused.0 refused.1
refused_on log place any max clock written s new sends.Failed good fits serving refused =
    let P : SenderState → Type 0 = λ t. IsServing log any written t in
    subst P (sym refused.1) (record { from = serving.from; reads_from = serving.reads_from; count = serving.count; since = serving.since; streaming = serving.streaming; running = λ still. absurd (not_both refused.0 still) })
refused_on log place any max clock written s new sends.Gap good fits serving refused = absurd (no_gap log place max written s good serving refused.0 refused.1)

-- whatever a sender made of the records that it was fed
pub read_on : (log : List Record) (place any max : ℕ) (clock : ℤ) (written : List ℕ) (s new : SenderState) (result : Result (Unit {0}) SendFault) → IsWellFormedLog log → FitsSigned w64 clock
    → any ≡ place + length (next_records max place log) → Reads clock s new (next_records max place log) result → IsServing log place written s → IsServing log any written new
read_on log place any max clock written s new (Ok done) good fits moved reads serving =
    let t = (reading log place written s serving reads.0).streaming in
    let P : ℕ → Type 0 = λ n. IsServing log n written new in
    subst P (sym moved) (fed_on log place (take max (drop place log)) clock written s new (section_of log place max t.within good) fits serving reads.0 reads.1)
read_on log place any max clock written s new (Err fault) good fits moved reads serving = refused_on log place any max clock written s new fault good fits serving reads

-- ---- what a feed answers

-- a sender that answered anything but Failed was running
was_running : (s : SenderState) (r : Result (Unit {0}) SendFault) → (r ≡ Err sends.Failed) ↔ (s.failed ≡ true) → (r ≡ Err sends.Failed → ⊥) → s.failed ≡ false
was_running s r failed other = false_from_ne_true s.failed (λ is. other (failed.1 is))

-- what a feed says of its answer
pub record Feeds (clock : ℤ) (s new : SenderState) (rs : List Record) (r : Result (Unit {0}) SendFault) : Type 0 where
  pub ok : OnOk r (ReadAll clock s new rs)
  pub running : OnOk r (new.failed ≡ false)
  pub full : r ≡ Err sends.ArenaFull → RanOut clock s new rs
  pub memory : r ≡ Err sends.Memory → RanOut clock s new rs
  pub failed : (r ≡ Err sends.Failed) ↔ (s.failed ≡ true)
  pub unchanged : s.failed ≡ true → new ≡ s
  pub unread : r ≡ Err sends.Gap → new ≡ s
  pub gap : r ≡ Err sends.Gap → follows s.position rs ≡ false

pub feeds : (clock : ℤ) (s new : SenderState) (rs : List Record) (r : Result (Unit {0}) SendFault) → Feeds clock s new rs r → Reads clock s new rs r
feeds clock s new rs (Ok done) told = (was_running s (Ok done) told.failed (λ other. cc), told.ok, told.running)
feeds clock s new rs (Err sends.ArenaFull) told = (was_running s (Err sends.ArenaFull) told.failed (λ other. cc), told.full refl)
feeds clock s new rs (Err sends.Memory) told = (was_running s (Err sends.Memory) told.failed (λ other. cc), told.memory refl)
feeds clock s new rs (Err sends.Failed) told = (told.failed.0 refl, told.unchanged (told.failed.0 refl))
feeds clock s new rs (Err sends.Gap) told = (was_running s (Err sends.Gap) told.failed (λ other. cc), told.gap refl, told.unread refl)

pub length_shared : (records : List (Arc Record Global)) → length (shared_records records) ≡ length records
length_shared [] = refl
length_shared (y ∷ records) = ap suc (length_shared records)

-- ---- the other calls

kept_alive : (log : List Record) (place : ℕ) (clock : ℤ) (ask : Bool) (written : List ℕ) (s : SenderState) → IsServing log place written s → FitsSigned w64 clock → s.position < 2 ^ 64
    → IsServing log place written (record s { held = s.held ++ word_bytes (keepalive_word s.position clock ask) })
kept_alive log place clock ask written s serving fits lt =
    let t = serving.streaming in
    let word = word_bytes (keepalive_word s.position clock ask) in
    let all = published_transactions s.selection (take serving.count log) s.start in
    record {
      from = serving.from;
      reads_from = serving.reads_from;
      count = serving.count;
      since = serving.since;
      streaming = record {
        within = t.within;
        at = t.at;
        stream = stream_moved (relation s.selection) ((written ++ s.held) ++ word) (written ++ (s.held ++ word)) all s.position
            (stream_kept_alive (relation s.selection) clock ask (written ++ s.held) all s.position t.stream lt fits) (sym (append_assoc written s.held word));
      };
      running = λ still. let r = serving.running still in (r.0, record { taken = r.1.taken; running = r.1.running; relations_sent = r.1.relations_sent; lent = r.1.lent });
    }

pub kept_on : (log : List Record) (place : ℕ) (clock : ℤ) (ask : Bool) (written : List ℕ) (s new : SenderState) (r : Result (Unit {0}) SendFault) → FitsSigned w64 clock
    → OnOk r (new ≡ record s { held = s.held ++ word_bytes (keepalive_word s.position clock ask) }) → OnErr r (new ≡ s) → OnOk r (s.position < 2 ^ 64) → IsServing log place written s → IsServing log place written new
kept_on log place clock ask written s new (Ok done) fits ok err lt serving = let P : SenderState → Type 0 = λ n. IsServing log place written n in subst P (sym ok) (kept_alive log place clock ask written s serving fits lt)
kept_on log place clock ask written s new (Err fault) fits ok err lt serving = let P : SenderState → Type 0 = λ n. IsServing log place written n in subst P (sym err) serving

-- bytes from the front of what was held are written
pub given : (log : List Record) (place : ℕ) (written bytes : List ℕ) (s new : SenderState) → s.held ≡ bytes ++ new.held → new ≡ record s { held = new.held; lent = new.lent } → AreLastOf new.lent s.lent → IsServing log place written s
    → IsServing log place (written ++ bytes) new
given log place written bytes s new parts rest last serving =
    let t = serving.streaming in
    let P : SenderState → Type 0 = λ n. IsServing log place (written ++ bytes) n in
    subst P (sym rest) (record {
      from = serving.from;
      reads_from = serving.reads_from;
      count = serving.count;
      since = serving.since;
      streaming = record {
        within = t.within;
        at = t.at;
        stream = stream_moved (relation s.selection) (written ++ s.held) ((written ++ bytes) ++ new.held) (published_transactions s.selection (take serving.count log) s.start) s.position t.stream
            (append_assoc written bytes new.held ∙ ap (λ (l : List ℕ). written ++ l) (sym parts));
      };
      running = λ still.
          let r = serving.running still in
          (r.0, record { taken = r.1.taken; running = r.1.running; relations_sent = r.1.relations_sent; lent = last_then (sent_transactions s.selection (drop serving.from (take place log)) s.start) s.lent new.lent r.1.lent last });
    })

-- bytes from the front of what was held are moved out
pub drained : (log : List Record) (place max : ℕ) (written : List ℕ) (s new : SenderState) → new ≡ record s { held = drop max s.held; lent = new.lent } → AreLastOf new.lent s.lent → IsServing log place written s
    → IsServing log place (written ++ take max s.held) new
drained log place max written s new is last serving =
    let P : SenderState → Type 0 = λ n. IsServing log place (written ++ take max s.held) n in
    subst P (sym is) (given log place written (take max s.held) s (record s { held = drop max s.held; lent = new.lent }) (sym (take-append-drop max s.held)) refl last serving)

-- nothing was moved out, but chunks may be free
pub kept_shorter : (log : List Record) (place : ℕ) (written : List ℕ) (s new : SenderState) → new ≡ record s { lent = new.lent } → AreLastOf new.lent s.lent → IsServing log place written s → IsServing log place written new
kept_shorter log place written s new is last serving =
    let t = serving.streaming in
    let P : SenderState → Type 0 = λ n. IsServing log place written n in
    subst P (sym is) (record {
      from = serving.from;
      reads_from = serving.reads_from;
      count = serving.count;
      since = serving.since;
      streaming = record { within = t.within; at = t.at; stream = t.stream };
      running = λ still.
          let r = serving.running still in
          (r.0, record { taken = r.1.taken; running = r.1.running; relations_sent = r.1.relations_sent; lent = last_then (sent_transactions s.selection (drop serving.from (take place log)) s.start) s.lent new.lent r.1.lent last });
    })

pub err_then : {A E : Type 0} (P Q : Type 0) (r : Result A E) → (P → Q) → OnErr r P → OnErr r Q
err_then P Q (Ok a) f p = tt
err_then P Q (Err e) f p = f p

pub ok_then : {A E : Type 0} (P Q : Type 0) (r : Result A E) → (P → Q) → OnOk r P → OnOk r Q
ok_then P Q (Ok a) f p = f p
ok_then P Q (Err e) f p = tt

-- nothing was written
pub nothing_given : (log : List Record) (place : ℕ) (written : List ℕ) (s : SenderState) → IsServing log place written s → IsServing log place (written ++ []) s
nothing_given log place written s serving = let P : List ℕ → Type 0 = λ l. IsServing log place l s in subst P (sym (append-nil written)) serving

pub started : (log : List Record) (s : SenderState) (start first from : ℕ) → BeginsAt log start first from → s.start ≡ start → s.position ≡ first → s.held ≡ [] → HasRead s [] → IsServing log from [] s
started log s start first from begins start_is position held reads =
    let reads_from = subst (λ (n : ℕ). ReadsFrom log n from) (sym start_is) begins.reads_from in
    let within = from_within log s.start from reads_from in
    let none : published_transactions s.selection (take from log) s.start ≡ [] = nothing_skipped s.selection log s.start from reads_from begins.good in
    let empty : drop from (take from log) ≡ [] = drop_all from (take from log) (omega (arith, length-take from log, within)) in
    let S : List Published → Type 0 = λ ts. IsStream (relation s.selection) ([] ++ s.held) ts s.position in
    record {
      from = from;
      reads_from = reads_from;
      count = from;
      since = omega arith;
      streaming = record { within = within; at = position ∙ begins.position; stream = subst S (sym none) (stream_moved (relation s.selection) [] s.held [] s.position (stream_new (relation s.selection) s.position) held) };
      running = λ still. (refl, subst (HasRead s) (sym empty) reads);
    }

-- ---- a longer log

take_grown : (log more : List Record) (place : ℕ) → place ≤ length log → take place (log ++ more) ≡ take place log
take_grown log more place le =
    let parted : log ++ more ≡ take place log ++ (drop place log ++ more) = ap (λ l. l ++ more) (sym (take-append-drop place log)) ∙ append_assoc (take place log) (drop place log) more in
    ap (take place) parted ∙ take_at (take place log) (drop place log ++ more) place (omega (arith, length-take place log))

pub grown_streaming : (log more : List Record) (count : ℕ) (written : List ℕ) (s : SenderState) → IsStreaming log count written s → IsStreaming (log ++ more) count written s
grown_streaming log more count written s t =
    let same = take_grown log more count t.within in
    let longer : length log ≤ length (log ++ more) = omega (arith, length-append log more) in
    let P : List Record → Type 0 = λ l. IsStream (relation s.selection) (written ++ s.held) (published_transactions s.selection l s.start) s.position in
    record { within = omega (arith, t.within, longer); at = t.at ∙ ap (end_of FIRST_POSITION) (sym same); stream = subst P (sym same) t.stream }

pub grown : (log more : List Record) (place : ℕ) (written : List ℕ) (s : SenderState) → IsServing log place written s → IsServing (log ++ more) place written s
grown log more place written s serving = record {
  from = serving.from;
  reads_from = from_grown log more s.start serving.from serving.reads_from;
  count = serving.count;
  since = serving.since;
  streaming = grown_streaming log more serving.count written s serving.streaming;
  running = λ still.
      let r = serving.running still in
      let t = serving.streaming in
      let Q : ℕ → Type 0 = λ n. n ≤ length log in
      let P : List Record → Type 0 = λ l. HasRead s (drop serving.from l) in
      (r.0, subst P (sym (take_grown log more place (subst Q r.0 t.within))) r.1);
}

pub grown_to : (log longer : List Record) (place : ℕ) (written : List ℕ) (s : SenderState) → IsPrefix log longer → IsServing log place written s → IsServing longer place written s
grown_to log longer place written s begins serving = let P : List Record → Type 0 = λ l. IsServing l place written s in subst P begins.1 (grown log begins.0 place written s serving)
