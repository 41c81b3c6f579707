-- A segment that has the records of a log, and one more.
use Rattle.std.proofs.Common.{◌≡◌, ◌⊎◌, ℕ, ◌+◌, ◌<◌, ◌≤◌, true, List, [], ◌∷◌, ◌++◌, length, take, drop, map, get_or, Result, Ok, Err, OnOk, inl, inr, refl, sym, ap, subst, ◌∙◌, append_assoc, arith}
use Rattle.std.proofs.lemmas.List.{length-append, length-drop, length-take, map-append, take-append-drop, take-append-le, take-map, take_more}
use Rattle.std.specs.Prelude.{IfErr}
use mathlib.Core.List.{IsPrefix}
use Rattle.shared_log.proofs.Reading.{take_add}
use Rattle.std.specs.declared.sync.Arc.{Arc}
use Rattle.wal.specs.Records.{shared_records}
use Rattle.wal.specs.Restart.{is_in_progress, place_from, restart_place}
use Rattle.wal.proofs.Restarts.{within}
use Rattle.wal.specs.declared.record.Record.{Record}
use Rattle.segments.specs.Contents.{HasWritten}
use Rattle.segments.specs.Entries.{Written}
use Rattle.segments.specs.Keeping.{HasLogged, bodies_of}
use Rattle.segments.specs.Kinds.{is_beside, records_in}
use Rattle.segments.specs.SlotEvents.{spell_event}
use Rattle.segments.specs.declared.slot_events.slot_event.SlotEvent.{SlotEvent}
use Rattle.segments.specs.declared.slot_events.slot_event.SlotEvent.TheVariants.{Stands, Dropped}
use Rattle.segments.proofs.Beside.{beside_last, record_last, spelled_no_beside}
use Rattle.segments.specs.Records.{SpellsRecord}
use Rattle.segments.specs.Recovery.{AreTold}
use Rattle.segments.specs.declared.fault.SegmentFault.{SegmentFault}
use Rattle.segments.specs.declared.fault.SegmentFault.TheVariants.{Disk}
use Rattle.segments.specs.declared.segment.Segment.{Segment}

told_more : (es : List Written) (log : List Record) (e : Written) (r : Record) → AreTold es (bodies_of log) → SpellsRecord e.body r.body → AreTold (es ++ e ∷ []) (bodies_of (log ++ r ∷ []))
told_more [] [] e r told spells = (spells, tt)
told_more [] (s ∷ log) e r told spells = absurd told
told_more (f ∷ es) [] e r told spells = absurd told
told_more (f ∷ es) (s ∷ log) e r told spells = (told.0, told_more es log e r told.1 spells)

pub one_more : {D : Type 0} (seen : D → List ℕ) (old new : Segment D) (log : List Record) (e : Written) (r : Record) (has : HasLogged seen old log) → HasWritten seen new (has.es ++ e ∷ []) → SpellsRecord e.body r.body → HasLogged seen new (log ++ r ∷ [])
one_more seen old new log e r has written spells = record {
  es = has.es ++ e ∷ [];
  written = written;
  told = subst (λ (l : List Written). AreTold l (bodies_of (log ++ r ∷ []))) (sym (record_last has.es e (spelled_no_beside e.body r.body spells))) (told_more (records_in has.es) log e r has.told spells);
}

-- an entry beside the records changes nothing of them
pub one_beside : {D : Type 0} (seen : D → List ℕ) (old new : Segment D) (log : List Record) (e : Written) (has : HasLogged seen old log) → HasWritten seen new (has.es ++ e ∷ []) → is_beside e.body ≡ true → HasLogged seen new log
one_beside seen old new log e has written beside =
    record { es = has.es ++ e ∷ []; written = written; told = subst (λ (l : List Written). AreTold l (bodies_of log)) (sym (beside_last has.es e beside)) has.told }

pub event_beside : (event : SlotEvent) → is_beside (spell_event event) ≡ true
event_beside (Stands slot) = refl
event_beside (Dropped name) = refl

pub then_ok : {A E : Type 0} (r : Result A E) {P Q : Type 0} → OnOk r P → (P → Q) → OnOk r Q
then_ok (Ok a) p f = f p
then_ok (Err e) p f = tt

pub ok_of : {A E : Type 0} (r : Result A E) {P : Type 0} → ((e : E) → r ≡ Err e → ⊥) → OnOk r P → P
ok_of (Ok a) never p = p
ok_of (Err e) never p = absurd (never e refl)

-- one more of the records was taken
pub taken : {A : Type 0} (log : List Record) (arcs : List (Arc Record A)) (n : ℕ) (item : Arc Record A) → n < length arcs → item ≡ get_or arcs n item → (log ++ take n (shared_records arcs)) ++ item.value ∷ [] ≡ log ++ take (n + 1) (shared_records arcs)
taken {A} log arcs n item below is =
    let value : Arc Record A → Record = λ a. a.value in
    let one : Record = item.value in
    let front = take n (shared_records arcs) in
    let more : take (n + 1) arcs ≡ take n arcs ++ item ∷ [] = take_more arcs n item below ∙ ap (λ (a : Arc Record A). take n arcs ++ a ∷ []) (sym is) in
    let step : front ++ one ∷ [] ≡ take (n + 1) (shared_records arcs) =
    ap (λ (l : List Record). l ++ one ∷ []) (take-map value n arcs) ∙ sym (map-append value (take n arcs) (item ∷ [])) ∙ ap (λ l. map value l) (sym more) ∙ sym (take-map value (n + 1) arcs) in
    append_assoc log front (one ∷ []) ∙ ap (λ (l : List Record). log ++ l) step

-- of what a reader sees now so many more were written
pub reached : (old seen v : List Record) (place written max : ℕ) → IsPrefix old seen → place ≤ length old → v ≡ take max (drop place seen) → written ≤ length v → take place old ++ take written v ≡ take (place + written) seen
reached old seen v place written max front inside is few =
    let rest = drop place seen in
    let first : take place old ≡ take place seen = sym (take-append-le place old front.0 inside) ∙ ap (λ (l : List Record). take place l) front.1 in
    let low : written ≤ length (take max rest) = subst (λ (l : List Record). written ≤ length l) is few in
    let second : take written v ≡ take written rest =
    ap (λ (l : List Record). take written l) is ∙ sym (take-append-le written (take max rest) (drop max rest) low) ∙ ap (λ (l : List Record). take written l) (take-append-drop max rest) in
    ap (λ (l : List Record). l ++ take written v) first ∙ ap (λ (l : List Record). take place seen ++ l) second ∙ sym (take_add place written seen)

shared_length : {A : Type 0} (arcs : List (Arc Record A)) → length (shared_records arcs) ≡ length arcs
shared_length [] = refl
shared_length (a ∷ arcs) = omega (arith, shared_length arcs)

pub reached_there : {A : Type 0} (old seen : List Record) (arcs : List (Arc Record A)) (place written max now : ℕ) → IsPrefix old seen → place ≤ length old → shared_records arcs ≡ take max (drop place seen) → written ≤ length arcs → now ≡ place + written → take place old ++ take written (shared_records arcs) ≡ take now seen
reached_there old seen arcs place written max now front within is few at = reached old seen (shared_records arcs) place written max front within is (omega (arith, few, shared_length arcs)) ∙ ap (λ (n : ℕ). take n seen) (sym at)

-- the place after a fetch is one that was seen
pub still_within : {A : Type 0} (old seen : List Record) (arcs : List (Arc Record A)) (place max now : ℕ) → IsPrefix old seen → place ≤ length old → shared_records arcs ≡ take max (drop place seen) → now ≡ place + length arcs → now ≤ length seen
still_within old seen arcs place max now front low is at =
    let rest = drop place seen in
    omega (arith, at, low, shared_length arcs, ap length is, length-take max rest, length-drop place seen, ap length front.1, length-append old front.0)

-- it was written, or nothing was
pub beside_kept : {D : Type 0} (seen : D → List ℕ) (old new : Segment D) (log : List Record) (r : Result (Unit {0}) SegmentFault) (e : Written) → is_beside e.body ≡ true
    → OnOk r ((es : List Written) → HasWritten seen old es → HasWritten seen new (es ++ e ∷ []))
    → IfErr r (λ fault. (fault ≡ Disk) ⊎ ((es : List Written) → HasWritten seen old es → HasWritten seen new es))
    → (r ≡ Err Disk → ⊥) → HasLogged seen old log → HasLogged seen new log
beside_kept seen old new log (Ok u) e beside wrote other never has = one_beside seen old new log e has (wrote has.es has.written) beside
beside_kept seen old new log (Err fault) e beside wrote (inl is) never has = absurd (never (ap Err is))
beside_kept seen old new log (Err fault) e beside wrote (inr same) never has = record { es = has.es; written = same has.es has.written; told = has.told }

-- ---- the place from which a log is read

pub restart_within : (known : List Record) (start : ℕ) → restart_place start known ≤ length known
restart_within known start =
    let n = place_from start known in
    omega (arith, within (is_in_progress (take n known)) (take n known), length-take n known)
