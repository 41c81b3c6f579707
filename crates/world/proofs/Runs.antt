-- What is true of the machine between two events is the headline; and a run that goes on is a run.
use Rattle.std.proofs.Common.{◌≡◌, ◌+◌, ◌<◌, length, ℕ, true, false, List, [], ◌∷◌, ◌++◌, map, take, refl, sym, ap, subst, ◌∙◌}
use Rattle.std.specs.Prelude.{◌↔◌, Some, slice_get, slice_index_or}
use Rattle.std.proofs.lemmas.List.{take_more}
use Rattle.std.proofs.lemmas.Option.{slice_get_read}
use Rattle.std.specs.List.{AllByRecursion}
use Rattle.wal.specs.declared.record.TheConstants.{FIRST_POSITION}
use Rattle.wal.specs.declared.record.Record.{Record}
use Rattle.wal.specs.Log.{IsWellFormedLog, end_of}
use Rattle.publication.specs.Publications.{PublicationSet}
use Rattle.publication.specs.Selection.{relation}
use Rattle.pgoutput.specs.Stream.{IsStream}
use Rattle.walsender.specs.Published.{published_transactions}
use Rattle.walsender.specs.Sending.{SenderState}
use Rattle.world.specs.declared.printed.answer.Answer.{Answer}
use Rattle.schedule.specs.declared.event.Event.{Event}
use Rattle.schedule.specs.declared.fault.WorldFault.{WorldFault}
use Rattle.schedule.specs.declared.fault.WorldFault.TheVariants as worlds
use Rattle.world.specs.declared.stepping.start.Start.{Start}
use Rattle.world.specs.declared.stepping.start.StartStage.{StartStage}
use Rattle.world.specs.declared.stepping.start.StartStage.TheVariants as stages
use Rattle.world.specs.declared.machine.Machine.{Machine}
use Rattle.world.specs.State.{WorldState}
use Rattle.world.specs.Acting.{read_by}
use Rattle.world.specs.Law.{IsExact, Headline}
use Rattle.world.specs.Steps.{IsStep, is_bad, is_read, takes_memory, IsRun, StopsAt}
use Rattle.walsender.specs.Serving.{IsStreaming}
use Rattle.world.specs.Starts.{IsServed, IsServedBy, state_with, start_state}
use Rattle.world.specs.Machine.{IsMachine, world_of}
use Rattle.world.proofs.Positions.{read_by_place}

-- what was read up to a place is what was read by a position
read_so_far : (log : List Record) (count : ℕ) (produced : List ℕ) (s : SenderState) → IsWellFormedLog log → IsStreaming log count produced s → take count log ≡ read_by s.position log
read_so_far log count produced s good t = sym (read_by_place log count good) ∙ ap (λ (p : ℕ). read_by p log) (sym t.at)

exact_by : {L : Type 0} (log : List Record) (connection produced : List ℕ) (w : StartStage L) → IsWellFormedLog log → IsServedBy log produced w → IsExact log (state_with connection produced w)
exact_by log connection produced (stages.Open w) good served =
    let s = w.sender in
    let t = served.streaming in
    let read_is = read_so_far log served.count produced s good t in
    let P : List Record → Type 0 = λ l. IsStream (relation s.selection) (produced ++ s.held) (published_transactions s.selection l s.start) s.position in
    let stream = subst P read_is t.stream in
    record {
      reads = t.at ∙ ap (end_of FIRST_POSITION) read_is;
      begins = record { rest = s.held; whole = stream };
      whole = λ _. stream;
    }
exact_by log connection produced (stages.Cut e) good was =
    let s = was.before in
    let t = was.streaming in
    let read_is = read_so_far log was.count produced s good t in
    let P : List Record → Type 0 = λ l. IsStream (relation s.selection) (produced ++ s.held) (published_transactions s.selection l s.start) s.position in
    let stream = subst P read_is t.stream in
    let Q : PublicationSet → ℕ → ℕ → Type 0 = λ selection start position. IsStream (relation selection) (produced ++ s.held) (published_transactions selection (read_by position log) start) position in
    record {
      reads = was.position_is ∙ t.at ∙ ap (end_of FIRST_POSITION) (read_is ∙ ap (λ (p : ℕ). read_by p log) (sym was.position_is));
      begins = record { rest = s.held; whole = rw (was.selection_is, was.start_is, was.position_is) stream };
      whole = λ still. let never : false ≡ true = still in cc;
    }

all_exact : {L : Type 0} (log : List Record) (cs : List (Start L)) → IsWellFormedLog log → AllByRecursion (IsServed log) cs → AllByRecursion (IsExact log) (map start_state cs)
all_exact log [] good all = tt
all_exact log (c ∷ cs) good all = (exact_by log c.connection c.produced.items c.stage good all.0, all_exact log cs good all.1)

pub headline : {L : Type 0} (m : Machine L) → IsMachine m → Headline (world_of m)
headline m is = all_exact m.publisher.log m.starts.items is.good is.served

abbrev pub joined : (start mid new : WorldState) (es : List Event) (answers : List Answer) (e : Event) (a : Answer) → IsRun start es answers mid → IsStep mid e a new → IsRun start (es ++ e ∷ []) (answers ++ a ∷ []) new
joined start mid new [] [] e a run step = let P : WorldState → Type 0 = λ w. IsStep w e a new in (new, subst P run step, refl)
joined start mid new [] (b ∷ answers) e a run step = absurd run
joined start mid new (d ∷ es) [] e a run step = absurd run
joined start mid new (d ∷ es) (b ∷ answers) e a run step = (run.0, run.1, joined run.0 mid new es answers e a run.2 step)

pub run_on : (start mid new : WorldState) (es : List Event) (k : ℕ) (answers : List Answer) (e : Event) (a : Answer) → k < length es → e ≡ slice_index_or es k e → IsRun start (take k es) answers mid → IsStep mid e a new
    → IsRun start (take (k + 1) es) (answers ++ a ∷ []) new
run_on start mid new es k answers e a lt here run step =
    let P : List Event → Type 0 = λ l. IsRun start l (answers ++ a ∷ []) new in
    subst P (ap (λ d. take k es ++ d ∷ []) here ∙ sym (take_more es k e lt)) (joined start mid new (take k es) answers e a run step)

pub stops : (start mid : WorldState) (es : List Event) (k : ℕ) (answers : List Answer) (e : Event) (fault : WorldFault) → k < length es → e ≡ slice_index_or es k e → length answers ≡ k → IsRun start (take k es) answers mid
    → (fault ≡ worlds.BadEvent) ↔ (is_bad e mid ≡ true) → (fault ≡ worlds.NoEntry → is_read e ≡ true) → (fault ≡ worlds.Memory → takes_memory e mid ≡ true) → StopsAt start es answers mid fault
stops start mid es k answers e fault lt here count run bad entry memory =
    let Runs : ℕ → Type 0 = λ n. IsRun start (take n es) answers mid in
    let Next : ℕ → Type 0 = λ n. slice_get es n ≡ Some e in
    record {
      runs = subst Runs (sym count) run;
      event = e;
      next = subst Next (sym count) (slice_get_read es (length es) k e refl lt here);
      bad = bad;
      entry = entry;
      memory = memory;
    }
