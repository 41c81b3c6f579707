-- By every run each subscriber whose lines are fair applies each transaction once.
use Rattle.std.proofs.Common.{◌≡◌, ℕ, max, Bool, true, false, cond, List, [], ◌∷◌, ◌++◌, take, drop, Option, Some, None, option_map, refl, sym, ap, subst, ◌∙◌, append_assoc, arith}
use Rattle.std.specs.List.{AllByRecursion}
use Rattle.std.specs.Str.{bytes_eq}
use Rattle.std.proofs.lemmas.List.{take-append-drop}
use Rattle.wal.specs.declared.record.Record.{Record}
use Rattle.wal.specs.declared.record.TheConstants.{FIRST_POSITION}
use Rattle.wal.specs.Log.{IsWellFormedLog, end_of}
use Rattle.wal.proofs.Laws.{all_when}
use Rattle.publication.specs.Publications.{PublicationSet}
use Rattle.txlog.specs.Publishing.{PublisherState, log_end}
use Rattle.schedule.specs.declared.lines.start_options.StartOptions.{StartOptions}
use Rattle.world.specs.declared.printed.answer.Answer.{Answer}
use Rattle.world.specs.declared.printed.answer.Answer.TheVariants as answers
use Rattle.schedule.specs.declared.event.Event.{Event}
use Rattle.schedule.specs.declared.event.Event.TheVariants as events
use Rattle.schedule.specs.declared.event.ConnectionStep.{ConnectionStep}
use Rattle.schedule.specs.declared.event.ConnectionStep.TheVariants as connection_steps
use Rattle.schedule.specs.SessionLines.{Ask, note_ask, step_ask}
use Rattle.slots.specs.State.{SlotsState, slot_of}
use Rattle.slots.specs.Words.{slot_named}
use Rattle.world.specs.declared.stepping.action.Action.{Action}
use Rattle.world.specs.declared.stepping.action.Action.TheVariants as actions
use Rattle.world.specs.Start.{StartState, is_open_for}
use Rattle.configuration.specs.Setting.{Setting}
use Rattle.world.specs.State.{SubscriberState, WorldState, new_world, open_start, subscriber_of, with_open_start}
use Rattle.world.specs.Law.{Headline, IsExact}
use Rattle.world.specs.Slots.{Creates}
use Rattle.world.specs.ConnectionLines.{ActsAt, wanted_of}
use Rattle.world.specs.Steps.{Calls, IsRun, IsStep, IsStepAt}
use Rattle.world.specs.Confirming.{confirmed_at}
use Rattle.world.specs.Once.{AppliesOnce, GainsSince, IsFair, IsFairRun, RunsOnce, applied_by, applied_in, begun_after, begun_through, created_after, created_through, position_in, position_of}
use Rattle.world.proofs.Confirmed.{created_step, not_named}
use Rattle.world.proofs.Inside.{same_inside}
use Rattle.world.proofs.Lookups as look
use Rattle.world.proofs.Feeding.{BeginsIn, IsFed, exact_begins, less_begins}
use Rattle.pgoutput.specs.declared.published.Published.{Published}
use Rattle.pgoutput.specs.Items.{bytes_of_items}
use Rattle.publication.specs.Selection.{relation}
use Rattle.walsender.specs.Published.{published_transactions}
use Rattle.walsender.proofs.Sections.{all_front}
use Rattle.client.specs.Subscriber.{Subscriber}
use Rattle.client.specs.Taking.{ApplierState}
use Rattle.client.specs.Law.{GainedAll}
use Rattle.client.proofs.Laws.{follows_ok}
use Rattle.client.proofs.Reaching.{reached_none}
use Rattle.world.proofs.Orders.{below, in_order, late, late_all, none_below, parted}
use Rattle.world.proofs.Settled.{all_from_zero, items_forward}
use Rattle.world.proofs.OnceSteps.{IsBefore, IsMine, IsNotOn, IsOnce, KeepsStart, LeavesAlone, acts_keep, before_left, once_left, other_step, started_or}
use Rattle.world.proofs.OwnSteps.{begun_by, mine_at, own_before, own_step}

-- ---- A session's line changes nothing of it.

-- nor does what the log gives back
once_written : (log : List Record) (c s : List ℕ) (wanted : StartOptions) (from : ℕ) (begun : Option (ℕ × List Published)) (old new : WorldState) (publisher : PublisherState) → IsOnce log c s wanted from begun old → new ≡ record old { publisher = publisher } → IsOnce log c s wanted from begun new
once_written log c s wanted from begun old new publisher once is =
    let P : WorldState → Type 0 = λ w. IsOnce log c s wanted from begun w in
    subst P (sym is) (record { confirmed = once.confirmed; slot = once.slot; reaches = once.reaches; within = once.within; others = once.others; alone = once.alone; mine = once.mine })

before_written : (c s : List ℕ) (old new : WorldState) (publisher : PublisherState) → IsBefore c s old → new ≡ record old { publisher = publisher } → IsBefore c s new
before_written c s old new publisher before is =
    let P : WorldState → Type 0 = λ w. IsBefore c s w in
    subst P (sym is) (record { slot = before.slot; others = before.others; started = before.started; known = before.known })

once_called : (log : List Record) (c s : List ℕ) (wanted : StartOptions) (from : ℕ) (begun : Option (ℕ × List Published)) (ask : Option Ask) (old : WorldState) (a : Answer) (new : WorldState) → IsOnce log c s wanted from begun old → Calls ask old a new → IsOnce log c s wanted from begun new
once_called log c s wanted from begun ask old a new once calls =
    let P : WorldState → Type 0 = λ w. IsOnce log c s wanted from begun w in
    subst P (sym calls.is)
    (record { confirmed = once.confirmed; slot = once.slot; reaches = once.reaches; within = once.within; others = once.others; alone = once.alone; mine = once.mine })

before_called : (c s : List ℕ) (ask : Option Ask) (old : WorldState) (a : Answer) (new : WorldState) → IsBefore c s old → Calls ask old a new → IsBefore c s new
before_called c s ask old a new before calls =
    let P : WorldState → Type 0 = λ w. IsBefore c s w in
    subst P (sym calls.is) (record { slot = before.slot; others = before.others; started = before.started; known = before.known })

-- ---- A slot is created.

-- of a world only the slots change
abbrev OnlySlots : WorldState → WorldState → Type 0
OnlySlots old new = (slots : SlotsState) × (new ≡ record old { slots = slots })

created_only : (name : List ℕ) (old : WorldState) (a : Answer) (new : WorldState) → Creates name old a new → OnlySlots old new
created_only name old answers.Done new step = (_, step.1)
created_only name old (answers.Slot fault) new step = (_, step.1)
created_only name old (answers.Session fault) new step = absurd step
created_only name old (answers.Publication fault) new step = absurd step
created_only name old answers.NoReader new step = absurd step
created_only name old answers.Removed new step = absurd step
created_only name old (answers.Front place) new step = absurd step
created_only name old (answers.Sender fault) new step = absurd step
created_only name old (answers.Subscriber fault) new step = absurd step

slots_left : (c s : List ℕ) (old new : WorldState) → OnlySlots old new → AllByRecursion (IsNotOn c s) old.subscribers → confirmed_at s new.slots ≡ confirmed_at s old.slots → LeavesAlone c s old new
slots_left c s old new only others confirmed =
    let P : WorldState → Type 0 = λ w. confirmed_at s w.slots ≡ confirmed_at s old.slots → LeavesAlone c s old w in
    (subst P (sym only.1) (λ same. record { publications = refl; confirmed = same; others = others; alone = λ alone. alone; started = refl; known = refl })) confirmed

-- ---- What a start produces stays.

begins_with : (log : List Record) (d : List ℕ) (starts : List StartState) (old new : StartState) → open_start d starts ≡ Some old → KeepsStart old new → AllByRecursion (BeginsIn log) (with_open_start d new starts) → AllByRecursion (BeginsIn log) starts
begins_with log d [] old new there kept all = tt
begins_with log d (t ∷ starts) old new there kept all = by_test (is_open_for d t) there all (λ there all. begins_with log d starts old new there kept all)
  where
    by_test : (b : Bool) → cond b (Some t) (open_start d starts) ≡ Some old → AllByRecursion (BeginsIn log) (cond b (new ∷ starts) (t ∷ with_open_start d new starts))
        → (open_start d starts ≡ Some old → AllByRecursion (BeginsIn log) (with_open_start d new starts) → AllByRecursion (BeginsIn log) starts) → AllByRecursion (BeginsIn log) (t ∷ starts)
    by_test true there all later = (subst (BeginsIn log) (sym (same_inside t old there)) (less_begins log old new kept.more kept.selection kept.start kept.produced all.0), all.1)
    by_test false there all later = (all.0, later there all.1)

same_starts : (log : List Record) (old new : WorldState) → new.starts ≡ old.starts → AllByRecursion (BeginsIn log) new.starts → AllByRecursion (BeginsIn log) old.starts
same_starts log old new same all = subst (AllByRecursion (BeginsIn log)) same all

acts_begins : (log : List Record) (d : List ℕ) (action : Action) (old : WorldState) (a : Answer) (new : WorldState) → ActsAt d action old a new → AllByRecursion (BeginsIn log) new.starts → AllByRecursion (BeginsIn log) old.starts
acts_begins log d action old a new step all =
    begins_with log d old.starts step.before step.after step.there (acts_keep old.publisher.log action step.before step.after a step.acts)
    (subst (AllByRecursion (BeginsIn log)) (ap (λ (w : WorldState). w.starts) step.is) all)

begins_before_line : (log : List Record) (d : List ℕ) (step : ConnectionStep) (old : WorldState) (a : Answer) (new : WorldState) → IsStepAt d step old a new → AllByRecursion (BeginsIn log) new.starts → AllByRecursion (BeginsIn log) old.starts
begins_before_line log d (connection_steps.Start slot position options) old a new step all =
    let P : Unit {0} → WorldState → Type 0 = λ _ w. AllByRecursion (BeginsIn log) w.starts → AllByRecursion (BeginsIn log) old.starts in
    (started_or P tt tt d (slot_named slot) position options old a new (λ all. all) (λ _ all. all_front (BeginsIn log) old.starts _ all) step.1) all
begins_before_line log d (connection_steps.Read max clock) old a new step all = acts_begins log d (actions.Read max clock) old a new step all
begins_before_line log d (connection_steps.Keepalive clock) old a new step all = acts_begins log d (actions.Keepalive clock) old a new step all
begins_before_line log d (connection_steps.Drain n) old a new step all = acts_begins log d (actions.Drain n) old a new step all
begins_before_line log d (connection_steps.Deliver n) old a new step all = same_starts log old new (ap (λ (w : WorldState). w.starts) step.is) all
begins_before_line log d (connection_steps.Status clock) old a new step all = same_starts log old new (ap (λ (w : WorldState). w.starts) step.is) all
begins_before_line log d (connection_steps.Flushed number) old a new step all = same_starts log old new (ap (λ (w : WorldState). w.starts) step.is) all
begins_before_line log d connection_steps.Ack old a new step all = same_starts log old new (ap (λ (w : WorldState). w.starts) step.is) all
begins_before_line log d connection_steps.Cut old a new step all = acts_begins log d actions.Cut old a new step all

begins_before_step : (log : List Record) (old : WorldState) (e : Event) (a : Answer) (new : WorldState) → IsStep old e a new → AllByRecursion (BeginsIn log) new.starts → AllByRecursion (BeginsIn log) old.starts
begins_before_step log old (events.Session t step) a new is all = same_starts log old new (ap (λ (w : WorldState). w.starts) is.is) all
begins_before_step log old (events.Note prefix content) a new is all = same_starts log old new (ap (λ (w : WorldState). w.starts) is.is) all
begins_before_step log old (events.Connection d step) a new is all = begins_before_line log d step old a new is all
begins_before_step log old (events.Slot name) a new is all = same_starts log old new (ap (λ (w : WorldState). w.starts) (created_only name old a new is).1) all
begins_before_step log old events.Forget a new is all = same_starts log old new (ap (λ (w : WorldState). w.starts) is.is) all
begins_before_step log old events.Front a new is all = same_starts log old new (ap (λ (w : WorldState). w.starts) is.1) all

-- before a run the starts that are there have produced no more than at its end
begins_before : (log : List Record) (old : WorldState) (es : List Event) (given : List Answer) (new : WorldState) → IsRun old es given new → AllByRecursion (BeginsIn log) new.starts → AllByRecursion (BeginsIn log) old.starts
begins_before log old [] [] new run all = subst (λ (w : WorldState). AllByRecursion (BeginsIn log) w.starts) run all
begins_before log old [] (a ∷ given) new run all = absurd run
begins_before log old (e ∷ es) [] new run all = absurd run
begins_before log old (e ∷ es) (a ∷ given) new run all = begins_before_step log old e a run.0 run.1 (begins_before log run.0 es given new run.2 all)

-- ---- Each event.

abbrev Stands : List Record → List ℕ → List ℕ → StartOptions → Option ℕ → Option (ℕ × List Published) → WorldState → Type 0
Stands log c s wanted None begun w = IsBefore c s w
Stands log c s wanted (Some from) begun w = IsOnce log c s wanted from begun w

created_stands : (log : List Record) (c s : List ℕ) (wanted : StartOptions) (known : Option ℕ) (begun : Option (ℕ × List Published)) (name : List ℕ) (old : WorldState) (a : Answer) (new : WorldState) → Stands log c s wanted known begun old → Creates name old a new → Stands log c s wanted (created_after s old (events.Slot name) a known) begun new
created_stands log c s wanted known begun name old answers.Done new stands step = by_name (bytes_eq name s) refl known stands
  where
    only : OnlySlots old new
    only = created_only name old answers.Done new step

    told : confirmed_at s new.slots ≡ cond (bytes_eq name s) (Some (log_end old.publisher)) (confirmed_at s old.slots)
    told = created_step s name old new answers.Done step

    by_name : (b : Bool) → bytes_eq name s ≡ b → (known : Option ℕ) → Stands log c s wanted known begun old → Stands log c s wanted (cond b (Some (log_end old.publisher)) known) begun new
    by_name false is None before = before_left c s old new before (slots_left c s old new only before.others (told ∙ ap (λ (b : Bool). cond b (Some (log_end old.publisher)) (confirmed_at s old.slots)) is))
    by_name false is (Some from) once = once_left log c s wanted from begun old new once (slots_left c s old new only once.others (told ∙ ap (λ (b : Bool). cond b (Some (log_end old.publisher)) (confirmed_at s old.slots)) is))
    by_name true is (Some from) once =
        let none : slot_of s old.slots.slots ≡ None = ap (λ (n : List ℕ). slot_of n old.slots.slots) (sym (look.same_name name s is)) ∙ not_named name old.slots step.0 in
        let never : Option.None ≡ Option.Some once.confirmed = ap (option_map (λ t. t.confirmed)) (sym none) ∙ once.slot in
        absurd cc
    by_name true is None before =
        let now : confirmed_at s new.slots ≡ Some (log_end old.publisher) = told ∙ ap (λ (b : Bool). cond b (Some (log_end old.publisher)) (confirmed_at s old.slots)) is in
        let P : WorldState → Type 0 = λ w. confirmed_at s w.slots ≡ Some (log_end old.publisher) → IsOnce log c s wanted (log_end old.publisher) begun w in
        (subst P (sym only.1) (λ slot. record {
          confirmed = log_end old.publisher;
          slot = slot;
          reaches = omega arith;
          within = omega arith;
          others = before.others;
          alone = look.none_alone c old.starts before.started;
          mine = rw (before.started, before.known) tt;
        })) now
created_stands log c s wanted None begun name old (answers.Slot fault) new stands step = before_left c s old new stands (slots_left c s old new (created_only name old (answers.Slot fault) new step) stands.others (created_step s name old new (answers.Slot fault) step))
created_stands log c s wanted (Some from) begun name old (answers.Slot fault) new stands step = once_left log c s wanted from begun old new stands (slots_left c s old new (created_only name old (answers.Slot fault) new step) stands.others (created_step s name old new (answers.Slot fault) step))
created_stands log c s wanted known begun name old (answers.Session fault) new stands step = absurd step
created_stands log c s wanted known begun name old (answers.Publication fault) new stands step = absurd step
created_stands log c s wanted known begun name old answers.NoReader new stands step = absurd step
created_stands log c s wanted known begun name old answers.Removed new stands step = absurd step
created_stands log c s wanted known begun name old (answers.Front place) new stands step = absurd step
created_stands log c s wanted known begun name old (answers.Sender fault) new stands step = absurd step
created_stands log c s wanted known begun name old (answers.Subscriber fault) new stands step = absurd step

-- another's line doesn't begin a start of c
begun_other : (c d : List ℕ) (w : WorldState) (step : ConnectionStep) (a : Answer) (begun : Option (ℕ × List Published)) → bytes_eq d c ≡ false → begun_after c w (events.Connection d step) a begun ≡ begun
begun_other c d w (connection_steps.Start slot position options) answers.Done begun other = rw other refl
begun_other c d w (connection_steps.Start slot position options) (answers.Session fault) begun other = refl
begun_other c d w (connection_steps.Start slot position options) (answers.Slot fault) begun other = refl
begun_other c d w (connection_steps.Start slot position options) (answers.Publication fault) begun other = refl
begun_other c d w (connection_steps.Start slot position options) answers.NoReader begun other = refl
begun_other c d w (connection_steps.Start slot position options) answers.Removed begun other = refl
begun_other c d w (connection_steps.Start slot position options) (answers.Front place) begun other = refl
begun_other c d w (connection_steps.Start slot position options) (answers.Sender fault) begun other = refl
begun_other c d w (connection_steps.Start slot position options) (answers.Subscriber fault) begun other = refl
begun_other c d w (connection_steps.Read max clock) a begun other = refl
begun_other c d w (connection_steps.Keepalive clock) a begun other = refl
begun_other c d w (connection_steps.Drain n) a begun other = refl
begun_other c d w (connection_steps.Deliver n) a begun other = refl
begun_other c d w (connection_steps.Status clock) a begun other = refl
begun_other c d w (connection_steps.Flushed number) a begun other = refl
begun_other c d w connection_steps.Ack a begun other = refl
begun_other c d w connection_steps.Cut a begun other = refl

begun_own : (c : List ℕ) (w : WorldState) (step : ConnectionStep) (a : Answer) (begun : Option (ℕ × List Published)) → begun_after c w (events.Connection c step) a begun ≡ begun_by c step w a begun
begun_own c w (connection_steps.Start slot position options) answers.Done begun = rw (look.named_so c c refl) refl
begun_own c w (connection_steps.Start slot position options) (answers.Session fault) begun = refl
begun_own c w (connection_steps.Start slot position options) (answers.Slot fault) begun = refl
begun_own c w (connection_steps.Start slot position options) (answers.Publication fault) begun = refl
begun_own c w (connection_steps.Start slot position options) answers.NoReader begun = refl
begun_own c w (connection_steps.Start slot position options) answers.Removed begun = refl
begun_own c w (connection_steps.Start slot position options) (answers.Front place) begun = refl
begun_own c w (connection_steps.Start slot position options) (answers.Sender fault) begun = refl
begun_own c w (connection_steps.Start slot position options) (answers.Subscriber fault) begun = refl
begun_own c w (connection_steps.Read max clock) a begun = refl
begun_own c w (connection_steps.Keepalive clock) a begun = refl
begun_own c w (connection_steps.Drain n) a begun = refl
begun_own c w (connection_steps.Deliver n) a begun = refl
begun_own c w (connection_steps.Status clock) a begun = refl
begun_own c w (connection_steps.Flushed number) a begun = refl
begun_own c w connection_steps.Ack a begun = refl
begun_own c w connection_steps.Cut a begun = refl

connection_stands : (log : List Record) (c s : List ℕ) (wanted : StartOptions) (known : Option ℕ) (begun : Option (ℕ × List Published)) (d : List ℕ) (step : ConnectionStep) (old : WorldState) (a : Answer) (new : WorldState) → IsWellFormedLog log → AllByRecursion (BeginsIn log) old.starts
    → Stands log c s wanted known begun old → IsFair c s wanted old (events.Connection d step) → IsStep old (events.Connection d step) a new → Stands log c s wanted known (begun_after c old (events.Connection d step) a begun) new
connection_stands log c s wanted known begun d step old a new good begins stands fair is = by_name (bytes_eq d c) refl known stands
  where
    by_name : (b : Bool) → bytes_eq d c ≡ b → (known : Option ℕ) → Stands log c s wanted known begun old → Stands log c s wanted known (begun_after c old (events.Connection d step) a begun) new
    by_name false other None before = before_left c s old new before (other_step c s wanted d step old a new other before.others fair is)
    by_name false other (Some from) once =
        let P : Option (ℕ × List Published) → Type 0 = λ b. IsOnce log c s wanted from b new in
        subst P (sym (begun_other c d old step a begun other)) (once_left log c s wanted from begun old new once (other_step c s wanted d step old a new other once.others fair is))
    by_name true own None before =
        let P : List ℕ → Type 0 = λ n. IsFair c s wanted old (events.Connection n step) → IsStep old (events.Connection n step) a new → IsBefore c s new in
        (subst P (sym (look.same_name d c own)) (λ fair is. own_before c s wanted step old a new before fair is)) fair is
    by_name true own (Some from) once =
        let Q : Option (ℕ × List Published) → Type 0 = λ b. IsOnce log c s wanted from b new in
        let P : List ℕ → Type 0 = λ n. IsFair c s wanted old (events.Connection n step) → IsStep old (events.Connection n step) a new → IsOnce log c s wanted from (begun_after c old (events.Connection n step) a begun) new in
        (subst P (sym (look.same_name d c own)) (λ fair is. subst Q (sym (begun_own c old step a begun)) (own_step log c s wanted from begun step old a new good begins once fair is))) fair is

stands_on : (log : List Record) (c s : List ℕ) (wanted : StartOptions) (known : Option ℕ) (begun : Option (ℕ × List Published)) (old : WorldState) (e : Event) (a : Answer) (new : WorldState) → IsWellFormedLog log → AllByRecursion (BeginsIn log) old.starts
    → Stands log c s wanted known begun old → IsFair c s wanted old e → IsStep old e a new → Stands log c s wanted (created_after s old e a known) (begun_after c old e a begun) new
stands_on log c s wanted None begun old (events.Session t step) a new good begins stands fair is = before_called c s (step_ask t step old.publisher old.transactions) old a new stands is
stands_on log c s wanted (Some from) begun old (events.Session t step) a new good begins stands fair is = once_called log c s wanted from begun (step_ask t step old.publisher old.transactions) old a new stands is
stands_on log c s wanted None begun old (events.Note prefix content) a new good begins stands fair is = before_called c s (Option.Some (note_ask prefix content old.publisher old.transactions)) old a new stands is
stands_on log c s wanted (Some from) begun old (events.Note prefix content) a new good begins stands fair is =
    once_called log c s wanted from begun (Option.Some (note_ask prefix content old.publisher old.transactions)) old a new stands is
stands_on log c s wanted known begun old (events.Connection d step) a new good begins stands fair is = connection_stands log c s wanted known begun d step old a new good begins stands fair is
stands_on log c s wanted known begun old (events.Slot name) a new good begins stands fair is = created_stands log c s wanted known begun name old a new stands is
stands_on log c s wanted None begun old events.Forget a new good begins stands fair is = before_written c s old new _ stands is.is
stands_on log c s wanted (Some from) begun old events.Forget a new good begins stands fair is = once_written log c s wanted from begun old new _ stands is.is
stands_on log c s wanted known begun old events.Front a new good begins stands fair is = subst (Stands log c s wanted known begun) (sym is.1) stands

-- ---- A run.

stands_through : (log : List Record) (c s : List ℕ) (wanted : StartOptions) (known : Option ℕ) (begun : Option (ℕ × List Published)) (old : WorldState) (es : List Event) (given : List Answer) (new : WorldState) (run : IsRun old es given new) → IsWellFormedLog log
    → AllByRecursion (BeginsIn log) new.starts → Stands log c s wanted known begun old → IsFairRun c s wanted old es given new run → Stands log c s wanted (created_through s old es given new run known) (begun_through c old es given new run begun) new
stands_through log c s wanted known begun old [] [] new run good begins stands fair = subst (Stands log c s wanted known begun) (sym run) stands
stands_through log c s wanted known begun old [] (a ∷ given) new run good begins stands fair = absurd run
stands_through log c s wanted known begun old (e ∷ es) [] new run good begins stands fair = absurd run
stands_through log c s wanted known begun old (e ∷ es) (a ∷ given) new run good begins stands fair =
    let later = begins_before log run.0 es given new run.2 begins in
    let first = stands_on log c s wanted known begun old e a run.0 good (begins_before_step log old e a run.0 run.1 later) stands fair.0 run.1 in
    stands_through log c s wanted (created_after s old e a known) (begun_after c old e a begun) run.0 es given new run.2 good begins first fair.1

stands_at_first : (log : List Record) (c s : List ℕ) (wanted : StartOptions) (setting : Setting) → Stands log c s wanted None None (new_world setting)
stands_at_first log c s wanted setting = record { slot = refl; others = tt; started = refl; known = refl }

-- ---- What it says.

-- what was delivered since a start
gained_since : (log : List Record) (from : ℕ) (selection : PublicationSet) (s : List ℕ) (begun : Option (ℕ × List Published)) (l : StartState) (sub : SubscriberState) → IsWellFormedLog log → IsExact log l → l.is_open ≡ true → IsFed log from selection s begun l sub → sub.applier.fault ≡ None
    → (stood : ℕ × List Published) × (begun ≡ Some stood) × GainsSince stood l sub
gained_since log from selection s begun l sub good exact opened fed sound =
    let stream = exact.whole opened in
    let base = fed.base in
    let taken = fed.taken sound in
    let bytes = take sub.delivered l.produced in
    let fresh : ApplierState = record { subscriber = base; unread = []; fault = None } in
    let text : bytes ++ (drop sub.delivered l.produced ++ l.held) ≡ bytes_of_items (relation l.selection) [] stream.items =
    sym (append_assoc bytes (drop sub.delivered l.produced) l.held) ∙ ap (λ x. x ++ l.held) (take-append-drop sub.delivered l.produced) ∙ stream.spells in
    let forward = items_forward l.selection log l.start l.position stream.items good stream.sends in
    let ends = follows_ok fresh sub.applier bytes taken.reached taken.waits taken.sound (relation l.selection) base [] (drop sub.delivered l.produced ++ l.held) stream.items fed.rests (record { reached = reached_none base []; waits = refl; sound = refl }) stream.fits forward text in
    let Gains : Subscriber → Type 0 = λ b. GainedAll (relation l.selection) b bytes stream.items sub.applier.subscriber in
    ((base.position, base.applied), fed.stood, record { items = stream.items; encodes = stream.spells; gains = subst Gains fed.rests ends.1 })

said : (c s : List ℕ) (wanted : StartOptions) (from : ℕ) (begun : Option (ℕ × List Published)) (w : WorldState) → IsWellFormedLog w.publisher.log → Headline w → IsOnce w.publisher.log c s wanted from begun w → AppliesOnce c s wanted from begun w
said c s wanted from begun w good headline once = record {
  later = late (position_of c w) (published_there);
  begins = parted (position_of c w) FIRST_POSITION (end_of FIRST_POSITION w.publisher.log) published_there (in_order (wanted_of wanted w.publications) from FIRST_POSITION [] w.publisher.log good.follows good.sizes) ∙ ap (λ l. l ++ late (position_of c w) published_there) (sym applied);
  all = late_all (position_of c w) published_there;
  confirmed = λ n is. let same = same_inside once.confirmed n (sym once.slot ∙ is) in omega (arith, once.within, same);
  since = λ l sub started known sound. gained_since w.publisher.log from (wanted_of wanted w.publications) s begun l sub good (look.open_of_all (IsExact w.publisher.log) c w.starts l headline started) (look.start_open c w.starts l started) (mine_at w.publisher.log c s wanted from begun w (Some l) (Some sub) once started known).1 sound;
} where
  published_there : List Published
  published_there = published_transactions (wanted_of wanted w.publications) w.publisher.log from

  applied : applied_by c w ≡ below (position_of c w) published_there
  applied = by_known (subscriber_of c w.subscribers) (open_start c w.starts) once.mine
    where
      by_known : (p : Option SubscriberState) (o : Option StartState) → IsMine w.publisher.log from (wanted_of wanted w.publications) s begun o p → applied_in p ≡ below (position_in p) published_there
      by_known (Some sub) o mine = mine.0.applied
      by_known None o mine = sym (none_below 0 published_there (all_from_zero published_there))

pub runs_once : (setting : Setting) (es : List Event) (given : List Answer) (w : WorldState) → IsWellFormedLog w.publisher.log → Headline w → RunsOnce (new_world setting) es given w
runs_once setting es given w good headline run c s wanted from fair created =
    let start = new_world setting in
    let log = w.publisher.log in
    let begun = begun_through c start es given w run None in
    let begins = all_when (IsExact log) (BeginsIn log) (exact_begins log) w.starts headline in
    let Holds : Option ℕ → Type 0 = λ o. Stands log c s wanted o begun w in
    said c s wanted from begun w good headline (subst Holds created (stands_through log c s wanted None None start es given w run good begins (stands_at_first log c s wanted setting) fair))
