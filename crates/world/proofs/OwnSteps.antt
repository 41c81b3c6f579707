-- What the lines of a subscriber's own connection leave of it.
use Rattle.std.proofs.Common.{◌≡◌, ◌≤◌, ℕ, ℤ, max, min, Bool, true, false, cond, List, [], ◌∷◌, ◌++◌, Option, Some, None, option_map, refl, sym, ap, subst, ◌∙◌, arith}
use Rattle.std.specs.Prelude.{IsNone}
use Rattle.std.specs.List.{AllByRecursion}
use Rattle.wal.specs.declared.record.Record.{Record}
use Rattle.wal.specs.Log.{IsWellFormedLog}
use Rattle.wal.specs.Restart.{restart}
use Rattle.publication.specs.Publications.{PublicationSet}
use Rattle.copyboth.specs.declared.status.Status.{Status}
use Rattle.pgoutput.specs.declared.published.Published.{Published}
use Rattle.pgoutput.proofs.Lists.{all_of_both}
use Rattle.schedule.specs.declared.lines.start_options.StartOptions.{StartOptions}
use Rattle.world.specs.declared.printed.answer.Answer.{Answer}
use Rattle.schedule.specs.declared.event.ConnectionStep.{ConnectionStep}
use Rattle.schedule.specs.declared.event.ConnectionStep.TheVariants as steps
use Rattle.slots.specs.State.{NamedSlot, SlotsState, confirmed_of, slot_of}
use Rattle.slots.specs.Words.{slot_named, slots_after_confirming, slots_after_letting_go, slots_after_taking, start_from}
use Rattle.world.specs.Start.{StartState}
use Rattle.world.specs.Acting.{new_start}
use Rattle.world.specs.declared.stepping.action.Action.{Action}
use Rattle.world.specs.declared.stepping.action.Action.TheVariants as actions
use Rattle.world.specs.State.{SubscriberState, WorldState, if_known_again, if_there, new_subscriber, open_start, slot_of_connection, subscriber_connected_again, subscriber_of, with_open_start, with_subscriber}
use Rattle.world.specs.ConnectionLines.{wanted_of, ActsAt, start_refusal, world_after_start, subscribers_after}
use Rattle.world.specs.Delivering.{Delivers}
use Rattle.world.specs.Slots.{Acknowledges, PutsBack, status_with}
use Rattle.world.specs.Steps.{IsStepAt}
use Rattle.world.specs.Confirming.{confirmed_at, raised_by, told_if}
use Rattle.world.specs.Once.{IsFairAt, applied_by, applied_in, position_in, position_of}
use Rattle.world.proofs.Confirmed.{confirmed_once, let_go_same, taken_same}
use Rattle.world.proofs.Machines.{is_closed, is_cut, kept_slots, kept_subscribers, stays_open}
use Rattle.world.proofs.Inside.{same_inside}
use Rattle.world.proofs.Lookups as look
use Rattle.world.proofs.Lookups.{IsAlone, named_so, other_name}
use Rattle.world.proofs.Feeding.{BeginsIn, IsAtRest, IsFed, delivered, fed_begun, fed_further, fed_produced}
use Rattle.world.proofs.OnceSteps.{IsBefore, IsMine, IsNotOn, IsOnce, acts_keep, own_subscriber, started_or, where_done}
use Rattle.world.proofs.Settled.{IsSettled, settled_new}

-- where its start and its subscriber are known, what is true of them
pub mine_at : (log : List Record) (c s : List ℕ) (wanted : StartOptions) (from : ℕ) (begun : Option (ℕ × List Published)) (w : WorldState) (o : Option StartState) (p : Option SubscriberState) → IsOnce log c s wanted from begun w → open_start c w.starts ≡ o → subscriber_of c w.subscribers ≡ p
    → IsMine log from (wanted_of wanted w.publications) s begun o p
mine_at log c s wanted from begun w o p once started known =
    let First : Option StartState → Type 0 = λ x. IsMine log from (wanted_of wanted w.publications) s begun x (subscriber_of c w.subscribers) in
    let Second : Option SubscriberState → Type 0 = λ x. IsMine log from (wanted_of wanted w.publications) s begun o x in
    subst Second known (subst First started once.mine)

mine_so : (log : List Record) (c s : List ℕ) (wanted : StartOptions) (from : ℕ) (begun : Option (ℕ × List Published)) (w : WorldState) (o : Option StartState) (p : Option SubscriberState) → IsMine log from (wanted_of wanted w.publications) s begun o p → open_start c w.starts ≡ o → subscriber_of c w.subscribers ≡ p
    → IsMine log from (wanted_of wanted w.publications) s begun (open_start c w.starts) (subscriber_of c w.subscribers)
mine_so log c s wanted from begun w o p mine started known =
    let First : Option StartState → Type 0 = λ x. IsMine log from (wanted_of wanted w.publications) s begun x (subscriber_of c w.subscribers) in
    let Second : Option SubscriberState → Type 0 = λ x. IsMine log from (wanted_of wanted w.publications) s begun o x in
    subst First (sym started) (subst Second (sym known) mine)

-- ---- What it asks of its sender.

mine_produced : (log : List Record) (from : ℕ) (selection : PublicationSet) (s : List ℕ) (begun : Option (ℕ × List Published)) (before after : StartState) (more : List ℕ) (p : Option SubscriberState) → after.start ≡ before.start → after.selection ≡ before.selection → after.produced ≡ before.produced ++ more
    → IsMine log from selection s begun (Some before) p → IsMine log from selection s begun (Some after) p
mine_produced log from selection s begun before after more None start_is selection_is produced_is mine = mine
mine_produced log from selection s begun before after more (Some sub) start_is selection_is produced_is mine = (mine.0, fed_produced log from selection s begun before after more sub start_is selection_is produced_is mine.1)

own_acts : (log : List Record) (c s : List ℕ) (wanted : StartOptions) (from : ℕ) (begun : Option (ℕ × List Published)) (action : Action) (old : WorldState) (a : Answer) (new : WorldState) → is_cut action ≡ false → IsOnce log c s wanted from begun old → ActsAt c action old a new → IsOnce log c s wanted from begun new
own_acts log c s wanted from begun action old a new goes once step =
    let kept = acts_keep old.publisher.log action step.before step.after a step.acts in
    let opened : step.after.is_open ≡ true = stays_open old.publisher.log action step.before step.after a goes step.acts ∙ look.start_open c old.starts step.before step.there in
    let named : step.after.connection ≡ c = kept.connection ∙ look.start_named c old.starts step.before step.there in
    let found = look.start_found c old.starts step.before step.after step.there (look.open_for c step.after named opened) in
    let mine = mine_at log c s wanted from begun old (Some step.before) (subscriber_of c old.subscribers) once step.there refl in
    let produced = mine_produced log from (wanted_of wanted old.publications) s begun step.before step.after kept.more (subscriber_of c old.subscribers) kept.start kept.selection kept.produced mine in
    let plain : WorldState = record old { starts = with_open_start c step.after old.starts } in
    let is : new ≡ plain =
    step.is ∙ ap (λ (x : SlotsState). record old { slots = x; starts = with_open_start c step.after old.starts; subscribers = subscribers_after c action old.subscribers }) (kept_slots c action old.subscribers old.slots goes)
    ∙ ap (λ (x : List SubscriberState). record old { starts = with_open_start c step.after old.starts; subscribers = x }) (kept_subscribers c action old.subscribers goes) in
    let P : WorldState → Type 0 = λ w. IsOnce log c s wanted from begun w in
    subst P (sym is) (record {
      confirmed = once.confirmed;
      slot = once.slot;
      reaches = once.reaches;
      within = once.within;
      others = once.others;
      alone = look.alone_with c old.starts step.after once.alone;
      mine = mine_so log c s wanted from begun plain (Some step.after) (subscriber_of c old.subscribers) produced found refl;
    })

-- its subscriber reconnects
own_cut : (log : List Record) (c s : List ℕ) (wanted : StartOptions) (from : ℕ) (begun : Option (ℕ × List Published)) (old : WorldState) (a : Answer) (new : WorldState) → IsOnce log c s wanted from begun old → ActsAt c actions.Cut old a new → IsOnce log c s wanted from begun new
own_cut log c s wanted from begun old a new once step =
    let P : WorldState → Type 0 = λ w. IsOnce log c s wanted from begun w in
    subst P (sym step.is) (by_known (subscriber_of c old.subscribers) refl)
  where
    by_known : (p : Option SubscriberState) → subscriber_of c old.subscribers ≡ p → IsOnce log c s wanted from begun (record old {
      slots = slots_after_letting_go (slot_of_connection c old.subscribers) old.slots;
      starts = with_open_start c step.after old.starts;
      subscribers = if_known_again p c old.subscribers;
    })
    by_known None known = absurd (mine_at log c s wanted from begun old (Some step.before) None once step.there known)
    by_known (Some sub) known =
        let mine = mine_at log c s wanted from begun old (Some step.before) (Some sub) once step.there known in
        let named = look.known_by_name c old.subscribers sub known in
        let found = look.with_found c old.subscribers sub (subscriber_connected_again sub) known named in
        let closed = look.not_open_shut c step.after (is_closed old.publisher.log step.before step.after a step.acts) in
        let none = look.alone_closed c old.starts step.after once.alone closed in
        let new : WorldState = record old { slots = slots_after_letting_go (slot_of_connection c old.subscribers) old.slots; starts = with_open_start c step.after old.starts; subscribers = with_subscriber c (subscriber_connected_again sub) old.subscribers } in
        let rested : IsAtRest (subscriber_connected_again sub) = record { applier = refl; slot = refl; delivered = refl; back = refl } in
        let settled : IsSettled log from (wanted_of wanted old.publications) (subscriber_connected_again sub).applier.subscriber = record { within = mine.0.within; applied = mine.0.applied } in
        record {
          confirmed = once.confirmed;
          slot = let_go_same s (slot_of_connection c old.subscribers) old.slots ∙ once.slot;
          reaches = once.reaches;
          within = omega (arith, once.within, ap position_in known, ap position_in found);
          others = own_subscriber c s old.subscribers (subscriber_connected_again sub) once.others named;
          alone = look.alone_with c old.starts step.after once.alone;
          mine = mine_so log c s wanted from begun new None (Some (subscriber_connected_again sub)) (settled, rested) none found;
        }

-- ---- What it is sent, and sends.

own_changes : (log : List Record) (c s : List ℕ) (wanted : StartOptions) (from confirmed : ℕ) (begun : Option (ℕ × List Published)) (slots : SlotsState) (old : WorldState) (start : StartState) (before after : SubscriberState) → IsOnce log c s wanted from begun old → open_start c old.starts ≡ Some start
    → subscriber_of c old.subscribers ≡ Some before → after.connection ≡ before.connection → confirmed_at s slots ≡ Some confirmed → from ≤ confirmed → confirmed ≤ max from after.applier.subscriber.position
    → IsSettled log from (wanted_of wanted old.publications) after.applier.subscriber → IsFed log from (wanted_of wanted old.publications) s begun start after
    → IsOnce log c s wanted from begun (record old { slots = slots; subscribers = with_subscriber c after old.subscribers })
own_changes log c s wanted from confirmed begun slots old start before after once there known same slot reaches within settled fed =
    let named = same ∙ look.known_by_name c old.subscribers before known in
    let found = look.with_found c old.subscribers before after known named in
    let new : WorldState = record old { slots = slots; subscribers = with_subscriber c after old.subscribers } in
    record {
      confirmed = confirmed;
      slot = slot;
      reaches = reaches;
      within = omega (arith, within, ap position_in found);
      others = own_subscriber c s old.subscribers after once.others named;
      alone = once.alone;
      mine = mine_so log c s wanted from begun new (Some start) (Some after) (settled, fed) there found;
    }

own_delivered : (log : List Record) (c s : List ℕ) (wanted : StartOptions) (from n : ℕ) (begun : Option (ℕ × List Published)) (old : WorldState) (a : Answer) (new : WorldState) → IsWellFormedLog log → AllByRecursion (BeginsIn log) old.starts → IsOnce log c s wanted from begun old → Delivers c n old a new → IsOnce log c s wanted from begun new
own_delivered log c s wanted from n begun old a new good begins once step =
    let mine = mine_at log c s wanted from begun old (Some step.start) (Some step.before) once step.there step.known in
    let here = look.open_of_all (BeginsIn log) c old.starts step.start begins step.there in
    let d = delivered log from (wanted_of wanted old.publications) s begun step.start step.before step.after n a good here mine.0 mine.1 step.gets in
    let P : WorldState → Type 0 = λ w. IsOnce log c s wanted from begun w in
    subst P (sym step.is)
    (own_changes log c s wanted from once.confirmed begun old.slots old step.start step.before step.after once step.there step.known (ap (λ (x : SubscriberState). x.connection) step.gets.is) once.slot once.reaches
    (omega (arith, once.within, ap position_in step.known, d.raised)) d.settled d.fed)

own_status : (log : List Record) (c s : List ℕ) (wanted : StartOptions) (from : ℕ) (begun : Option (ℕ × List Published)) (flushed : Option ℕ) (clock : ℤ) (old : WorldState) (a : Answer) (new : WorldState) → IsOnce log c s wanted from begun old → PutsBack c (status_with flushed clock) old a new
    → ((n : ℕ) → flushed ≡ Some n → n ≤ position_of c old) → IsOnce log c s wanted from begun new
own_status log c s wanted from begun flushed clock old a new once step fair =
    let mine = mine_at log c s wanted from begun old (Some step.start) (Some step.before) once step.there step.known in
    let position = step.before.applier.subscriber.position in
    let fed = mine.1 in
    let P : WorldState → Type 0 = λ w. IsOnce log c s wanted from begun w in
    subst P (sym step.is)
    (own_changes log c s wanted from once.confirmed begun old.slots old step.start step.before (record step.before { back = step.before.back ++ status_with flushed clock position ∷ [] }) once step.there step.known refl once.slot once.reaches
    (omega (arith, once.within, ap position_in step.known)) mine.0 (fed_further _ fed refl fed.within fed.taken (all_of_both (λ (t : Status). t.flushed ≤ position) step.before.back (status_with flushed clock position ∷ []) fed.back (by_flushed flushed fair (ap position_in step.known), tt))))
  where
    by_flushed : (flushed : Option ℕ) → ((n : ℕ) → flushed ≡ Some n → n ≤ position_of c old) → position_of c old ≡ step.before.applier.subscriber.position → (status_with flushed clock step.before.applier.subscriber.position).flushed ≤ step.before.applier.subscriber.position
    by_flushed None fair at = omega arith
    by_flushed (Some n) fair at = let le = fair n refl in omega (arith, le, at)

own_acknowledged : (log : List Record) (c s : List ℕ) (wanted : StartOptions) (from : ℕ) (begun : Option (ℕ × List Published)) (old : WorldState) (a : Answer) (new : WorldState) → IsOnce log c s wanted from begun old → Acknowledges c old a new → IsOnce log c s wanted from begun new
own_acknowledged log c s wanted from begun old a new once step =
    let mine = mine_at log c s wanted from begun old (Some step.start) (Some step.before) once step.there step.known in
    let fed = mine.1 in
    let by = min step.status.flushed step.start.position in
    let told : AllByRecursion (λ (t : Status). t.flushed ≤ step.before.applier.subscriber.position) (step.status ∷ step.rest) =
    subst (AllByRecursion (λ (t : Status). t.flushed ≤ step.before.applier.subscriber.position)) step.waits fed.back in
    let here : told_if s step.before.slot (Some by) ≡ Some by =
    ap (λ (o : Option (List ℕ)). told_if s o (Some by)) fed.streams ∙ ap (λ (b : Bool). cond b (Some by) None) (named_so s s refl) in
    let slot : confirmed_at s (slots_after_confirming step.before.slot by old.slots) ≡ Some (max once.confirmed by) =
    confirmed_once s step.before.slot by old.slots ∙ ap (λ (t : Option ℕ). option_map (raised_by t) (confirmed_at s old.slots)) here ∙ ap (option_map (raised_by (Some by))) once.slot in
    let P : WorldState → Type 0 = λ w. IsOnce log c s wanted from begun w in
    subst P (sym step.is)
    (own_changes log c s wanted from (max once.confirmed by) begun (slots_after_confirming step.before.slot by old.slots) old step.start step.before (record step.before { back = step.rest }) once step.there step.known refl slot (omega (arith, once.reaches))
    (omega (arith, once.within, ap position_in step.known, told.0)) mine.0 (fed_further _ fed refl fed.within fed.taken (told.1)))

-- ---- Its start.

none_is : {A : Type 0} (o : Option A) → IsNone o → o ≡ None
none_is None none = refl
none_is (Some x) none = absurd cc

confirmed_is : (s : List ℕ) (slots : SlotsState) (n : ℕ) → confirmed_at s slots ≡ Some n → confirmed_of (slot_of s slots.slots) ≡ n
confirmed_is s slots n is = by_slot (slot_of s slots.slots) is
  where
    by_slot : (o : Option NamedSlot) → option_map (λ t. t.confirmed) o ≡ Some n → confirmed_of o ≡ n
    by_slot None is = absurd cc
    by_slot (Some t) is = same_inside t.confirmed n is

own_started : (log : List Record) (c s : List ℕ) (wanted : StartOptions) (from position : ℕ) (begun : Option (ℕ × List Published)) (old : WorldState) → IsOnce log c s wanted from begun old → open_start c old.starts ≡ None → position ≤ position_of c old
    → IsOnce log c s wanted from (Some (position_of c old, applied_by c old)) (world_after_start c (Some s) position wanted old)
own_started log c s wanted from position begun old once none asked = by_known (subscriber_of c old.subscribers) refl
  where
    here : Option (ℕ × List Published)
    here = Some (position_of c old, applied_by c old)

    stands : {p : Option SubscriberState} → subscriber_of c old.subscribers ≡ p → here ≡ Some (position_in p, applied_in p)
    stands known = ap (λ (p : Option SubscriberState). Option.Some (position_in p, applied_in p)) known

    from_there : ℕ
    from_there = start_from (Some s) position old.slots

    start : StartState
    start = new_start c (wanted_of wanted old.publications) from_there (restart from_there old.publisher.log)

    starts : List StartState
    starts = old.starts ++ start ∷ []

    later : from ≤ from_there
    later = omega (arith, once.reaches, confirmed_is s old.slots once.confirmed once.slot)

    within : from_there ≤ max from (position_of c old)
    within = omega (arith, once.within, confirmed_is s old.slots once.confirmed once.slot, asked)

    begins : open_start c starts ≡ Some start
    begins = look.start_after c old.starts start none (look.open_for c start refl refl)

    by_known : (p : Option SubscriberState) → subscriber_of c old.subscribers ≡ p
        → IsOnce log c s wanted from here (record old { slots = slots_after_taking (Some s) old.slots; starts = starts; subscribers = if_there p c (Some s) old.subscribers })
    by_known None known =
        let fresh = new_subscriber c None in
        let rested : IsAtRest fresh = record { applier = refl; slot = refl; delivered = refl; back = refl } in
        let settled = settled_new log from (wanted_of wanted old.publications) fresh.applier.subscriber refl refl in
        let fed = fed_begun log from (wanted_of wanted old.publications) s here start fresh (stands known) refl refl later (omega (arith, within, ap position_in known)) settled rested in
        let found = look.one_after c old.subscribers (new_subscriber c (Some s)) known refl in
        let new : WorldState = record old { slots = slots_after_taking (Some s) old.slots; starts = starts; subscribers = old.subscribers ++ new_subscriber c (Some s) ∷ [] } in
        record {
          confirmed = once.confirmed;
          slot = taken_same s (Some s) old.slots ∙ once.slot;
          reaches = once.reaches;
          within = omega (arith, once.within, ap position_in known, ap position_in found);
          others = all_of_both (IsNotOn c s) old.subscribers (new_subscriber c (Some s) ∷ []) once.others (λ else on. other_name c c else refl, tt);
          alone = look.alone_after c old.starts start none;
          mine = mine_so log c s wanted from here new (Some start) (Some (new_subscriber c (Some s))) (settled, fed) begins found;
        }
    by_known (Some sub) known =
        let mine = mine_at log c s wanted from begun old None (Some sub) once none known in
        let named = look.known_by_name c old.subscribers sub known in
        let fed = fed_begun log from (wanted_of wanted old.publications) s here start sub (stands known) refl refl later (omega (arith, within, ap position_in known)) mine.0 mine.1 in
        let found = look.with_found c old.subscribers sub (record sub { slot = Some s }) known named in
        let new : WorldState = record old { slots = slots_after_taking (Some s) old.slots; starts = starts; subscribers = with_subscriber c (record sub { slot = Some s }) old.subscribers } in
        record {
          confirmed = once.confirmed;
          slot = taken_same s (Some s) old.slots ∙ once.slot;
          reaches = once.reaches;
          within = omega (arith, once.within, ap position_in known, ap position_in found);
          others = own_subscriber c s old.subscribers (record sub { slot = Some s }) once.others named;
          alone = look.alone_after c old.starts start none;
          mine = mine_so log c s wanted from here new (Some start) (Some (record sub { slot = Some s })) (mine.0, fed) begins found;
        }

-- ---- Each line.

-- where it stood as its last start began
abbrev pub begun_by : List ℕ → ConnectionStep → WorldState → Answer → Option (ℕ × List Published) → Option (ℕ × List Published)
begun_by c (steps.Start slot position options) old a begun = where_done a (Some (position_of c old, applied_by c old)) begun
begun_by c step old a begun = begun

pub own_step : (log : List Record) (c s : List ℕ) (wanted : StartOptions) (from : ℕ) (begun : Option (ℕ × List Published)) (step : ConnectionStep) (old : WorldState) (a : Answer) (new : WorldState) → IsWellFormedLog log → AllByRecursion (BeginsIn log) old.starts → IsOnce log c s wanted from begun old → IsFairAt c s wanted old c step
    → IsStepAt c step old a new → IsOnce log c s wanted from (begun_by c step old a begun) new
own_step log c s wanted from begun (steps.Start slot position options) old a new good begun_in once fair step =
    let asks = fair.0 refl in
    let none = none_is (open_start c old.starts) step.0 in
    let P : Option (ℕ × List Published) → WorldState → Type 0 = λ b w. IsOnce log c s wanted from b w in
    let here : Option (ℕ × List Published) = Some (position_of c old, applied_by c old) in
    let begins = own_started log c s wanted from position begun old once none asks.2 in
    let Slot : Option (List ℕ) → Type 0 = λ o. P here (world_after_start c o position wanted old) in
    let Options : StartOptions → Type 0 = λ o. P here (world_after_start c (slot_named slot) position o old) in
    started_or P here begun c (slot_named slot) position options old a new once (λ _. subst Options (sym asks.1) (subst Slot (sym asks.0) begins)) step.1
own_step log c s wanted from begun (steps.Read max clock) old a new good begun_in once fair step = own_acts log c s wanted from begun (actions.Read max clock) old a new refl once step
own_step log c s wanted from begun (steps.Keepalive clock) old a new good begun_in once fair step = own_acts log c s wanted from begun (actions.Keepalive clock) old a new refl once step
own_step log c s wanted from begun (steps.Drain n) old a new good begun_in once fair step = own_acts log c s wanted from begun (actions.Drain n) old a new refl once step
own_step log c s wanted from begun (steps.Deliver n) old a new good begun_in once fair step = own_delivered log c s wanted from n begun old a new good begun_in once step
own_step log c s wanted from begun (steps.Status clock) old a new good begun_in once fair step = own_status log c s wanted from begun None clock old a new once step (λ n is. absurd cc)
own_step log c s wanted from begun (steps.Flushed number) old a new good begun_in once fair step = own_status log c s wanted from begun (Some number) _ old a new once step (λ n is. let same = same_inside number n is in omega (arith, fair refl, same))
own_step log c s wanted from begun steps.Ack old a new good begun_in once fair step = own_acknowledged log c s wanted from begun old a new once step
own_step log c s wanted from begun steps.Cut old a new good begun_in once fair step = own_cut log c s wanted from begun old a new once step

-- before there is a slot, its start is refused and nothing else can happen
pub own_before : (c s : List ℕ) (wanted : StartOptions) (step : ConnectionStep) (old : WorldState) (a : Answer) (new : WorldState) → IsBefore c s old → IsFairAt c s wanted old c step → IsStepAt c step old a new → IsBefore c s new
own_before c s wanted (steps.Start slot position options) old a new before fair step =
    let asks = fair.0 refl in
    started_or {A = Unit {0}} (λ _ w. IsBefore c s w) tt tt c (slot_named slot) position options old a new before (λ goes. absurd (refused_there (slot_named slot) asks.0 goes)) step.1
  where
    missing : slot_of s old.slots.slots ≡ None
    missing = by_slot (slot_of s old.slots.slots) before.slot
      where
        by_slot : (o : Option NamedSlot) → option_map (λ t. t.confirmed) o ≡ None → o ≡ None
        by_slot None is = refl
        by_slot (Some t) is = absurd cc

    refused_there : (o : Option (List ℕ)) → o ≡ Some s → start_refusal o options.publications old ≡ None → ⊥
    refused_there o is goes =
        let Goes : Option (List ℕ) → Type 0 = λ x. start_refusal x options.publications old ≡ None in
        let there = subst Goes is goes in
        let never = rw missing at there in
        cc
own_before c s wanted (steps.Read max clock) old a new before fair step = let never : Option.Some step.before ≡ Option.None = sym step.there ∙ before.started in absurd cc
own_before c s wanted (steps.Keepalive clock) old a new before fair step = let never : Option.Some step.before ≡ Option.None = sym step.there ∙ before.started in absurd cc
own_before c s wanted (steps.Drain n) old a new before fair step = let never : Option.Some step.before ≡ Option.None = sym step.there ∙ before.started in absurd cc
own_before c s wanted (steps.Deliver n) old a new before fair step = let never : Option.Some step.start ≡ Option.None = sym step.there ∙ before.started in absurd cc
own_before c s wanted (steps.Status clock) old a new before fair step = let never : Option.Some step.start ≡ Option.None = sym step.there ∙ before.started in absurd cc
own_before c s wanted (steps.Flushed number) old a new before fair step = let never : Option.Some step.start ≡ Option.None = sym step.there ∙ before.started in absurd cc
own_before c s wanted steps.Ack old a new before fair step = let never : Option.Some step.start ≡ Option.None = sym step.there ∙ before.started in absurd cc
own_before c s wanted steps.Cut old a new before fair step = let never : Option.Some step.before ≡ Option.None = sym step.there ∙ before.started in absurd cc
