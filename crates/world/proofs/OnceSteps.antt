-- What each event leaves of a subscriber whose lines are fair.
use Rattle.std.proofs.Common.{◌≡◌, ◌≤◌, ℕ, max, min, Bool, true, false, cond, List, [], ◌∷◌, ◌++◌, take, Option, Some, None, option_map, refl, sym, ap, subst, ◌∙◌, arith}
use Rattle.std.specs.List.{AllByRecursion}
use Rattle.std.proofs.lemmas.List.{append-nil}
use Rattle.std.specs.Str.{bytes_eq}
use Rattle.wal.specs.declared.record.Record.{Record}
use Rattle.wal.specs.Restart.{restart}
use Rattle.publication.specs.Publications.{PublicationSet}
use Rattle.publication_config.specs.declared.fault.PubFault.TheVariants as pubs
use Rattle.pgoutput.specs.declared.published.Published.{Published}
use Rattle.pgoutput.proofs.Lists.{all_of_both}
use Rattle.walsender.specs.declared.fault.SendFault.TheVariants as sends
use Rattle.schedule.specs.declared.lines.start_options.StartOptions.{StartOptions}
use Rattle.world.specs.declared.printed.answer.Answer.{Answer}
use Rattle.world.specs.declared.printed.answer.Answer.TheVariants as answers
use Rattle.schedule.specs.declared.event.ConnectionStep.{ConnectionStep}
use Rattle.schedule.specs.declared.event.ConnectionStep.TheVariants as steps
use Rattle.slots.specs.State.{SlotsState}
use Rattle.slots.specs.Words.{slot_named, slots_after_confirming, start_from}
use Rattle.world.specs.Start.{StartState}
use Rattle.world.specs.Acting.{Acts, new_start}
use Rattle.world.specs.declared.stepping.action.Action.{Action}
use Rattle.world.specs.declared.stepping.action.Action.TheVariants as actions
use Rattle.world.specs.State.{SubscriberState, WorldState, if_known_again, if_there, new_subscriber, open_start, slot_of_connection, subscriber_connected_again, subscriber_of, subscribers_after_reconnect, with_one_for, with_subscriber}
use Rattle.world.specs.ConnectionLines.{wanted_of, ActsAt, IsStart, slots_after, start_refusal, world_after_start, subscribers_after}
use Rattle.world.specs.Steps.{IsStepAt}
use Rattle.world.specs.Confirming.{confirmed_at, raised_by, told_if}
use Rattle.world.specs.Once.{IsFairAt, position_in, position_of}
use Rattle.world.proofs.Confirmed.{confirmed_once, let_go_same, taken_same}
use Rattle.world.proofs.Lookups as look
use Rattle.world.proofs.Lookups.{IsAlone, named_so, other_name, same_name}
use Rattle.world.proofs.Feeding.{IsAtRest, IsFed}
use Rattle.world.proofs.Settled.{IsSettled}

-- ---- What is true between events.

-- no other connection streams from the slot
abbrev pub IsNotOn : List ℕ → List ℕ → SubscriberState → Type 0
IsNotOn c s sub = bytes_eq sub.connection c ≡ false → sub.slot ≡ Some s → ⊥

abbrev pub IsFollowedBy : List Record → ℕ → PublicationSet → List ℕ → Option (ℕ × List Published) → Option StartState → SubscriberState → Type 0
IsFollowedBy log from selection s begun None sub = IsAtRest sub
IsFollowedBy log from selection s begun (Some l) sub = IsFed log from selection s begun l sub

abbrev pub IsMine : List Record → ℕ → PublicationSet → List ℕ → Option (ℕ × List Published) → Option StartState → Option SubscriberState → Type 0
IsMine log from selection s begun o (Some sub) = IsSettled log from selection sub.applier.subscriber × IsFollowedBy log from selection s begun o sub
IsMine log from selection s begun None None = Unit {0}
IsMine log from selection s begun (Some l) None = ⊥

-- The log is the one to which the whole run leads.
pub record IsOnce (log : List Record) (c s : List ℕ) (wanted : StartOptions) (from : ℕ) (begun : Option (ℕ × List Published)) (w : WorldState) : Type 0 where
  pub confirmed : ℕ
  pub slot : confirmed_at s w.slots ≡ Some confirmed
  pub reaches : from ≤ confirmed
  pub within : confirmed ≤ max from (position_of c w)
  pub others : AllByRecursion (IsNotOn c s) w.subscribers
  pub alone : IsAlone c w.starts
  pub mine : IsMine log from (wanted_of wanted w.publications) s begun (open_start c w.starts) (subscriber_of c w.subscribers)

-- as long as there is no such slot, c has no start and no subscriber
pub record IsBefore (c s : List ℕ) (w : WorldState) : Type 0 where
  pub slot : confirmed_at s w.slots ≡ None
  pub others : AllByRecursion (IsNotOn c s) w.subscribers
  pub started : open_start c w.starts ≡ None
  pub known : subscriber_of c w.subscribers ≡ None

-- ---- Another connection's line.

-- it leaves c's start and subscriber, and the slot's position
pub record LeavesAlone (c s : List ℕ) (old new : WorldState) : Type 0 where
  pub publications : new.publications ≡ old.publications
  pub confirmed : confirmed_at s new.slots ≡ confirmed_at s old.slots
  pub others : AllByRecursion (IsNotOn c s) new.subscribers
  pub alone : IsAlone c old.starts → IsAlone c new.starts
  pub started : open_start c new.starts ≡ open_start c old.starts
  pub known : subscriber_of c new.subscribers ≡ subscriber_of c old.subscribers

pub once_left : (log : List Record) (c s : List ℕ) (wanted : StartOptions) (from : ℕ) (begun : Option (ℕ × List Published)) (old new : WorldState) → IsOnce log c s wanted from begun old → LeavesAlone c s old new → IsOnce log c s wanted from begun new
once_left log c s wanted from begun old new once left = record {
  confirmed = once.confirmed;
  slot = left.confirmed ∙ once.slot;
  reaches = once.reaches;
  within = omega (arith, once.within, ap position_in left.known);
  others = left.others;
  alone = left.alone once.alone;
  mine = rw (left.started, left.known, left.publications) once.mine;
}

pub before_left : (c s : List ℕ) (old new : WorldState) → IsBefore c s old → LeavesAlone c s old new → IsBefore c s new
before_left c s old new before left = record { slot = left.confirmed ∙ before.slot; others = left.others; started = left.started ∙ before.started; known = left.known ∙ before.known }

-- what an action leaves of a start
pub record KeepsStart (old new : StartState) : Type 0 where
  pub connection : new.connection ≡ old.connection
  pub start : new.start ≡ old.start
  pub selection : new.selection ≡ old.selection
  pub more : List ℕ
  pub produced : new.produced ≡ old.produced ++ more

same_start : (old new made : StartState) (more : List ℕ) → new ≡ made → made.connection ≡ old.connection → made.start ≡ old.start → made.selection ≡ old.selection → made.produced ≡ old.produced ++ more → KeepsStart old new
same_start old new made more is connection start selection produced = record {
  connection = ap (λ (x : StartState). x.connection) is ∙ connection;
  start = ap (λ (x : StartState). x.start) is ∙ start;
  selection = ap (λ (x : StartState). x.selection) is ∙ selection;
  more = more;
  produced = ap (λ (x : StartState). x.produced) is ∙ produced;
}

pub acts_keep : (log : List Record) (action : Action) (old new : StartState) (a : Answer) → Acts log action old a new → KeepsStart old new
acts_keep log (actions.Read max clock) old new answers.Done acts = same_start old new _ [] acts.1 refl refl refl (sym (append-nil old.produced))
acts_keep log (actions.Keepalive clock) old new answers.Done acts = same_start old new _ [] acts.1 refl refl refl (sym (append-nil old.produced))
acts_keep log (actions.Drain n) old new answers.Done acts = same_start old new _ (take n old.held) acts.1 refl refl refl refl
acts_keep log actions.Cut old new answers.Done acts = same_start old new _ [] acts.1 refl refl refl (sym (append-nil old.produced))
acts_keep log (actions.Read max clock) old new (answers.Sender sends.Memory) acts = same_start old new _ [] acts.1.is refl refl refl (sym (append-nil old.produced))
acts_keep log (actions.Keepalive clock) old new (answers.Sender sends.Memory) acts = same_start old new _ [] acts.1 refl refl refl (sym (append-nil old.produced))
acts_keep log (actions.Drain n) old new (answers.Sender sends.Memory) acts = absurd acts.1
acts_keep log actions.Cut old new (answers.Sender sends.Memory) acts = absurd acts.1
acts_keep log (actions.Read max clock) old new (answers.Sender sends.ArenaFull) acts = same_start old new _ [] acts.1.is refl refl refl (sym (append-nil old.produced))
acts_keep log (actions.Keepalive clock) old new (answers.Sender sends.ArenaFull) acts = absurd acts.1
acts_keep log (actions.Drain n) old new (answers.Sender sends.ArenaFull) acts = absurd acts.1
acts_keep log actions.Cut old new (answers.Sender sends.ArenaFull) acts = absurd acts.1
acts_keep log action old new (answers.Sender sends.Failed) acts = same_start old new _ [] acts.2 refl refl refl (sym (append-nil old.produced))
acts_keep log action old new (answers.Sender sends.Gap) acts = absurd acts
acts_keep log action old new (answers.Session fault) acts = absurd acts
acts_keep log action old new (answers.Slot fault) acts = absurd acts
acts_keep log action old new (answers.Publication fault) acts = absurd acts
acts_keep log action old new answers.NoReader acts = absurd acts
acts_keep log action old new answers.Removed acts = absurd acts
acts_keep log action old new (answers.Front place) acts = absurd acts
acts_keep log action old new (answers.Subscriber fault) acts = absurd acts

-- one that isn't c's has become another of its connection and its slot
other_subscriber : (c s d : List ℕ) (ss : List SubscriberState) (old new : SubscriberState) → bytes_eq d c ≡ false → AllByRecursion (IsNotOn c s) ss → subscriber_of d ss ≡ Some old → new.connection ≡ old.connection → (new.slot ≡ Some s → old.slot ≡ Some s)
    → AllByRecursion (IsNotOn c s) (with_subscriber d new ss) × (subscriber_of c (with_subscriber d new ss) ≡ subscriber_of c ss)
other_subscriber c s d ss old new other all known named slot =
    let of : new.connection ≡ d = named ∙ look.known_by_name d ss old known in
    let stays : IsNotOn c s new = λ else is. (look.one_of_all (IsNotOn c s) d ss old all known) (ap (λ (n : List ℕ). bytes_eq n c) (sym named) ∙ else) (slot is) in
    (look.all_with (IsNotOn c s) d ss new all stays, look.with_other c d ss new other of)

-- c's own has become another
pub own_subscriber : (c s : List ℕ) (ss : List SubscriberState) (new : SubscriberState) → AllByRecursion (IsNotOn c s) ss → new.connection ≡ c → AllByRecursion (IsNotOn c s) (with_subscriber c new ss)
own_subscriber c s ss new all named = look.all_with (IsNotOn c s) c ss new all (λ else is. other_name new.connection c else named)

-- ---- Starts.

-- what holds where it was done, and where it was refused
abbrev pub where_done : {A : Type 0} → Answer → A → A → A
where_done answers.Done done other = done
where_done answer done other = other

-- a start is refused and leaves everything, or begins
pub started_or : {A : Type 0} (P : A → WorldState → Type 0) (done other : A) (c : List ℕ) (slot : Option (List ℕ)) (position : ℕ) (wanted : StartOptions) (old : WorldState) (a : Answer) (new : WorldState) → P other old
    → (start_refusal slot wanted.publications old ≡ None → P done (world_after_start c slot position wanted old)) → IsStart c slot position wanted old a new → P (where_done a done other) new
started_or P done other c slot position wanted old answers.Done new same begins step = subst (P done) (sym step.2) (begins step.0)
started_or P done other c slot position wanted old (answers.Publication pubs.Memory) new same begins step = subst (P other) (sym step.1) same
started_or P done other c slot position wanted old (answers.Publication pubs.Unknown) new same begins step = subst (P other) (sym step.1) same
started_or P done other c slot position wanted old (answers.Publication pubs.ListConflict) new same begins step = subst (P other) (sym step.1) same
started_or P done other c slot position wanted old (answers.Publication (pubs.FilterOutsideIdentity place)) new same begins step = subst (P other) (sym step.1) same
started_or P done other c slot position wanted old (answers.Publication (pubs.ListWithoutIdentity place)) new same begins step = subst (P other) (sym step.1) same
started_or P done other c slot position wanted old (answers.Publication (pubs.NoIdentity place)) new same begins step = subst (P other) (sym step.1) same
started_or P done other c slot position wanted old (answers.Publication (pubs.NotToml n)) new same begins step = subst (P other) (sym step.1) same
started_or P done other c slot position wanted old (answers.Publication (pubs.BadToml misfit)) new same begins step = subst (P other) (sym step.1) same
started_or P done other c slot position wanted old (answers.Publication (pubs.BadFilter place fault)) new same begins step = subst (P other) (sym step.1) same
started_or P done other c slot position wanted old (answers.Session fault) new same begins step = subst (P other) (sym step.1) same
started_or P done other c slot position wanted old (answers.Slot fault) new same begins step = subst (P other) (sym step.1) same
started_or P done other c slot position wanted old answers.NoReader new same begins step = subst (P other) (sym step.1) same
started_or P done other c slot position wanted old answers.Removed new same begins step = subst (P other) (sym step.2) same
started_or P done other c slot position wanted old (answers.Front place) new same begins step = subst (P other) (sym step.1) same
started_or P done other c slot position wanted old (answers.Sender fault) new same begins step = subst (P other) (sym step.1) same
started_or P done other c slot position wanted old (answers.Subscriber fault) new same begins step = subst (P other) (sym step.1) same

left_as_it_was : (c s : List ℕ) (w : WorldState) → AllByRecursion (IsNotOn c s) w.subscribers → LeavesAlone c s w w
left_as_it_was c s w others = record { publications = refl; confirmed = refl; others = others; alone = λ alone. alone; started = refl; known = refl }

joined_other : (c s d : List ℕ) (slot : Option (List ℕ)) (ss : List SubscriberState) → bytes_eq d c ≡ false → (slot ≡ Some s → ⊥) → AllByRecursion (IsNotOn c s) ss
    → AllByRecursion (IsNotOn c s) (with_one_for d slot ss) × (subscriber_of c (with_one_for d slot ss) ≡ subscriber_of c ss)
joined_other c s d slot ss other apart all = by_known (subscriber_of d ss) refl
  where
    by_known : (o : Option SubscriberState) → subscriber_of d ss ≡ o → AllByRecursion (IsNotOn c s) (if_there o d slot ss) × (subscriber_of c (if_there o d slot ss) ≡ subscriber_of c ss)
    by_known None is = (all_of_both (IsNotOn c s) ss (new_subscriber d slot ∷ []) all (λ else on. apart on, tt), look.other_behind c ss (new_subscriber d slot) other)
    by_known (Some t) is =
        let of : t.connection ≡ d = look.known_by_name d ss t is in
        (look.all_with (IsNotOn c s) d ss (record t { slot = slot }) all (λ else on. apart on), look.with_other c d ss (record t { slot = slot }) other of)

other_started : (c s d : List ℕ) (slot : Option (List ℕ)) (position : ℕ) (wanted : StartOptions) (old : WorldState) → bytes_eq d c ≡ false → (slot ≡ Some s → ⊥) → AllByRecursion (IsNotOn c s) old.subscribers → LeavesAlone c s old (world_after_start d slot position wanted old)
other_started c s d slot position wanted old other apart all =
    let joined = joined_other c s d slot old.subscribers other apart all in
    let start = new_start d (wanted_of wanted old.publications) (start_from slot position old.slots) (restart (start_from slot position old.slots) old.publisher.log) in
    let not_open = look.not_open_for c d start other refl in
    record {
      publications = refl;
      confirmed = taken_same s slot old.slots;
      others = joined.0;
      alone = λ alone. look.alone_other_after c old.starts start not_open alone;
      started = look.start_other_after c old.starts start not_open;
      known = joined.1;
    }

-- ---- What another connection asks of its sender.

other_cut : (c s d : List ℕ) (ss : List SubscriberState) → bytes_eq d c ≡ false → AllByRecursion (IsNotOn c s) ss → AllByRecursion (IsNotOn c s) (subscribers_after_reconnect d ss) × (subscriber_of c (subscribers_after_reconnect d ss) ≡ subscriber_of c ss)
other_cut c s d ss other all = by_known (subscriber_of d ss) refl
  where
    by_known : (o : Option SubscriberState) → subscriber_of d ss ≡ o → AllByRecursion (IsNotOn c s) (if_known_again o d ss) × (subscriber_of c (if_known_again o d ss) ≡ subscriber_of c ss)
    by_known None is = (all, refl)
    by_known (Some t) is = other_subscriber c s d ss t (subscriber_connected_again t) other all is refl (λ on. let never : Option.None ≡ Option.Some s = on in absurd cc)

other_after : (c s d : List ℕ) (action : Action) (ss : List SubscriberState) → bytes_eq d c ≡ false → AllByRecursion (IsNotOn c s) ss
    → AllByRecursion (IsNotOn c s) (subscribers_after d action ss) × (subscriber_of c (subscribers_after d action ss) ≡ subscriber_of c ss)
other_after c s d (actions.Read max clock) ss other all = (all, refl)
other_after c s d (actions.Keepalive clock) ss other all = (all, refl)
other_after c s d (actions.Drain n) ss other all = (all, refl)
other_after c s d actions.Cut ss other all = other_cut c s d ss other all

same_confirmed : (s d : List ℕ) (action : Action) (ss : List SubscriberState) (slots : SlotsState) → confirmed_at s (slots_after d action ss slots) ≡ confirmed_at s slots
same_confirmed s d (actions.Read max clock) ss slots = refl
same_confirmed s d (actions.Keepalive clock) ss slots = refl
same_confirmed s d (actions.Drain n) ss slots = refl
same_confirmed s d actions.Cut ss slots = let_go_same s (slot_of_connection d ss) slots

other_acts : (c s d : List ℕ) (action : Action) (old : WorldState) (a : Answer) (new : WorldState) → bytes_eq d c ≡ false → AllByRecursion (IsNotOn c s) old.subscribers → ActsAt d action old a new → LeavesAlone c s old new
other_acts c s d action old a new other all step =
    let after = other_after c s d action old.subscribers other all in
    let of : step.after.connection ≡ d = (acts_keep old.publisher.log action step.before step.after a step.acts).connection ∙ look.start_named d old.starts step.before step.there in
    let P : WorldState → Type 0 = λ w. LeavesAlone c s old w in
    subst P (sym step.is) (record {
      publications = refl;
      confirmed = same_confirmed s d action old.subscribers old.slots;
      others = after.0;
      alone = λ alone. look.alone_other c d old.starts step.after other of alone;
      started = look.start_other c d old.starts step.after other of;
      known = after.1;
    })

-- another's subscriber becomes another, and the slots are these
other_changes : (c s d : List ℕ) (slots : SlotsState) (old : WorldState) (before after : SubscriberState) → bytes_eq d c ≡ false → AllByRecursion (IsNotOn c s) old.subscribers → subscriber_of d old.subscribers ≡ Some before → after.connection ≡ before.connection → after.slot ≡ before.slot
    → confirmed_at s slots ≡ confirmed_at s old.slots → LeavesAlone c s old (record old { slots = slots; subscribers = with_subscriber d after old.subscribers })
other_changes c s d slots old before after other all known named slot confirmed =
    let changed = other_subscriber c s d old.subscribers before after other all known named (λ on. sym slot ∙ on) in
    record { publications = refl; confirmed = confirmed; others = changed.0; alone = λ alone. alone; started = refl; known = changed.1 }

-- a slot that isn't this one is confirmed
not_confirmed : (s : List ℕ) (slot : Option (List ℕ)) (by : ℕ) (slots : SlotsState) → (slot ≡ Some s → ⊥) → confirmed_at s (slots_after_confirming slot by slots) ≡ confirmed_at s slots
not_confirmed s slot by slots apart = confirmed_once s slot by slots ∙ ap (λ (t : Option ℕ). option_map (raised_by t) (confirmed_at s slots)) (untold slot apart) ∙ same (confirmed_at s slots)
  where
    untold : (slot : Option (List ℕ)) → (slot ≡ Some s → ⊥) → told_if s slot (Some by) ≡ None
    untold None apart = refl
    untold (Some other) apart = by_test (bytes_eq other s) refl
      where
        by_test : (b : Bool) → bytes_eq other s ≡ b → cond b (Some by) None ≡ None
        by_test false is = refl
        by_test true is = absurd (apart (ap Some (same_name other s is)))

    same : (o : Option ℕ) → option_map (raised_by None) o ≡ o
    same None = refl
    same (Some n) = refl

pub other_step : (c s : List ℕ) (wanted : StartOptions) (d : List ℕ) (step : ConnectionStep) (old : WorldState) (a : Answer) (new : WorldState) → bytes_eq d c ≡ false → AllByRecursion (IsNotOn c s) old.subscribers → IsFairAt c s wanted old d step
    → IsStepAt d step old a new → LeavesAlone c s old new
other_step c s wanted d (steps.Start slot position options) old a new other all fair step =
    let apart = fair.1 (other_name d c other) in
    started_or {A = Unit {0}} (λ _ w. LeavesAlone c s old w) tt tt d (slot_named slot) position options old a new (left_as_it_was c s old all) (λ none. other_started c s d (slot_named slot) position options old other apart all) step.1
other_step c s wanted d (steps.Read max clock) old a new other all fair step = other_acts c s d (actions.Read max clock) old a new other all step
other_step c s wanted d (steps.Keepalive clock) old a new other all fair step = other_acts c s d (actions.Keepalive clock) old a new other all step
other_step c s wanted d (steps.Drain n) old a new other all fair step = other_acts c s d (actions.Drain n) old a new other all step
other_step c s wanted d steps.Cut old a new other all fair step = other_acts c s d actions.Cut old a new other all step
other_step c s wanted d (steps.Deliver n) old a new other all fair step =
    let P : WorldState → Type 0 = λ w. LeavesAlone c s old w in
    let is = step.gets.is in
    subst P (sym step.is) (other_changes c s d old.slots old step.before step.after other all step.known (ap (λ (x : SubscriberState). x.connection) is) (ap (λ (x : SubscriberState). x.slot) is) refl)
other_step c s wanted d (steps.Status clock) old a new other all fair step = let P : WorldState → Type 0 = λ w. LeavesAlone c s old w in subst P (sym step.is) (other_changes c s d old.slots old step.before _ other all step.known refl refl refl)
other_step c s wanted d (steps.Flushed number) old a new other all fair step = let P : WorldState → Type 0 = λ w. LeavesAlone c s old w in subst P (sym step.is) (other_changes c s d old.slots old step.before _ other all step.known refl refl refl)
other_step c s wanted d steps.Ack old a new other all fair step =
    let P : WorldState → Type 0 = λ w. LeavesAlone c s old w in
    let apart = (look.one_of_all (IsNotOn c s) d old.subscribers step.before all step.known) (ap (λ (n : List ℕ). bytes_eq n c) (look.known_by_name d old.subscribers step.before step.known) ∙ other) in
    subst P (sym step.is) (other_changes c s d _ old step.before (record step.before { back = step.rest }) other all step.known refl refl (not_confirmed s step.before.slot (min step.status.flushed step.start.position) old.slots apart))
