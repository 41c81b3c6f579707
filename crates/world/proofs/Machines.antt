-- The machine between two events: a longer log leaves every start served, a call or an act is its event in the world.
use Rattle.std.proofs.Common.{◌≡◌, ◌+◌, ◌<◌, length, ℕ, Bool, true, false, List, [], ◌∷◌, ◌++◌, map, Some, refl, sym, ap, subst, ◌∙◌, option_map, arith}
use Rattle.std.specs.Prelude.{Result, Ok, Err, IfOk, slice_get, slice_set, slice_index_or, vec_capacity, vec_len}
use Rattle.std.specs.List.{AllByRecursion}
use Rattle.std.proofs.lemmas.Option.{slice_get-map, slice_get_read, slice_get_within}
use Rattle.std.proofs.lemmas.List.{length-map, map-append, map-set}
use Rattle.wal.specs.declared.record.Record.{Record}
use Rattle.walsender.specs.declared.fault.SendFault.TheVariants as sends
use Rattle.world.specs.declared.printed.answer.Answer.{Answer}
use Rattle.world.specs.declared.printed.answer.Answer.TheVariants as answers
use Rattle.schedule.specs.declared.fault.WorldFault.{WorldFault}
use Rattle.schedule.specs.declared.event.Event.{Event}
use Rattle.schedule.specs.declared.event.Event.TheVariants as events
use Rattle.world.specs.declared.stepping.action.Action.{Action}
use Rattle.world.specs.declared.stepping.action.Action.TheVariants as actions
use Rattle.world.specs.declared.stepping.start.Start.{Start}
use Rattle.world.specs.declared.stepping.start.StartStage.{StartStage}
use Rattle.world.specs.declared.stepping.start.StartStage.TheVariants as stages
use Rattle.world.specs.declared.machine.Machine.{Machine}
use Rattle.world.specs.Start.{StartState, running_count}
use Rattle.world.specs.State.{SubscriberState, WorldState}
use Rattle.schedule.specs.SessionLines.{ask_of}
use Rattle.schedule.specs.Sessions.{Grows}
use Rattle.slots.specs.State.{SlotsState}
use Rattle.world.specs.Acting.{Acts}
use Rattle.world.specs.ConnectionLines.{slots_after, subscribers_after}
use Rattle.world.specs.Steps.{IsLineOf, IsStep}
use Rattle.world.specs.Starts.{IsServed, is_open, start_state, state_with}
use Rattle.world.specs.Machine.{ActsIn, IsMachine, IsOpenAt, IsOpenStartAt, open_places, without_place}
use Rattle.world.proofs.Sections.{grown_served}
use Rattle.world.proofs.Openings.{places_kept, places_less, places_with_one}
use Rattle.world.proofs.Readers.{one_runs, running_with}
use Rattle.world.proofs.Asking.{one_there}

served_on : {L : Type 0} (log more : List Record) (cs : List (Start L)) → AllByRecursion (IsServed log) cs → AllByRecursion (IsServed (log ++ more)) cs
served_on log more [] all = tt
served_on log more (c ∷ cs) all = (grown_served log more c.produced.items c.stage all.0, served_on log more cs all.1)

pub all_grown : {L : Type 0} (old new : List Record) (cs : List (Start L)) → Grows old new → AllByRecursion (IsServed old) cs → AllByRecursion (IsServed new) cs
all_grown old new cs grows all = let P : List Record → Type 0 = λ l. AllByRecursion (IsServed l) cs in subst P (sym grows.is) (served_on old grows.more cs all)

-- ---- a session's line

-- a line's call is its event, where nothing else has changed
pub called_step : (e : Event) (old new : WorldState) (r : Result Answer WorldFault) → IfOk r (λ a. IsLineOf (ask_of e old.publisher old.transactions) old a new)
    → new ≡ record old { publisher = new.publisher; transactions = new.transactions } → IfOk r (λ a. IsStep old e a new)
called_step e old new (Err fault) calls is = tt
called_step (events.Session t s) old new (Ok a) calls is = record { called = calls; is = is }
called_step (events.Note prefix content) old new (Ok a) calls is = record { called = calls; is = is }
called_step (events.Connection c s) old new (Ok a) calls is = absurd calls.2
called_step (events.Slot name) old new (Ok a) calls is = absurd calls.2
called_step events.Forget old new (Ok a) calls is = absurd calls.2
called_step events.Front old new (Ok a) calls is = absurd calls.2

-- ---- a connection's line

abbrev pub is_cut : Action → Bool
is_cut actions.Cut = true
is_cut action = false

pub stays_open : (log : List Record) (action : Action) (old new : StartState) (a : Answer) → is_cut action ≡ false → Acts log action old a new → new.is_open ≡ old.is_open
stays_open log (actions.Read max clock) old new answers.Done goes acts = ap (λ (s : StartState). s.is_open) acts.1
stays_open log (actions.Keepalive clock) old new answers.Done goes acts = ap (λ (s : StartState). s.is_open) acts.1
stays_open log (actions.Drain n) old new answers.Done goes acts = ap (λ (s : StartState). s.is_open) acts.1
stays_open log actions.Cut old new a goes acts = let never : true ≡ false = goes in cc
stays_open log (actions.Read max clock) old new (answers.Sender sends.Memory) goes acts = ap (λ (s : StartState). s.is_open) acts.1.is
stays_open log (actions.Keepalive clock) old new (answers.Sender sends.Memory) goes acts = ap (λ (s : StartState). s.is_open) acts.1
stays_open log (actions.Drain n) old new (answers.Sender sends.Memory) goes acts = absurd acts.1
stays_open log (actions.Read max clock) old new (answers.Sender sends.ArenaFull) goes acts = ap (λ (s : StartState). s.is_open) acts.1.is
stays_open log (actions.Keepalive clock) old new (answers.Sender sends.ArenaFull) goes acts = absurd acts.1
stays_open log (actions.Drain n) old new (answers.Sender sends.ArenaFull) goes acts = absurd acts.1
stays_open log action old new (answers.Sender sends.Failed) goes acts = ap (λ (s : StartState). s.is_open) acts.2
stays_open log action old new (answers.Sender sends.Gap) goes acts = absurd acts
stays_open log action old new (answers.Session fault) goes acts = absurd acts
stays_open log action old new (answers.Slot fault) goes acts = absurd acts
stays_open log action old new (answers.Publication fault) goes acts = absurd acts
stays_open log action old new answers.NoReader goes acts = absurd acts
stays_open log action old new answers.Removed goes acts = absurd acts
stays_open log action old new (answers.Front place) goes acts = absurd acts
stays_open log action old new (answers.Subscriber fault) goes acts = absurd acts

pub is_closed : (log : List Record) (old new : StartState) (a : Answer) → Acts log actions.Cut old a new → new.is_open ≡ false
is_closed log old new answers.Done acts = ap (λ (s : StartState). s.is_open) acts.1
is_closed log old new (answers.Sender sends.Memory) acts = absurd acts.1
is_closed log old new (answers.Sender sends.ArenaFull) acts = absurd acts.1
is_closed log old new (answers.Sender sends.Failed) acts = let never : false ≡ true = acts.0 in cc
is_closed log old new (answers.Sender sends.Gap) acts = absurd acts
is_closed log old new (answers.Session fault) acts = absurd acts
is_closed log old new (answers.Slot fault) acts = absurd acts
is_closed log old new (answers.Publication fault) acts = absurd acts
is_closed log old new answers.NoReader acts = absurd acts
is_closed log old new answers.Removed acts = absurd acts
is_closed log old new (answers.Front place) acts = absurd acts
is_closed log old new (answers.Subscriber fault) acts = absurd acts

pub open_shown : {L : Type 0} (connection produced : List ℕ) (w : StartStage L) → is_open w ≡ true → (state_with connection produced w).is_open ≡ true
open_shown connection produced (stages.Open s) is = refl
open_shown connection produced (stages.Cut e) is = is

pub found_on : {L : Type 0} (log : List Record) (place : ℕ) (action : Action) (cs new : List (Start L)) (places : List ℕ) (a : Answer) → is_cut action ≡ false → ActsIn log place action cs a new → places ≡ open_places 0 (map start_state cs)
    → places ≡ open_places 0 (map start_state new)
found_on log place action cs new places a goes acts found =
    let there = slice_get-map start_state cs place ∙ ap (option_map start_state) acts.there in
    found ∙ sym (places_kept 0 (map start_state cs) place (start_state acts.before) acts.after there (stays_open log action (start_state acts.before) acts.after a goes acts.acts)) ∙ ap (open_places 0) (sym acts.is)

pub found_less : {L : Type 0} (log : List Record) (name : List ℕ) (place : ℕ) (cs new : List (Start L)) (places : List ℕ) (a : Answer) → IsOpenStartAt name place cs → ActsIn log place actions.Cut cs a new → places ≡ open_places 0 (map start_state cs)
    → without_place place places ≡ open_places 0 (map start_state new)
found_less {L} log name place cs new places a at acts found =
    let there = slice_get-map start_state cs place ∙ ap (option_map start_state) acts.there in
    let same : at.start ≡ acts.before = one_there cs place at.start acts.before at.there acts.there in
    let was : (start_state acts.before).is_open ≡ true = ap (λ (s : Start L). (start_state s).is_open) (sym same) ∙ open_shown at.start.connection at.start.produced.items at.start.stage at.opened in
    ap (without_place place) found ∙ places_less 0 (map start_state cs) place place (start_state acts.before) acts.after (omega arith) there was (is_closed log (start_state acts.before) acts.after a acts.acts) ∙ ap (open_places 0) (sym acts.is)

pub no_cut : (action : Action) → (action ≡ actions.Cut → ⊥) → is_cut action ≡ false
no_cut (actions.Read max clock) other = refl
no_cut (actions.Keepalive clock) other = refl
no_cut (actions.Drain n) other = refl
no_cut actions.Cut other = absurd (other refl)

pub kept_slots : (name : List ℕ) (action : Action) (subscribers : List SubscriberState) (slots : SlotsState) → is_cut action ≡ false → slots_after name action subscribers slots ≡ slots
kept_slots name (actions.Read max clock) subscribers slots goes = refl
kept_slots name (actions.Keepalive clock) subscribers slots goes = refl
kept_slots name (actions.Drain n) subscribers slots goes = refl
kept_slots name actions.Cut subscribers slots goes = let never : true ≡ false = goes in cc

pub kept_subscribers : (name : List ℕ) (action : Action) (subscribers : List SubscriberState) → is_cut action ≡ false → subscribers_after name action subscribers ≡ subscribers
kept_subscribers name (actions.Read max clock) subscribers goes = refl
kept_subscribers name (actions.Keepalive clock) subscribers goes = refl
kept_subscribers name (actions.Drain n) subscribers goes = refl
kept_subscribers name actions.Cut subscribers goes = let never : true ≡ false = goes in cc

pub found_more : {L : Type 0} (cs new : List (Start L)) (places more : List ℕ) (s : Start L) (n : ℕ) → new ≡ cs ++ s ∷ [] → more ≡ places ++ n ∷ [] → n ≡ length cs → (start_state s).is_open ≡ true → places ≡ open_places 0 (map start_state cs)
    → more ≡ open_places 0 (map start_state new)
found_more cs new places more s n new_is more_is n_is opened found =
    let count : n ≡ 0 + length (map start_state cs) = omega (arith, n_is, length-map cs start_state) in
    more_is ∙ ap (λ l. l ++ n ∷ []) found ∙ ap (λ (m : ℕ). open_places 0 (map start_state cs) ++ m ∷ []) count
    ∙ sym (places_with_one 0 (map start_state cs) (start_state s) opened)
    ∙ ap (open_places 0) (sym (ap (map start_state) new_is ∙ map-append start_state cs (s ∷ [])))

-- ---- readers

closed_shown : {L : Type 0} (connection produced : List ℕ) (w : StartStage L) → is_open w ≡ false → (state_with connection produced w).is_open ≡ false
closed_shown connection produced (stages.Open s) is = is
closed_shown connection produced (stages.Cut e) is = refl

-- an open start has a reader, and one that was cut has none
pub one_running : {L : Type 0} (s : Start L) → is_open s.stage ≡ true → running_count (start_state s ∷ []) ≡ 1
one_running s is = rw (open_shown s.connection s.produced.items s.stage is) refl

pub none_running : {L : Type 0} (s : Start L) → is_open s.stage ≡ false → running_count (start_state s ∷ []) ≡ 0
none_running s is = rw (closed_shown s.connection s.produced.items s.stage is) refl

-- what one start gives the pool, all starts give it
pub pool_kept : {L : Type 0} (cs : List (Start L)) (place : ℕ) (c new : Start L) (old_len new_len : ℕ) → IsOpenAt place cs → c ≡ slice_index_or cs place c
    → new_len + running_count (start_state new ∷ []) ≡ old_len + running_count (start_state c ∷ []) → new_len + running_count (map start_state (slice_set cs place new)) ≡ old_len + running_count (map start_state cs)
pool_kept cs place c new old_len new_len at value one =
    let there : slice_get (map start_state cs) place ≡ Some (start_state c) = slice_get-map start_state cs place ∙ ap (option_map start_state) (slice_get_read cs (length cs) place c refl (slice_get_within cs place at.start at.there) value) in
    let all = running_with (map start_state cs) place (start_state c) (start_state new) there in
    let set = ap running_count (map-set start_state cs place new) in
    omega (arith, one, all, set)

-- where a start is open, the pool lacks a reader
pub pool_has_room : {L : Type 0} (name : List ℕ) (place : ℕ) (m : Machine L) → IsOpenStartAt name place m.starts.items → IsMachine m → vec_len m.readers < vec_capacity m.readers
pool_has_room name place m at is =
    let there : slice_get (map start_state m.starts.items) place ≡ Some (start_state at.start) = slice_get-map start_state m.starts.items place ∙ ap (option_map start_state) at.there in
    let runs = one_runs (map start_state m.starts.items) place (start_state at.start) there (open_shown at.start.connection at.start.produced.items at.start.stage at.opened) in
    omega (arith, runs, is.readers, is.room)
