-- What was asked of a start in its place is asked of it by name.
use Rattle.std.proofs.Common.{◌≡◌, ℕ, List, map, length, Option, Some, refl, sym, ap, subst, ◌∙◌}
use Rattle.std.specs.Prelude.{Result, Ok, Err, IfOk, OnErr, slice_get, slice_set, slice_index_or}
use Rattle.std.proofs.lemmas.List.{map-set}
use Rattle.std.proofs.lemmas.Option.{slice_get_read, slice_get_within}
use Rattle.std.proofs.Math.Seq.{map-set_same}
use Rattle.wal.specs.declared.record.Record.{Record}
use Rattle.world.specs.declared.printed.answer.Answer.{Answer}
use Rattle.world.specs.declared.printed.answer.Answer.TheVariants as answers
use Rattle.schedule.specs.declared.fault.WorldFault.{WorldFault}
use Rattle.world.specs.declared.stepping.action.Action.{Action}
use Rattle.world.specs.declared.stepping.action.Action.TheVariants as actions
use Rattle.walsender.specs.declared.fault.SendFault.TheVariants as sends
use Rattle.world.specs.declared.stepping.start.Start.{Start}
use Rattle.world.specs.declared.machine.Machine.{Machine}
use Rattle.world.specs.Start.{StartState}
use Rattle.world.specs.State.{SubscriberState, open_start}
use Rattle.world.specs.Acting.{Acts}
use Rattle.world.specs.ConnectionLines.{ActsAt, slots_after, subscribers_after}
use Rattle.world.specs.Starts.{start_state}
use Rattle.world.specs.Machine.{subscriber_state, ActsIn, IsOpenAt, IsOpenStartAt, IsSubscribed, world_of}
use Rattle.std.specs.List.{AllByRecursion}
use Rattle.world.proofs.Inside.{same_inside}
use Rattle.world.proofs.Subscribing.{all_subscribed_after}

-- ---- the same element of a list

pub one_there : {A : Type 0} (xs : List A) (k : ℕ) (x y : A) → slice_get xs k ≡ Some x → slice_get xs k ≡ Some y → x ≡ y
one_there xs k x y e f = same_inside x y (sym e ∙ f)

-- ---- starts

pub acted_in : {L : Type 0} (log : List Record) (place : ℕ) (action : Action) (cs : List (Start L)) (c new : Start L) (r : Result Answer WorldFault) → IsOpenAt place cs → c ≡ slice_index_or cs place c
    → IfOk r (λ a. Acts log action (start_state c) a (start_state new)) → IfOk r (λ a. ActsIn log place action cs a (slice_set cs place new))
acted_in log place action cs c new (Ok a) at value acts = record {
  before = c;
  after = start_state new;
  there = slice_get_read cs (length cs) place c refl (slice_get_within cs place at.start at.there) value;
  acts = acts;
  is = map-set start_state cs place new;
}
acted_in log place action cs c new (Err e) at value acts = tt

pub kept_starts : {L : Type 0} (cs : List (Start L)) (place : ℕ) (c new : Start L) (r : Result Answer WorldFault) → c ≡ slice_index_or cs place c → OnErr r (start_state new ≡ start_state c) → OnErr r (map start_state (slice_set cs place new) ≡ map start_state cs)
kept_starts cs place c new (Ok a) value same = tt
kept_starts cs place c new (Err e) value same = map-set_same start_state cs place new c (same ∙ ap start_state value)

pub acted_at : (name : List ℕ) (place : ℕ) (action : Action) {L : Type 0} (m : Machine L) (new : List (Start L)) (a : Answer) → IsOpenStartAt name place m.starts.items
    → ActsIn m.publisher.log place action m.starts.items a new → ActsAt name action (world_of m) a (record (world_of m) { slots = slots_after name action (world_of m).subscribers (world_of m).slots; starts = map start_state new; subscribers = subscribers_after name action (world_of m).subscribers })
acted_at name place action {L} m new a at acts =
    let here : at.start ≡ acts.before = one_there m.starts.items place at.start acts.before at.there acts.there in
    record {
      before = start_state acts.before;
      after = acts.after;
      there = at.of ∙ ap (λ (c : Start L). Option.Some (start_state c)) here;
      acts = acts.acts;
      is = ap (λ (l : List StartState). record (world_of m) { slots = slots_after name action (world_of m).subscribers (world_of m).slots; starts = l; subscribers = subscribers_after name action (world_of m).subscribers }) (acts.is ∙ sym (at.changed acts.after));
    }

-- what an act leaves is of the same connection
same_connection : (log : List Record) (action : Action) (old new : StartState) (a : Answer) → Acts log action old a new → new.connection ≡ old.connection
same_connection log (actions.Read max clock) old new answers.Done acts = ap (λ (s : StartState). s.connection) acts.1
same_connection log (actions.Keepalive clock) old new answers.Done acts = ap (λ (s : StartState). s.connection) acts.1
same_connection log (actions.Drain n) old new answers.Done acts = ap (λ (s : StartState). s.connection) acts.1
same_connection log actions.Cut old new answers.Done acts = ap (λ (s : StartState). s.connection) acts.1
same_connection log (actions.Read max clock) old new (answers.Sender sends.Memory) acts = ap (λ (s : StartState). s.connection) acts.1.is
same_connection log (actions.Keepalive clock) old new (answers.Sender sends.Memory) acts = ap (λ (s : StartState). s.connection) acts.1
same_connection log (actions.Drain n) old new (answers.Sender sends.Memory) acts = absurd acts.1
same_connection log actions.Cut old new (answers.Sender sends.Memory) acts = absurd acts.1
same_connection log (actions.Read max clock) old new (answers.Sender sends.ArenaFull) acts = ap (λ (s : StartState). s.connection) acts.1.is
same_connection log (actions.Keepalive clock) old new (answers.Sender sends.ArenaFull) acts = absurd acts.1
same_connection log (actions.Drain n) old new (answers.Sender sends.ArenaFull) acts = absurd acts.1
same_connection log actions.Cut old new (answers.Sender sends.ArenaFull) acts = absurd acts.1
same_connection log action old new (answers.Sender sends.Failed) acts = ap (λ (s : StartState). s.connection) acts.2
same_connection log action old new (answers.Sender sends.Gap) acts = absurd acts
same_connection log action old new (answers.Session fault) acts = absurd acts
same_connection log action old new (answers.Slot fault) acts = absurd acts
same_connection log action old new (answers.Publication fault) acts = absurd acts
same_connection log action old new answers.NoReader acts = absurd acts
same_connection log action old new answers.Removed acts = absurd acts
same_connection log action old new (answers.Front place) acts = absurd acts
same_connection log action old new (answers.Subscriber fault) acts = absurd acts

-- each start goes on having a subscriber
pub subscribed_on : (name : List ℕ) (place : ℕ) (action : Action) {L : Type 0} (m : Machine L) (new : List (Start L)) (a : Answer) → IsOpenStartAt name place m.starts.items → ActsIn m.publisher.log place action m.starts.items a new
    → AllByRecursion (IsSubscribed (map subscriber_state m.subscribers.items)) (map start_state m.starts.items) → AllByRecursion (IsSubscribed (map subscriber_state m.subscribers.items)) (map start_state new)
subscribed_on name place action {L} m new a at acts all =
    let here : at.start ≡ acts.before = one_there m.starts.items place at.start acts.before at.there acts.there in
    let ss : List SubscriberState = map subscriber_state m.subscribers.items in
    let told : Option.Some (start_state acts.before) ≡ open_start name (map start_state m.starts.items) = ap (λ (c : Start L). Option.Some (start_state c)) (sym here) ∙ sym at.of in
    let same : acts.after.connection ≡ (start_state acts.before).connection = same_connection m.publisher.log action (start_state acts.before) acts.after a acts.acts in
    let P : List StartState → Type 0 = λ l. AllByRecursion (IsSubscribed ss) l in
    subst P (sym (acts.is ∙ sym (at.changed acts.after)))
    (all_subscribed_after name ss acts.after (map start_state m.starts.items)
    (λ s found. same ∙ ap (λ (x : StartState). x.connection) (same_inside (start_state acts.before) s (told ∙ found))) all)
