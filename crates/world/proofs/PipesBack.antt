-- What statuses do to the subscriber of a connection in its place, and to its slot.
use Rattle.std.proofs.Common.{◌≡◌, ◌<◌, ℕ, ℤ, min, Bool, true, false, List, [], ◌∷◌, ◌++◌, length, map, Option, Some, None, refl, sym, ap, ◌∙◌}
use Rattle.std.specs.Prelude.{◌&&◌, Result, Ok, Err, IsNone, OnErr, OnOk, is_some, slice_set, slice_index_or}
use Rattle.std.proofs.lemmas.Option.{slice_get_read, slice_get_within}
use Rattle.std.proofs.Math.Seq.{map-set_same}
use Rattle.copyboth.specs.declared.status.Status.{Status}
use Rattle.slots.specs.State.{SlotsState}
use Rattle.world.specs.declared.printed.answer.Answer.TheVariants as answers
use Rattle.world.specs.declared.machine.Machine.{Machine}
use Rattle.world.specs.declared.stepping.start.Start.{Start}
use Rattle.world.specs.declared.subscriber.Subscriber.{Subscriber}
use Rattle.world.specs.State.{SubscriberState, subscriber_of, with_subscriber}
use Rattle.world.specs.Slots.{Acknowledges, PutsBack, has_status, is_waiting, status_with}
use Rattle.slots.specs.Words.{slots_after_confirming}
use Rattle.world.specs.Machine.{IsOpenStartAt, IsSubscriberAt, subscriber_state, world_of}
use Rattle.world.specs.Starts.{start_state}
use Rattle.world.proofs.Inside.{same_inside}
use Rattle.world.proofs.Subscribing.{no_subscriber, placed, subscriber_at, the_one}
use Rattle.world.specs.Machine.{subscriber_place}

pub same_states : (place : ℕ) (ss : List Subscriber) (old new : Subscriber) → old ≡ slice_index_or ss place old → subscriber_state new ≡ subscriber_state old → map subscriber_state (slice_set ss place new) ≡ map subscriber_state ss
same_states place ss old new value same = map-set_same subscriber_state ss place new old (same ∙ ap subscriber_state value)

-- the subscriber that was found by its name
pub known_there : (name : List ℕ) (place : ℕ) (ss : List Subscriber) (old : Subscriber) → IsSubscriberAt name place ss → old ≡ slice_index_or ss place old → subscriber_of name (map subscriber_state ss) ≡ Some (subscriber_state old)
known_there name place ss old at value = at.of ∙ ap (λ (s : Subscriber). Option.Some (subscriber_state s)) (the_one name place ss old at value)

pub waits_there : (name : List ℕ) (place : ℕ) (ss : List Subscriber) (s : Subscriber) → subscriber_place 0 name (map subscriber_state ss) ≡ Some place → s ≡ slice_index_or ss place s
    → is_waiting (subscriber_state s).back ≡ has_status (subscriber_of name (map subscriber_state ss))
waits_there name place ss s found value = ap has_status (sym (known_there name place ss s (subscriber_at name ss place found) value))

pub none_waits : (name : List ℕ) (ss : List SubscriberState) → subscriber_place 0 name ss ≡ None → false ≡ has_status (subscriber_of name ss)
none_waits name ss none = ap has_status (sym (no_subscriber name ss none))

start_there : (name : List ℕ) (place : ℕ) {L : Type 0} (cs : List (Start L)) (start : Start L) → (at : IsOpenStartAt name place cs) → start ≡ slice_index_or cs place start → at.start ≡ start
start_there name place cs start at value =
    let within : place < length cs = slice_get_within cs place at.start at.there in
    same_inside at.start start (sym at.there ∙ slice_get_read cs (length cs) place start refl within value)

pub puts_back : (name : List ℕ) (flushed : Option ℕ) (clock : ℤ) (at_start place : ℕ) {L : Type 0} (m : Machine L) (old new : Subscriber) → IsOpenStartAt name at_start m.starts.items
    → IsSubscriberAt name place m.subscribers.items → old ≡ slice_index_or m.subscribers.items place old
    → subscriber_state new ≡ record (subscriber_state old) { back = (subscriber_state old).back ++ status_with flushed clock (subscriber_state old).applier.subscriber.position ∷ [] }
    → PutsBack name (status_with flushed clock) (world_of m) answers.Done (record (world_of m) { subscribers = map subscriber_state (slice_set m.subscribers.items place new) })
puts_back name flushed clock at_start place m old new opened at value is = record {
  start = start_state opened.start;
  there = opened.of;
  before = subscriber_state old;
  known = known_there name place m.subscribers.items old at value;
  done = refl;
  is = ap (λ (l : List SubscriberState). record (world_of m) { subscribers = l }) (placed name place m.subscribers.items new at ∙ ap (λ (s : SubscriberState). with_subscriber name s (map subscriber_state m.subscribers.items)) is);
}

pub acknowledges : (name : List ℕ) (at_start place : ℕ) {L : Type 0} (m : Machine L) (start : Start L) (old new : Subscriber) (status : Status) (slots : SlotsState) → IsOpenStartAt name at_start m.starts.items
    → start ≡ slice_index_or m.starts.items at_start start → IsSubscriberAt name place m.subscribers.items → old ≡ slice_index_or m.subscribers.items place old
    → (subscriber_state old).back ≡ status ∷ (subscriber_state new).back → subscriber_state new ≡ record (subscriber_state old) { back = (subscriber_state new).back }
    → slots ≡ slots_after_confirming new.slot (min status.flushed (start_state start).position) m.slots
    → Acknowledges name (world_of m) answers.Done (record (world_of m) { slots = slots; subscribers = map subscriber_state (slice_set m.subscribers.items place new) })
acknowledges name at_start place {L} m start old new status slots opened start_value at value waits is confirmed =
    record {
      start = start_state start;
      there = opened.of ∙ ap (λ (s : Start L). Option.Some (start_state s)) (start_there name at_start m.starts.items start opened start_value);
      before = subscriber_state old;
      known = known_there name place m.subscribers.items old at value;
      status = status;
      rest = (subscriber_state new).back;
      waits = waits;
      done = refl;
      is = ap (λ (s : SlotsState). record (world_of m) { slots = s; subscribers = map subscriber_state (slice_set m.subscribers.items place new) })
          (confirmed ∙ ap (λ (s : SubscriberState). slots_after_confirming s.slot (min status.flushed (start_state start).position) m.slots) is)
          ∙ ap (λ (l : List SubscriberState). record (world_of m) { slots = slots_after_confirming old.slot (min status.flushed (start_state start).position) m.slots; subscribers = l })
          (placed name place m.subscribers.items new at ∙ ap (λ (s : SubscriberState). with_subscriber name s (map subscriber_state m.subscribers.items)) is);
    }

pub and_none : (b : Bool) → (b && false) ≡ false
and_none true = refl
and_none false = refl

pub no_start : {A : Type 0} (o : Option A) (b : Bool) → IsNone o → (is_some o && b) ≡ false
no_start None b none = refl
no_start (Some x) b none = absurd cc

pub on_err : {A E : Type 0} (r : Result A E) (P : Type 0) → P → OnErr r P
on_err (Ok x) P is = tt
on_err (Err e) P is = is

pub on_ok : {A E B C : Type 0} (r : Result A E) (f : B → C) (x y z : B) → OnOk r (x ≡ y) → y ≡ z → OnOk r (f x ≡ f z)
on_ok (Ok u) f x y z is same = ap f (is ∙ same)
on_ok (Err e) f x y z is same = tt
