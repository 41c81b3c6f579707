use Rattle.std.proofs.Common.{ℕ, min, List, Bool, length, map, sym, ap, subst, ◌∙◌, arith}
use Rattle.std.specs.Prelude.{◌&&◌, is_some}
use Rattle.std.specs.List.{AllByRecursion}
use Rattle.std.proofs.lemmas.Option.{slice_get_within}
use Rattle.world.specs.State.{SubscriberState, open_start, subscriber_of}
use Rattle.slots.specs.Words.{slots_after_confirming}
use Rattle.world.specs.Slots.{has_status, is_waiting}
use Rattle.world.specs.Machine.{IsSubscribed, subscriber_state, world_of}
use Rattle.world.specs.Starts.{start_state}
use Rattle.world.proofs.Naming.{place_within, still_named}
use Rattle.world.proofs.Openings.{none_open, open_at}
use Rattle.world.proofs.PipesBack.{acknowledges, and_none, no_start, same_states, waits_there}
use Rattle.world.proofs.Subscribing.{has_place, open_subscribed, still_subscribed, subscriber_at}
use Rattle.world.proofs.machine.Machine.acknowledge.Goals as goal

pub returns-in_default-clause-bad : goal.returns-in_default-clause-bad
returns-in_default-clause-bad g c = λ same.
    no_start (open_start c.args.name.now (map start_state c.args.self.now.starts.items)) (has_status (subscriber_of c.args.name.now (map subscriber_state c.args.self.now.subscribers.items))) (c.places_of.ensures.none c.in_default.is)

pub returns-in_default-next_status-clause-bad : goal.returns-in_default-next_status-clause-bad
returns-in_default-next_status-clause-bad g c = λ same.
    let waits = waits_there c.args.name.now c.in-Some.at c.args.self.now.subscribers.items c.index_mut-subscriber.result.now c.in-Some.ensures.subscriber c.index_mut-subscriber.ensures.value in
    let opened : Bool = is_some (open_start c.args.name.now (map start_state c.args.self.now.starts.items)) in
    ap (λ (b : Bool). opened && b) (sym waits ∙ ap is_waiting c.in_default-next_status.ensures.0) ∙ and_none opened

pub returns-in_default-next_status-clause-err : goal.returns-in_default-next_status-clause-err
returns-in_default-next_status-clause-err g c =
    ap (λ (l : List SubscriberState). record (world_of c.args.self.now) { subscribers = l })
    (same_states c.in-Some.at c.args.self.now.subscribers.items c.index_mut-subscriber.result.now c.next_status.new.self c.index_mut-subscriber.ensures.value c.in_default-next_status.ensures.1)

pub returns-in_default-next_status-clause-machine : goal.returns-in_default-next_status-clause-machine
returns-in_default-next_status-clause-machine g c = record {
  good = c.requires.machine.good;
  served = c.requires.machine.served;
  found = c.requires.machine.found;
  subscribed = subst (λ (l : List SubscriberState). AllByRecursion (IsSubscribed l) (map start_state c.args.self.now.starts.items))
      (sym (same_states c.in-Some.at c.args.self.now.subscribers.items c.index_mut-subscriber.result.now c.next_status.new.self c.index_mut-subscriber.ensures.value c.in_default-next_status.ensures.1)) c.requires.machine.subscribed;
  named = still_named c.args.self.now.names c.in-Some.at c.args.self.now.subscribers.items c.index_mut-subscriber.result.now c.next_status.new.self c.index_mut-subscriber.ensures.value (ap (λ (s : SubscriberState). s.connection) c.in_default-next_status.ensures.1) c.requires.machine.named;
  readers = c.requires.machine.readers;
  room = c.requires.machine.room;
}

pub index-requires : goal.index-requires
index-requires g c =
    let at = c.in-Some.ensures.start in
    omega (arith, slice_get_within c.args.self.now.starts.items c.in-Some.place at.start at.there)

pub returns-clause-acknowledges : goal.returns-clause-acknowledges
returns-clause-acknowledges g c =
    let at = c.in-Some.ensures.start in
    let one = subscriber_at c.args.name.now c.args.self.now.subscribers.items c.in-Some.at c.in-Some.ensures.subscriber in
    let status = c.in-Some-next_status.status in
    let new = c.next_status.new.self in
    acknowledges c.args.name.now c.in-Some.place c.in-Some.at c.args.self.now c.index.result.now c.index_mut-subscriber.result.now new status c.confirm.new.slots at c.index.ensures one c.index_mut-subscriber.ensures.value
    c.in-Some-next_status.ensures.0 c.in-Some-next_status.ensures.1
    (c.confirm.ensures ∙ ap (λ (n : ℕ). slots_after_confirming new.slot n c.args.self.now.slots) (c.min.ensures ∙ ap (λ (n : ℕ). min status.flushed n) c.position-read.ensures))

pub returns-clause-machine : goal.returns-clause-machine
returns-clause-machine g c =
    let one = subscriber_at c.args.name.now c.args.self.now.subscribers.items c.in-Some.at c.in-Some.ensures.subscriber in
    record {
      good = c.requires.machine.good;
      served = c.requires.machine.served;
      found = c.requires.machine.found;
      subscribed = still_subscribed c.args.name.now c.in-Some.at c.args.self.now c.index_mut-subscriber.result.now c.next_status.new.self one c.index_mut-subscriber.ensures.value
          (ap (λ (s : SubscriberState). s.connection) c.in-Some-next_status.ensures.1) c.requires.machine.subscribed;
      named = still_named c.args.self.now.names c.in-Some.at c.args.self.now.subscribers.items c.index_mut-subscriber.result.now c.next_status.new.self c.index_mut-subscriber.ensures.value (ap (λ (s : SubscriberState). s.connection) c.in-Some-next_status.ensures.1) c.requires.machine.named;
      readers = c.requires.machine.readers;
      room = c.requires.machine.room;
    }

pub index_mut-subscriber-requires : goal.index_mut-subscriber-requires
index_mut-subscriber-requires g c = omega (arith, place_within c.args.name.now c.in-Some.at c.args.self.now.subscribers.items c.in-Some.ensures.subscriber)
