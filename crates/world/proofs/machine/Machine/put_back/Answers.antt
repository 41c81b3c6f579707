use Rattle.std.proofs.Common.{List, map, sym, ap, subst, ◌∙◌, arith}
use Rattle.std.specs.List.{AllByRecursion}
use Rattle.std.specs.Int.{w64}
use Rattle.std.proofs.lemmas.Int.{to_z-of_z}
use Rattle.world.specs.State.{SubscriberState}
use Rattle.world.specs.Machine.{IsSubscribed, subscriber_state, world_of}
use Rattle.world.specs.Starts.{start_state}
use Rattle.world.proofs.Naming.{place_within, still_named}
use Rattle.world.proofs.Openings.{none_open, open_at}
use Rattle.world.proofs.PipesBack.{on_err, puts_back, same_states}
use Rattle.world.proofs.Subscribing.{has_place, open_subscribed, still_subscribed, subscriber_at}
use Rattle.world.proofs.machine.Machine.put_back.Goals as goal

pub returns-in_default-clause-bad : goal.returns-in_default-clause-bad
returns-in_default-clause-bad g c = λ same. c.places_of.ensures.none c.in_default.is

pub returns-in_err-put_back-clause-err : goal.returns-in_err-put_back-clause-err
returns-in_err-put_back-clause-err g c =
    on_err c.from_residual.result _
    (ap (λ (l : List SubscriberState). record (world_of c.args.self.now) { subscribers = l }) (same_states c.in-Some.at c.args.self.now.subscribers.items c.index_mut.result.now c.put_back.new.self c.index_mut.ensures.value c.in_err-put_back.ensures.err))

pub returns-in_err-put_back-clause-machine : goal.returns-in_err-put_back-clause-machine
returns-in_err-put_back-clause-machine g c = record {
  good = c.requires.machine.good;
  served = c.requires.machine.served;
  found = c.requires.machine.found;
  subscribed = subst (λ (l : List SubscriberState). AllByRecursion (IsSubscribed l) (map start_state c.args.self.now.starts.items))
      (sym (same_states c.in-Some.at c.args.self.now.subscribers.items c.index_mut.result.now c.put_back.new.self c.index_mut.ensures.value c.in_err-put_back.ensures.err)) c.requires.machine.subscribed;
  named = still_named c.args.self.now.names c.in-Some.at c.args.self.now.subscribers.items c.index_mut.result.now c.put_back.new.self c.index_mut.ensures.value (ap (λ (s : SubscriberState). s.connection) c.in_err-put_back.ensures.err) c.requires.machine.named;
  readers = c.requires.machine.readers;
  room = c.requires.machine.room;
}

pub returns-clause-puts : goal.returns-clause-puts
returns-clause-puts g c =
    let at = c.in-Some.ensures.start in
    let one = subscriber_at c.args.name.now c.args.self.now.subscribers.items c.in-Some.at c.in-Some.ensures.subscriber in
    puts_back c.args.name.now c.args.flushed c.args.clock c.in-Some.field-0-0 c.in-Some.at c.args.self.now c.index_mut.result.now c.put_back.new.self at one c.index_mut.ensures.value
    (rw (to_z-of_z w64 c.args.clock c.ranges.clock) at c.in_ok-put_back.ensures.ok)

pub returns-clause-machine : goal.returns-clause-machine
returns-clause-machine g c =
    let one = subscriber_at c.args.name.now c.args.self.now.subscribers.items c.in-Some.at c.in-Some.ensures.subscriber in
    record {
      good = c.requires.machine.good;
      served = c.requires.machine.served;
      found = c.requires.machine.found;
      subscribed = still_subscribed c.args.name.now c.in-Some.at c.args.self.now c.index_mut.result.now c.put_back.new.self one c.index_mut.ensures.value (ap (λ (s : SubscriberState). s.connection) c.in_ok-put_back.ensures.ok) c.requires.machine.subscribed;
      named = still_named c.args.self.now.names c.in-Some.at c.args.self.now.subscribers.items c.index_mut.result.now c.put_back.new.self c.index_mut.ensures.value (ap (λ (s : SubscriberState). s.connection) c.in_ok-put_back.ensures.ok) c.requires.machine.named;
      readers = c.requires.machine.readers;
      room = c.requires.machine.room;
    }

pub index_mut-requires : goal.index_mut-requires
index_mut-requires g c = omega (arith, place_within c.args.name.now c.in-Some.at c.args.self.now.subscribers.items c.in-Some.ensures.subscriber)
