use Rattle.std.proofs.Common.{arith, length, map, sym, ap, ◌∙◌}
use Rattle.std.proofs.lemmas.Option.{slice_get_within}
use Rattle.world.specs.State.{SubscriberState}
use Rattle.world.specs.Starts.{start_state}
use Rattle.world.specs.Machine.{subscriber_state}
use Rattle.world.proofs.Naming.{place_within, still_named}
use Rattle.world.proofs.Openings.{none_open, open_at}
use Rattle.world.proofs.Subscribing.{delivered, has_place, open_subscribed, still_subscribed, subscriber_at}
use Rattle.world.proofs.machine.Machine.deliver.Goals as goal

pub returns-in_default-clause-bad : goal.returns-in_default-clause-bad
returns-in_default-clause-bad g c = λ same. c.places_of.ensures.none c.in_default.is

pub index-start-requires : goal.index-start-requires
index-start-requires g c =
    let at = c.in-Some.ensures.start in
    omega (arith, slice_get_within c.args.self.now.starts.items c.in-Some.place at.start at.there)

pub returns-clause-delivers : goal.returns-clause-delivers
returns-clause-delivers g c =
    let at = c.in-Some.ensures.start in
    let one = subscriber_at c.args.name.now c.args.self.now.subscribers.items c.in-Some.at c.in-Some.ensures.subscriber in
    delivered c.args.name.now c.args.max c.in-Some.place c.in-Some.at c.args.self.now c.index-start.result.now c.index_mut.result.now c.take.new.self c.produced.result.now c.take.result
    at c.index-start.ensures c.produced.ensures one c.index_mut.ensures.value c.take.ensures

pub returns-clause-machine : goal.returns-clause-machine
returns-clause-machine g c =
    let one = subscriber_at c.args.name.now c.args.self.now.subscribers.items c.in-Some.at c.in-Some.ensures.subscriber in
    record {
      good = c.requires.machine.good;
      served = c.requires.machine.served;
      found = c.requires.machine.found;
      subscribed = still_subscribed c.args.name.now c.in-Some.at c.args.self.now c.index_mut.result.now c.take.new.self one c.index_mut.ensures.value (ap (λ (s : SubscriberState). s.connection) c.take.ensures.is) c.requires.machine.subscribed;
      named = still_named c.args.self.now.names c.in-Some.at c.args.self.now.subscribers.items c.index_mut.result.now c.take.new.self c.index_mut.ensures.value (ap (λ (s : SubscriberState). s.connection) c.take.ensures.is) c.requires.machine.named;
      readers = c.requires.machine.readers;
      room = c.requires.machine.room;
    }

pub index_mut-requires : goal.index_mut-requires
index_mut-requires g c = omega (arith, place_within c.args.name.now c.in-Some.at c.args.self.now.subscribers.items c.in-Some.ensures.subscriber)
