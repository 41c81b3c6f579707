use Rattle.std.proofs.Common.{◌++◌, ◌∷◌, [], map, ap, sym, ◌∙◌, arith}
use Rattle.std.proofs.lemmas.List.{map-append}
use Rattle.world.specs.State.{SubscriberState}
use Rattle.world.specs.Machine.{subscriber_state}
use Rattle.world.proofs.Naming.{is_new, named_more, place_within, still_named}
use Rattle.world.proofs.Subscribing.{joined_known, joined_new, subscriber_at}
use Rattle.world.proofs.subscriber.subscribe.Goals as goal

pub returns-in-Some : goal.returns-in-Some
returns-in-Some c =
    let at = subscriber_at c.args.new.connection c.args.subscribers.now.items c.in-Some.place (sym (c.place_of.ensures c.args.subscribers.now.items c.requires.named) ∙ c.in-Some.is) in
    record {
      joined = joined_known c.args.new.connection c.in-Some.place c.args.new.slot c.args.subscribers.now.items c.index_mut.result.now c.stream_from.new.self at c.index_mut.ensures.value c.stream_from.ensures;
      named = still_named c.args.names.now c.in-Some.place c.args.subscribers.now.items c.index_mut.result.now c.stream_from.new.self c.index_mut.ensures.value (ap (λ (s : SubscriberState). s.connection) c.stream_from.ensures) c.requires.named;
    }

pub returns-in-None : goal.returns-in-None
returns-in-None c =
    let ss = map subscriber_state c.args.subscribers.now.items in
    record {
      joined = ap (map subscriber_state) c.push_reserved.ensures.items ∙ map-append subscriber_state c.args.subscribers.now.items (c.args.new ∷ [])
          ∙ ap (λ (s : SubscriberState). ss ++ s ∷ []) c.requires.fresh ∙ joined_new c.args.new.connection c.args.new.slot ss (sym (c.place_of.ensures c.args.subscribers.now.items c.requires.named) ∙ c.in-None.is);
      named = named_more c.args.names.now.keys c.add_name.new.names.keys c.args.name c.args.subscribers.now.items c.push_reserved.new.self.items c.args.new c.requires.named c.requires.name c.add_name.ensures c.push_reserved.ensures.items;
    }

pub index_mut-requires : goal.index_mut-requires
index_mut-requires c = omega (arith, place_within c.args.new.connection c.in-Some.place c.args.subscribers.now.items (sym (c.place_of.ensures c.args.subscribers.now.items c.requires.named) ∙ c.in-Some.is))

pub add_name-requires-clause-new : goal.add_name-requires-clause-new
add_name-requires-clause-new c = is_new c.args.names.now c.args.name c.args.new.connection c.args.subscribers.now.items c.requires.named c.requires.name (sym (c.place_of.ensures c.args.subscribers.now.items c.requires.named) ∙ c.in-None.is)
