use Rattle.std.proofs.Common.{ap, map, sym, ◌∙◌, arith}
use Rattle.world.specs.Machine.{subscriber_state}
use Rattle.world.specs.State.{SubscriberState}
use Rattle.world.proofs.Naming.{place_within, still_named}
use Rattle.world.proofs.Subscribing.{no_slot_there, none_again, placed_again, slot_there, subscriber_at}
use Rattle.world.proofs.subscriber.reconnect.Goals as goal

pub returns-in-Some-clause-again : goal.returns-in-Some-clause-again
returns-in-Some-clause-again c =
    let at = subscriber_at c.args.connection.now c.args.subscribers.now.items c.in-Some.place (sym (c.place_of.ensures c.args.subscribers.now.items c.requires) ∙ c.in-Some.is) in
    placed_again c.args.connection.now c.in-Some.place c.args.subscribers.now.items c.index_mut.result.now c.reconnect.new.self at c.index_mut.ensures.value c.reconnect.ensures.again

pub returns-in-Some-clause-slot : goal.returns-in-Some-clause-slot
returns-in-Some-clause-slot c =
    let at = subscriber_at c.args.connection.now c.args.subscribers.now.items c.in-Some.place (sym (c.place_of.ensures c.args.subscribers.now.items c.requires) ∙ c.in-Some.is) in
    c.reconnect.ensures.slot ∙ slot_there c.args.connection.now c.in-Some.place c.args.subscribers.now.items c.index_mut.result.now at c.index_mut.ensures.value

pub returns-in-None : goal.returns-in-None
returns-in-None c =
    let none = sym (c.place_of.ensures c.args.subscribers.now.items c.requires) ∙ c.in-None.is in
    record { named = c.requires; again = none_again c.args.connection.now (map subscriber_state c.args.subscribers.now.items) none; slot = no_slot_there c.args.connection.now (map subscriber_state c.args.subscribers.now.items) none }

pub returns-in-Some-clause-named : goal.returns-in-Some-clause-named
returns-in-Some-clause-named c =
    still_named c.args.names.now c.in-Some.place c.args.subscribers.now.items c.index_mut.result.now c.reconnect.new.self c.index_mut.ensures.value (ap (λ (s : SubscriberState). s.connection) c.reconnect.ensures.again) c.requires

pub index_mut-requires : goal.index_mut-requires
index_mut-requires c = omega (arith, place_within c.args.connection.now c.in-Some.place c.args.subscribers.now.items (sym (c.place_of.ensures c.args.subscribers.now.items c.requires) ∙ c.in-Some.is))
