use Rattle.std.proofs.Common.{◌<◌, length, map, rules, sym, ◌∙◌}
use Rattle.world.specs.Machine.{subscriber_state}
use Rattle.world.proofs.Naming.{place_within}
use Rattle.world.proofs.PipesBack.{none_waits, waits_there}
use Rattle.world.proofs.subscriber.has_status.Goals as goal

pub returns-in-Some : goal.returns-in-Some
returns-in-Some c =
    c.is_waiting.ensures ∙ waits_there c.args.connection.now c.in-Some.place c.args.subscribers.now c.index-subscribers-place.result (sym (c.place_of.ensures c.args.subscribers.now c.requires) ∙ c.in-Some.is) c.index-subscribers-place.is

pub returns-in-None : goal.returns-in-None
returns-in-None c = none_waits c.args.connection.now (map subscriber_state c.args.subscribers.now) (sym (c.place_of.ensures c.args.subscribers.now c.requires) ∙ c.in-None.is)

pub bounds-subscribers-place : goal.bounds-subscribers-place
bounds-subscribers-place c = place_within c.args.connection.now c.in-Some.place c.args.subscribers.now (sym (c.place_of.ensures c.args.subscribers.now c.requires) ∙ c.in-Some.is)

pub offset_bounds-subscribers-place : goal.offset_bounds-subscribers-place
offset_bounds-subscribers-place c =
    let below : c.in-Some.place < length c.args.subscribers.now = place_within c.args.connection.now c.in-Some.place c.args.subscribers.now (sym (c.place_of.ensures c.args.subscribers.now c.requires) ∙ c.in-Some.is) in
    search rules
