use Rattle.std.proofs.Common.{map, sym, ◌∙◌}
use Rattle.world.specs.Starts.{start_state}
use Rattle.world.specs.Machine.{subscriber_state}
use Rattle.world.proofs.Openings.{none_open, open_at}
use Rattle.world.proofs.Subscribing.{has_place, open_subscribed}
use Rattle.world.proofs.machine.Machine.places_of.Goals as goal

pub returns-in_default-clause-none : goal.returns-in_default-clause-none
returns-in_default-clause-none g c = λ same.
    none_open c.args.name.now _ c.args.self.now.opened.items c.requires.machine.found (rw (c.as_slice.ensures.value, c.as_slice-2.ensures.value) at (sym c.place_among-found.ensures ∙ c.in_default.is))

pub unreachable-requires : goal.unreachable-requires
unreachable-requires g c =
    let at = open_at c.args.name.now c.args.self.now.starts.items c.args.self.now.opened.items c.in-Some.place c.requires.machine.found
    (rw (c.as_slice.ensures.value, c.as_slice-2.ensures.value) at (sym c.place_among-found.ensures ∙ c.in-Some.is)) in
    let has = open_subscribed c.args.name.now (map subscriber_state c.args.self.now.subscribers.items) (map start_state c.args.self.now.starts.items) (start_state at.start) c.requires.machine.subscribed at.of in
    has_place c.args.name.now (map subscriber_state c.args.self.now.subscribers.items) has (sym (c.place_of.ensures c.args.self.now.subscribers.items c.requires.machine.named) ∙ c.in_default-place_of.is)

pub returns-clause-start : goal.returns-clause-start
returns-clause-start g c =
    open_at c.args.name.now c.args.self.now.starts.items c.args.self.now.opened.items c.in-Some.place c.requires.machine.found
    (rw (c.as_slice.ensures.value, c.as_slice-2.ensures.value) at (sym c.place_among-found.ensures ∙ c.in-Some.is))

pub returns-clause-subscriber : goal.returns-clause-subscriber
returns-clause-subscriber g c = sym (c.place_of.ensures c.args.self.now.subscribers.items c.requires.machine.named) ∙ c.in-Some-place_of.is
