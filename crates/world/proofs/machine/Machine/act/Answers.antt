use Rattle.std.proofs.Common.{◌≡◌, ℕ, List, Option, map, sym, ap, subst, ◌∙◌}
use Rattle.std.specs.List.{AllByRecursion}
use Rattle.world.specs.declared.stepping.action.Action.{Action}
use Rattle.slots.specs.State.{SlotsState}
use Rattle.world.specs.State.{SubscriberState, WorldState}
use Rattle.slots.specs.Words.{slots_after_letting_go}
use Rattle.world.specs.ConnectionLines.{ActsAt, slots_after, subscribers_after}
use Rattle.world.specs.Machine.{ActsIn, IsSubscribed, subscriber_state, world_of}
use Rattle.world.specs.Starts.{start_state}
use Rattle.world.proofs.Openings.{open_at, none_open}
use Rattle.world.proofs.Asking.{acted_at, subscribed_on}
use Rattle.world.proofs.Subscribing.{all_reconnected}
use Rattle.world.proofs.Machines.{found_on, found_less, kept_slots, kept_subscribers, no_cut, pool_has_room}
use Rattle.world.proofs.machine.Machine.act.Goals as goal

pub returns-in_default-clause-bad : goal.returns-in_default-clause-bad
returns-in_default-clause-bad g c = λ same.
    none_open c.args.name.now _ c.args.self.now.opened.items c.requires.machine.found (rw (c.as_slice.ensures.value, c.as_slice-2.ensures.value) at (sym c.place_among-found.ensures ∙ c.in_default.is))

pub act_at-requires-clause-opened : goal.act_at-requires-clause-opened
act_at-requires-clause-opened g c =
    let at = open_at c.args.name.now c.args.self.now.starts.items c.args.self.now.opened.items c.in-Some.place c.requires.machine.found
    (rw (c.as_slice.ensures.value, c.as_slice-2.ensures.value) at (sym c.place_among-found.ensures ∙ c.in-Some.is)) in
    record { start = at.start; there = at.there; opened = at.opened }

pub act_at-requires-clause-room : goal.act_at-requires-clause-room
act_at-requires-clause-room g c =
    let at = open_at c.args.name.now c.args.self.now.starts.items c.args.self.now.opened.items c.in-Some.place c.requires.machine.found
    (rw (c.as_slice.ensures.value, c.as_slice-2.ensures.value) at (sym c.place_among-found.ensures ∙ c.in-Some.is)) in
    pool_has_room c.args.name.now c.in-Some.place c.args.self.now at c.requires.machine

pub returns-in-Cut-clause-acts : goal.returns-in-Cut-clause-acts
returns-in-Cut-clause-acts g c =
    let at = open_at c.args.name.now c.args.self.now.starts.items c.args.self.now.opened.items c.in-Some.place c.requires.machine.found
    (rw (c.as_slice.ensures.value, c.as_slice-2.ensures.value) at (sym c.place_among-found.ensures ∙ c.in-Some.is)) in
    let did = acted_at c.args.name.now c.in-Some.place c.args.action c.args.self.now c.act_at.new.starts.items c.in_ok-answer.answer at c.in_ok-answer.ensures.acts in
    let before = map subscriber_state c.args.self.now.subscribers.items in
    let subscribers : subscribers_after c.args.name.now c.args.action before ≡ map subscriber_state c.reconnect-slot.new.subscribers.items =
    ap (λ (action : Action). subscribers_after c.args.name.now action before) c.in-Cut.is ∙ sym c.reconnect-slot.ensures.again in
    let slots : slots_after c.args.name.now c.args.action before c.args.self.now.slots ≡ c.let_go.new.slots =
    ap (λ (action : Action). slots_after c.args.name.now action before c.args.self.now.slots) c.in-Cut.is ∙ ap (λ (slot : Option (List ℕ)). slots_after_letting_go slot c.args.self.now.slots) (sym c.reconnect-slot.ensures.slot) ∙ sym c.let_go.ensures in
    let after : SlotsState → List SubscriberState → WorldState = λ s l. record (world_of c.args.self.now) { slots = s; starts = map start_state c.act_at.new.starts.items; subscribers = l } in
    rw c.act_at.ensures.same (subst (λ (l : List SubscriberState). ActsAt c.args.name.now c.args.action (world_of c.args.self.now) c.in_ok-answer.answer (after c.let_go.new.slots l)) subscribers
    (subst (λ (s : SlotsState). ActsAt c.args.name.now c.args.action (world_of c.args.self.now) c.in_ok-answer.answer (after s (subscribers_after c.args.name.now c.args.action before))) slots did))

pub returns-in-Cut-clause-machine : goal.returns-in-Cut-clause-machine
returns-in-Cut-clause-machine g c =
    let log = c.args.self.now.publisher.log in
    let at = open_at c.args.name.now c.args.self.now.starts.items c.args.self.now.opened.items c.in-Some.place c.requires.machine.found
    (rw (c.as_slice.ensures.value, c.as_slice-2.ensures.value) at (sym c.place_among-found.ensures ∙ c.in-Some.is)) in
    let P : Action → Type 0 = λ action. ActsIn log c.in-Some.place action c.args.self.now.starts.items c.in_ok-answer.answer c.act_at.new.starts.items in
    record {
      good = rw c.act_at.ensures.same c.requires.machine.good;
      served = rw c.act_at.ensures.same c.act_at.ensures.all;
      found = c.close.ensures
          ∙ found_less log c.args.name.now c.in-Some.place c.args.self.now.starts.items c.act_at.new.starts.items c.args.self.now.opened.items c.in_ok-answer.answer at (subst P c.in-Cut.is c.in_ok-answer.ensures.acts) c.requires.machine.found;
      subscribed =
          let kept = subscribed_on c.args.name.now c.in-Some.place c.args.action c.args.self.now c.act_at.new.starts.items c.in_ok-answer.answer at c.in_ok-answer.ensures.acts c.requires.machine.subscribed in
          let again = all_reconnected c.args.name.now (map subscriber_state c.args.self.now.subscribers.items) (map start_state c.act_at.new.starts.items) kept in
          subst (λ (l : List SubscriberState). AllByRecursion (IsSubscribed l) (map start_state c.act_at.new.starts.items)) (sym c.reconnect-slot.ensures.again) again;
      named = c.reconnect-slot.ensures.named;
      readers = c.act_at.ensures.readers ∙ c.requires.machine.readers;
      room = rw c.act_at.ensures.capacity c.requires.machine.room;
    }

pub returns-in_default-action : goal.returns-in_default-action
returns-in_default-action g c =
    let log = c.args.self.now.publisher.log in
    let before = map subscriber_state c.args.self.now.subscribers.items in
    let after : SlotsState → List SubscriberState → WorldState = λ s l. record (world_of c.args.self.now) { slots = s; starts = map start_state c.act_at.new.starts.items; subscribers = l } in
    let at = open_at c.args.name.now c.args.self.now.starts.items c.args.self.now.opened.items c.in-Some.place c.requires.machine.found
    (rw (c.as_slice.ensures.value, c.as_slice-2.ensures.value) at (sym c.place_among-found.ensures ∙ c.in-Some.is)) in
    record {
      acts = rw c.act_at.ensures.same (subst (λ (l : List SubscriberState). ActsAt c.args.name.now c.args.action (world_of c.args.self.now) c.in_ok-answer.answer (after c.args.self.now.slots l))
          (kept_subscribers c.args.name.now c.args.action before (no_cut c.args.action c.in_default-action.not-Cut))
          (subst (λ (s : SlotsState). ActsAt c.args.name.now c.args.action (world_of c.args.self.now) c.in_ok-answer.answer (after s (subscribers_after c.args.name.now c.args.action before)))
          (kept_slots c.args.name.now c.args.action before c.args.self.now.slots (no_cut c.args.action c.in_default-action.not-Cut))
          (acted_at c.args.name.now c.in-Some.place c.args.action c.args.self.now c.act_at.new.starts.items c.in_ok-answer.answer at c.in_ok-answer.ensures.acts)));
      bad = λ never. cc;
      entry = λ never. cc;
      memory = λ never. cc;
      err = tt;
      machine = record {
        good = rw c.act_at.ensures.same c.requires.machine.good;
        served = rw c.act_at.ensures.same c.act_at.ensures.all;
        found = found_on log c.in-Some.place c.args.action c.args.self.now.starts.items c.act_at.new.starts.items c.args.self.now.opened.items c.in_ok-answer.answer (no_cut c.args.action c.in_default-action.not-Cut) c.in_ok-answer.ensures.acts
            c.requires.machine.found;
        subscribed = subscribed_on c.args.name.now c.in-Some.place c.args.action c.args.self.now c.act_at.new.starts.items c.in_ok-answer.answer at c.in_ok-answer.ensures.acts c.requires.machine.subscribed;
        named = c.requires.machine.named;
        readers = c.act_at.ensures.readers ∙ c.requires.machine.readers;
        room = rw c.act_at.ensures.capacity c.requires.machine.room;
      };
    }
