use Rattle.std.proofs.Common.{◌≡◌, ◌++◌, ◌∷◌, [], List, length, map, ap, sym, subst, arith, true, ◌∙◌}
use Rattle.std.proofs.lemmas.List.{map-append}
use Rattle.std.specs.List.{AllByRecursion}
use Rattle.world.specs.declared.stepping.start.Start.{Start}
use Rattle.world.specs.Start.{StartState, running_count}
use Rattle.world.specs.State.{SubscriberState, with_one_for}
use Rattle.world.specs.Starts.{IsServed, start_state}
use Rattle.world.specs.Machine.{IsSubscribed, subscriber_state}
use Rattle.pgoutput.proofs.Lists.{all_of_both}
use Rattle.world.proofs.Machines.{found_more}
use Rattle.world.proofs.Readers.{running_more}
use Rattle.world.proofs.Subscribing.{all_joined}
use Rattle.world.proofs.machine.Machine.add.Goals as goal

pub returns-clause-machine : goal.returns-clause-machine
returns-clause-machine g c =
    let log = c.args.self.now.publisher.log in
    let cs = c.args.self.now.starts.items in
    let ss = map subscriber_state c.args.self.now.subscribers.items in
    let start = c.new-start.result in
    let starts_is : c.push_reserved-2.new.self.items ≡ cs ++ start ∷ [] = c.push_reserved-2.ensures.items in
    let states_is = ap (map start_state) starts_is ∙ map-append start_state cs (start ∷ []) in
    let opened : (start_state start).is_open ≡ true = ap (λ (s : StartState). s.is_open) c.new-start.ensures.fresh in
    let named = ap (λ (s : SubscriberState). with_one_for s.connection c.args.subscriber.slot ss) c.requires.subscriber ∙ sym (ap (λ (s : StartState). with_one_for s.connection c.args.subscriber.slot ss) c.new-start.ensures.fresh) in
    let one_more = ap running_count states_is ∙ running_more (map start_state cs) (start_state start) opened in
    record {
      good = c.requires.machine.good;
      served = subst (λ (l : List (Start _)). AllByRecursion (IsServed log) l) (sym starts_is) (all_of_both (IsServed log) cs (start ∷ []) c.requires.machine.served (c.new-start.ensures.served log (c.requires.resumed _ _ c.in-Some.ensures.items), tt));
      found = found_more cs c.push_reserved-2.new.self.items c.args.self.now.opened.items c.push_reserved.new.self.items start (length c.as_slice-place.result.now) starts_is c.push_reserved.ensures.items
          (ap (λ (l : List (Start _)). length l) c.as_slice-place.ensures.value) opened c.requires.machine.found;
      subscribed = subst (λ (l : List StartState). AllByRecursion (IsSubscribed (map subscriber_state c.subscribe.new.subscribers.items)) l) (sym states_is)
          (subst (λ (l : List SubscriberState). AllByRecursion (IsSubscribed l) (map start_state cs ++ start_state start ∷ [])) (sym (c.subscribe.ensures.joined ∙ named))
          (all_joined c.args.subscriber.slot ss (map start_state cs) (start_state start) c.requires.machine.subscribed));
      named = c.subscribe.ensures.named;
      readers = omega (arith, one_more, c.in-Some.ensures.cases, c.requires.machine.readers);
      room = rw c.pop.ensures.capacity c.requires.machine.room;
    }
