use Rattle.std.proofs.Common.{◌≡◌, ◌≤◌, arith, ap, refl, ◌∙◌}
use Rattle.shared_log.specs.Kept.{given_after}
use Rattle.txlog.specs.Publishing.{PublisherState, after_give_back}
use Rattle.txlog.proofs.Calls.{given_back_kept}
use Rattle.txlog.proofs.publisher.Publisher.give_back.Goals as goal

pub invariant_of-self : goal.invariant_of-self
invariant_of-self g c =
    let s : PublisherState = record { tables = c.self.inside.store.tables; capacity = c.self.inside.capacity; log = c.self.inside.log.records; given = c.self.inside.log.given; next_xid = c.self.inside.next_xid; live = c.self.inside.live; snapshots = c.self.inside.snapshots } in
    let more : s.capacity ≤ c.min-self-inside.result = omega (arith, c.min-self-inside.ensures, c.self.invariant.publisher.limit) in
    rw c.give_back.ensures (given_back_kept c.self.inside.store s (given_after c.args.up_to s.log s.given) c.min-self-inside.result c.self.invariant more (omega (arith, c.min-self-inside.ensures)))

pub returns-clause-publisher : goal.returns-clause-publisher
returns-clause-publisher g c = (invariant_of-self g c).publisher

pub returns-clause-given : goal.returns-clause-given
returns-clause-given g c =
    let s : PublisherState = record { tables = c.self.inside.store.tables; capacity = c.self.inside.capacity; log = c.self.inside.log.records; given = c.self.inside.log.given; next_xid = c.self.inside.next_xid; live = c.self.inside.live; snapshots = c.self.inside.snapshots } in
    let state : record s { capacity = c.min-self-inside.result; log = c.give_back.new.self.records; given = c.give_back.new.self.given } ≡ after_give_back c.args.up_to s = rw (c.min-self-inside.ensures, c.given.ensures.value, c.given-before.ensures.value, c.give_back.ensures) refl in
    state ∙ ap (after_give_back c.args.up_to) c.self.view_is
