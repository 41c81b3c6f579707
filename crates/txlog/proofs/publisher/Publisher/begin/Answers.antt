use Rattle.std.proofs.Common.{arith}
use Rattle.txlog.specs.Publishing.{PublisherState}
use Rattle.txlog.proofs.Calls.{begun_kept, some_room}
use Rattle.txlog.proofs.publisher.Publisher.begin.Goals as goal

pub invariant_of-self-2 : goal.invariant_of-self-2
invariant_of-self-2 g c =
    let s : PublisherState = record { tables = c.self.inside.store.tables; capacity = c.self.inside.capacity; log = c.self.inside.log.records; given = c.self.inside.log.given; next_xid = c.self.inside.next_xid; live = c.self.inside.live; snapshots = c.self.inside.snapshots } in
    rw c.in_ok-push.ensures.ok (begun_kept c.self.inside.store s c.self.invariant (omega (arith, c.len.ensures, c.if-len-ge-MAX_LIVE.false))
    (some_room s c.args.self.now c.room.result c.self.view_is c.room.ensures c.if-room-eq0.false))

pub returns-clause-publisher : goal.returns-clause-publisher
returns-clause-publisher g c = (invariant_of-self-2 g c).publisher
