use Rattle.txlog.specs.Publishing.{PublisherState}
use Rattle.txlog.proofs.Calls.{released_kept}
use Rattle.txlog.proofs.publisher.Publisher.release.Goals as goal

pub invariant_of-self : goal.invariant_of-self
invariant_of-self g c =
    let s : PublisherState = record { tables = c.self.inside.store.tables; capacity = c.self.inside.capacity; log = c.self.inside.log.records; given = c.self.inside.log.given; next_xid = c.self.inside.next_xid; live = c.self.inside.live; snapshots = c.self.inside.snapshots } in
    released_kept c.self.inside.store s c.xid-xid.result c.args.depth c.truncate_savepoints.new.self c.self.invariant c.if-not-contains.ensures c.truncate_savepoints.ensures

pub returns-clause-publisher : goal.returns-clause-publisher
returns-clause-publisher g c = (invariant_of-self g c).publisher
