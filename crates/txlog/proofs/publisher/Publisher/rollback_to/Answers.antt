use Rattle.txlog.specs.Publishing.{PublisherState}
use Rattle.txlog.specs.Rows.{history_of}
use Rattle.txlog.proofs.Calls.{rolled_back_is, rolled_back_kept, rolled_back_good, record_fits}
use Rattle.txlog.proofs.Tops.{undone-top}
use Rattle.txlog.proofs.publisher.Publisher.rollback_to.Goals as goal
use Rattle.std.proofs.Common.{arith, refl}

pub push-requires : goal.push-requires
push-requires g c =
    let s : PublisherState = record { tables = c.self.inside.store.tables; capacity = c.self.inside.capacity; log = c.self.inside.log.records; given = c.self.inside.log.given; next_xid = c.self.inside.next_xid; live = c.self.inside.live; snapshots = c.self.inside.snapshots } in
    let test = c.in_ok-savepoint.ensures in
    record {
      fits = record_fits s _ c.self.invariant.publisher (omega arith);
      good = rolled_back_good c.self.inside.store s c.args.self.now c.xid-xid.result c.args.depth c.in_ok-savepoint.savepoint c.self.view_is c.self.invariant test.live test.room test.depth.0 test.depth.1 test.value;
      top = undone-top s c.args.self.now c.xid-xid.result c.args.depth c.in_ok-savepoint.savepoint c.self.view_is c.self.invariant.publisher test.live test.depth.1 test.value test.depth.0;
      own = refl;
    }

pub invariant_of-self-2 : goal.invariant_of-self-2
invariant_of-self-2 g c =
    let s : PublisherState = record { tables = c.self.inside.store.tables; capacity = c.self.inside.capacity; log = c.self.inside.log.records; given = c.self.inside.log.given; next_xid = c.self.inside.next_xid; live = c.self.inside.live; snapshots = c.self.inside.snapshots } in
    let test = c.in_ok-savepoint.ensures in
    rw c.push.ensures.given
    (rolled_back_kept c.self.inside.store c.undo_to.new.self c.undo_to.new.self.tables s c.args.self.now c.xid-xid.result c.args.depth c.in_ok-savepoint.savepoint c.push.new.self.records c.truncate_savepoints.new.self c.self.view_is c.self.invariant
    test.live test.room test.depth.0 test.depth.1 test.value c.in_ok-push.ensures.ok.0 c.truncate_savepoints.ensures (c.undo_to.ensures.keeps (history_of s.log) c.self.invariant.rows) c.undo_to.ensures.tables)

pub returns-clause-publisher : goal.returns-clause-publisher
returns-clause-publisher g c = (invariant_of-self-2 g c).publisher

pub returns-clause-ok : goal.returns-clause-ok
returns-clause-ok g c =
    let s : PublisherState = record { tables = c.self.inside.store.tables; capacity = c.self.inside.capacity; log = c.self.inside.log.records; given = c.self.inside.log.given; next_xid = c.self.inside.next_xid; live = c.self.inside.live; snapshots = c.self.inside.snapshots } in
    rw c.push.ensures.given
    (rolled_back_is c.undo_to.new.self.tables s c.args.self.now c.args.tx.now c.xid-xid.result c.args.depth c.in_ok-savepoint.savepoint c.push.new.self.records c.truncate_savepoints.new.self c.self.view_is c.undo_to.ensures.tables
    c.xid-xid.ensures c.in_ok-savepoint.ensures.value c.in_ok-push.ensures.ok.0 c.truncate_savepoints.ensures)
