use Rattle.std.proofs.Common.{refl, sym, subst, ap, arith, ◌∙◌}
use Rattle.txlog.specs.Invariants.{KeepsLog}
use Rattle.txlog.specs.Publishing.{PublisherState}
use Rattle.txlog.specs.Rows.{history_of}
use Rattle.txlog.proofs.Calls.{saved_kept, unsaved, saved_good, record_fits}
use Rattle.txlog.proofs.Tops.{saved-top}
use Rattle.txlog.proofs.publisher.Publisher.savepoint.Goals as goal

pub push-requires : goal.push-requires
push-requires g c =
    let s : PublisherState = record { tables = c.self.inside.store.tables; capacity = c.self.inside.capacity; log = c.self.inside.log.records; given = c.self.inside.log.given; next_xid = c.self.inside.next_xid; live = c.self.inside.live; snapshots = c.self.inside.snapshots } in
    let test = c.in_ok-depth.ensures in
    record {
      fits = record_fits s _ c.self.invariant.publisher (omega arith);
      good = saved_good c.self.inside.store s c.args.self.now c.xid-xid.result c.innermost-parent.result c.in_ok-depth.depth c.self.view_is c.self.invariant test.live test.room test.depth.0 test.depth.1 c.innermost-parent.ensures;
      top = saved-top s c.args.self.now c.xid-xid.result _ c.innermost-parent.result c.self.view_is c.self.invariant.publisher test.live c.innermost-parent.ensures;
      own = refl;
    }

pub returns-in-Err-clause-err : goal.returns-in-Err-clause-err
returns-in-Err-clause-err g c =
    let s : PublisherState = record { tables = c.self.inside.store.tables; capacity = c.self.inside.capacity; log = c.self.inside.log.records; given = c.self.inside.log.given; next_xid = c.self.inside.next_xid; live = c.self.inside.live; snapshots = c.self.inside.snapshots } in
    rw c.push.ensures.given
    (unsaved s c.args.self.now c.xid-xid.result c.in_ok-depth.depth _ c.push.new.self.records c.push_savepoint.new.self c.truncate_savepoints.new.self c.self.view_is
    c.in_ok-depth.ensures.live c.in_ok-depth.ensures.depth.0 c.in_ok-push_savepoint.ensures.ok c.in-Err.ensures.err c.truncate_savepoints.ensures ∙ c.self.view_is)

pub invariant_of-self-in-Err : goal.invariant_of-self-in-Err
invariant_of-self-in-Err g c =
    let s : PublisherState = record { tables = c.self.inside.store.tables; capacity = c.self.inside.capacity; log = c.self.inside.log.records; given = c.self.inside.log.given; next_xid = c.self.inside.next_xid; live = c.self.inside.live; snapshots = c.self.inside.snapshots } in
    let same = unsaved s c.args.self.now c.xid-xid.result c.in_ok-depth.depth _ c.push.new.self.records c.push_savepoint.new.self c.truncate_savepoints.new.self c.self.view_is
    c.in_ok-depth.ensures.live c.in_ok-depth.ensures.depth.0 c.in_ok-push_savepoint.ensures.ok c.in-Err.ensures.err c.truncate_savepoints.ensures in
    rw c.push.ensures.given (subst (KeepsLog c.self.inside.store) (sym same) c.self.invariant)

pub returns-in-Err-clause-publisher : goal.returns-in-Err-clause-publisher
returns-in-Err-clause-publisher g c = (invariant_of-self-in-Err g c).publisher

pub invariant_of-self-2 : goal.invariant_of-self-2
invariant_of-self-2 g c =
    let s : PublisherState = record { tables = c.self.inside.store.tables; capacity = c.self.inside.capacity; log = c.self.inside.log.records; given = c.self.inside.log.given; next_xid = c.self.inside.next_xid; live = c.self.inside.live; snapshots = c.self.inside.snapshots } in
    let test = c.in_ok-depth.ensures in
    rw c.push.ensures.given
    (saved_kept c.self.inside.store s c.args.self.now c.xid-xid.result c.innermost-parent.result c.in_ok-depth.depth _ c.push.new.self.records c.push_savepoint.new.self c.self.view_is c.self.invariant
    test.live test.room test.depth.0 test.depth.1 c.innermost-parent.ensures (ap (λ n. record { xid = s.next_xid; mark = n }) (c.mark-mark.ensures (history_of s.log) c.self.invariant.rows))
    c.in_ok-push_savepoint.ensures.ok c.in-Ok.ensures.ok.0)

pub returns-clause-publisher : goal.returns-clause-publisher
returns-clause-publisher g c = (invariant_of-self-2 g c).publisher
