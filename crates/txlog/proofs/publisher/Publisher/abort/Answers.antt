use Rattle.std.proofs.Common.{arith, refl, sym, ◌∙◌}
use Rattle.txlog.specs.Publishing.{PublisherState}
use Rattle.txlog.specs.Rows.{history_of}
use Rattle.store.specs.History.{history_after_rollback}
use Rattle.txlog.proofs.Calls.{aborted_kept, abort_good, record_fits}
use Rattle.txlog.proofs.Tops.{ended-top}
use Rattle.txlog.proofs.publisher.Publisher.abort.Goals as goal

pub push-requires : goal.push-requires
push-requires g c =
    let s : PublisherState = record { tables = c.self.inside.store.tables; capacity = c.self.inside.capacity; log = c.self.inside.log.records; given = c.self.inside.log.given; next_xid = c.self.inside.next_xid; live = c.self.inside.live; snapshots = c.self.inside.snapshots } in
    record { fits = record_fits s _ c.self.invariant.publisher (omega arith); good = abort_good c.self.inside.store s c.xid-xid.result c.self.invariant c.if-not-contains.ensures; top = ended-top s s c.xid-xid.result _ refl c.self.invariant.publisher (sym c.if-not-contains.ensures) refl; own = refl }

pub invariant_of-self-2 : goal.invariant_of-self-2
invariant_of-self-2 g c =
    let s : PublisherState = record { tables = c.self.inside.store.tables; capacity = c.self.inside.capacity; log = c.self.inside.log.records; given = c.self.inside.log.given; next_xid = c.self.inside.next_xid; live = c.self.inside.live; snapshots = c.self.inside.snapshots } in
    rw c.push.ensures.given
    (aborted_kept c.self.inside.store c.forget.new.self c.forget.new.self.tables s c.xid-xid.result c.push.new.self.records c.remove.new.self c.self.invariant c.if-not-contains.ensures c.in-Ok.ensures.ok.0 c.remove.ensures
    (c.forget.ensures.keeps (history_after_rollback c.xid-xid.result 0 (history_of s.log)) (c.undo_to.ensures.keeps (history_of s.log) c.self.invariant.rows)) (c.forget.ensures.tables ∙ c.undo_to.ensures.tables))

pub returns-clause-publisher : goal.returns-clause-publisher
returns-clause-publisher g c = (invariant_of-self-2 g c).publisher
