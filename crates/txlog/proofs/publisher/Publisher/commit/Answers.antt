use Rattle.std.proofs.Common.{◌≡◌, true, List, refl, sym, subst, arith, ◌∙◌}
use Rattle.std.specs.Int.{w64}
use Rattle.std.proofs.lemmas.Int.{to_z-of_z}
use Rattle.wal.specs.declared.record.Record.{Record}
use Rattle.txlog.specs.Publishing.{PublisherState}
use Rattle.txlog.specs.Receipts.{has_commit}
use Rattle.txlog.specs.Rows.{history_of}
use Rattle.txlog.proofs.Calls.{commit_good, committed_is, committed_kept, record_fits}
use Rattle.txlog.proofs.Tops.{ended-top}
use Rattle.txlog.proofs.Receipts.{commit_told}
use Rattle.txlog.proofs.publisher.Publisher.commit.Goals as goal

pub push-requires : goal.push-requires
push-requires g c =
    let s : PublisherState = record { tables = c.self.inside.store.tables; capacity = c.self.inside.capacity; log = c.self.inside.log.records; given = c.self.inside.log.given; next_xid = c.self.inside.next_xid; live = c.self.inside.live; snapshots = c.self.inside.snapshots } in
    record {
      fits = record_fits s _ c.self.invariant.publisher (omega arith);
      good = commit_good c.self.inside.store s c.xid-xid.result c.args.time _ c.self.invariant c.if-not-contains.ensures (record { sfits = c.ranges.time.sfits }) (to_z-of_z w64 c.args.time (record { sfits = c.ranges.time.sfits }));
      top = ended-top s s c.xid-xid.result _ refl c.self.invariant.publisher (sym c.if-not-contains.ensures) refl;
      own = refl;
    }

pub new-requires : goal.new-requires
new-requires g c =
    let ok = c.in-Ok.ensures.ok in
    subst (λ (l : List Record). has_commit l (record { place = c.in-Ok.told.place; start = c.in-Ok.told.start; end = c.in-Ok.told.end; xid = c.xid-xid.result }) ≡ true) (sym ok.3)
    (commit_told c.self.inside.log.records c.push.new.self.records c.xid-xid.result _ c.in-Ok.told.place c.in-Ok.told.start c.in-Ok.told.end ok.0 ok.2 ok.1.0 ok.1.1)

pub invariant_of-self-2 : goal.invariant_of-self-2
invariant_of-self-2 g c =
    let s : PublisherState = record { tables = c.self.inside.store.tables; capacity = c.self.inside.capacity; log = c.self.inside.log.records; given = c.self.inside.log.given; next_xid = c.self.inside.next_xid; live = c.self.inside.live; snapshots = c.self.inside.snapshots } in
    rw c.push.ensures.given
    (committed_kept c.self.inside.store c.forget.new.self c.forget.new.self.tables s c.xid-xid.result c.args.time _ c.push.new.self.records c.remove.new.self c.self.invariant c.if-not-contains.ensures (record { sfits = c.ranges.time.sfits })
    (to_z-of_z w64 c.args.time (record { sfits = c.ranges.time.sfits })) c.in-Ok.ensures.ok.0 c.remove.ensures (c.forget.ensures.keeps (history_of s.log) c.self.invariant.rows) c.forget.ensures.tables)

pub returns-clause-ok : goal.returns-clause-ok
returns-clause-ok g c =
    let s : PublisherState = record { tables = c.self.inside.store.tables; capacity = c.self.inside.capacity; log = c.self.inside.log.records; given = c.self.inside.log.given; next_xid = c.self.inside.next_xid; live = c.self.inside.live; snapshots = c.self.inside.snapshots } in
    let ok = c.in-Ok.ensures.ok in
    let whole = committed_is c.forget.new.self.tables s c.args.self.now c.args.tx c.xid-xid.result c.in-Ok.told.place c.in-Ok.told.start c.in-Ok.told.end c.args.time _ c.push.new.self.records c.remove.new.self
    c.self.view_is c.forget.ensures.tables c.xid-xid.ensures (to_z-of_z w64 c.args.time (record { sfits = c.ranges.time.sfits })) ok.2 ok.1.0 ok.1.1 ok.0 c.remove.ensures in
    (c.new.ensures ∙ whole.0, rw c.push.ensures.given whole.1)

pub returns-clause-publisher : goal.returns-clause-publisher
returns-clause-publisher g c = (invariant_of-self-2 g c).publisher
