use Rattle.std.proofs.Common.{arith, ◌^◌, ◌∷◌, [], ◌++◌, sym, subst}
use Rattle.tables.specs.declared.changes.change.Change.{Change}
use Rattle.store.specs.Keeping.{Keeps}
use Rattle.store.specs.History.{change_made}
use Rattle.tables.proofs.Lengths.{coded_of_fits}
use Rattle.store.specs.History as history
use Rattle.txlog.specs.Publishing.{PublisherState}
use Rattle.txlog.proofs.Calls.{record_fits}
use Rattle.txlog.specs.Rows.{history_of}
use Rattle.txlog.proofs.Changes.{insert_short, change_good, change_written, ok_refused, err_refused}
use Rattle.txlog.proofs.Tops.{changing-top}
use Rattle.txlog.proofs.publisher.Publisher.insert.Goals as goal

pub write-requires : goal.write-requires
write-requires g c =
    let s : PublisherState = record { tables = c.self.inside.store.tables; capacity = c.self.inside.capacity; log = c.self.inside.log.records; given = c.self.inside.log.given; next_xid = c.self.inside.next_xid; live = c.self.inside.live; snapshots = c.self.inside.snapshots } in
    let at = c.in_ok-at.ensures in
    let short = insert_short s.tables c.in-Ok.change c.args.oid c.args.row c.in-Ok.ensures.change c.in-Ok.ensures.fits in
    record {
      short = short;
      coded = coded_of_fits s.tables c.in-Ok.change c.in-Ok.ensures.fits;
      fits = record_fits s (2 ^ 14) c.self.invariant.publisher (omega arith);
      good = change_good c.self.inside.store s c.args.self.now c.args.tx.now c.in_ok-at.at c.in-Ok.change c.self.view_is c.self.invariant at.live at.innermost at.room c.in-Ok.ensures.fits short;
      top = changing-top s c.args.self.now c.args.tx.now c.in_ok-at.at c.self.view_is c.self.invariant.publisher at.live at.innermost;
    }

pub invariant_of-self : goal.invariant_of-self
invariant_of-self g c =
    let s : PublisherState = record { tables = c.self.inside.store.tables; capacity = c.self.inside.capacity; log = c.self.inside.log.records; given = c.self.inside.log.given; next_xid = c.self.inside.next_xid; live = c.self.inside.live; snapshots = c.self.inside.snapshots } in
    let at = c.in_ok-at.ensures in
    let w = c.write.ensures in
    rw c.write.ensures.given
    (change_written c.self.inside.store c.insert.new.self c.write.new.store s c.args.self.now c.args.tx.now c.in_ok-at.at c.in-Ok.change c.write.new.log.records c.write.result c.self.view_is c.self.invariant
    at.live at.innermost at.mark at.room c.in-Ok.ensures.fits (insert_short s.tables c.in-Ok.change c.args.oid c.args.row c.in-Ok.ensures.change c.in-Ok.ensures.fits)
    (subst (λ (d : Change). Keeps c.insert.new.self (history_of s.log ++ change_made c.in_ok-at.at.xid d ∷ [])) (sym c.in-Ok.ensures.change) (c.in-Ok.ensures.ok (history_of s.log) c.self.invariant.rows)) c.in-Ok.ensures.tables w.ok w.room w.err w.undone w.tables)

pub returns-in-Ok-clause-publisher : goal.returns-in-Ok-clause-publisher
returns-in-Ok-clause-publisher g c = (invariant_of-self g c).publisher

pub returns-in-Ok-clause-refused : goal.returns-in-Ok-clause-refused
returns-in-Ok-clause-refused g c =
    let s : PublisherState = record { tables = c.self.inside.store.tables; capacity = c.self.inside.capacity; log = c.self.inside.log.records; given = c.self.inside.log.given; next_xid = c.self.inside.next_xid; live = c.self.inside.live; snapshots = c.self.inside.snapshots } in
    ok_refused (λ p x. history.insert_refusal p.tables (history_of p.log) x c.args.oid c.args.row) s c.args.self.now c.args.tx.now c.in_ok-at.at c.write.result c.self.view_is
    c.in_ok-at.ensures.live c.in_ok-at.ensures.room (c.in-Ok.ensures.refused (history_of s.log) c.self.invariant.rows) c.write.ensures.room c.write.ensures.refused

pub returns-in-Err-clause-refused : goal.returns-in-Err-clause-refused
returns-in-Err-clause-refused g c =
    let s : PublisherState = record { tables = c.self.inside.store.tables; capacity = c.self.inside.capacity; log = c.self.inside.log.records; given = c.self.inside.log.given; next_xid = c.self.inside.next_xid; live = c.self.inside.live; snapshots = c.self.inside.snapshots } in
    err_refused (λ p x. history.insert_refusal p.tables (history_of p.log) x c.args.oid c.args.row) s c.args.self.now c.args.tx.now c.in_ok-at.at c.in-Err.fault c.refusal.result c.self.view_is
    c.in_ok-at.ensures.live c.in_ok-at.ensures.room (c.in-Err.ensures.refused (history_of s.log) c.self.invariant.rows) c.refusal.ensures
