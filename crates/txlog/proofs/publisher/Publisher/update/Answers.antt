use Rattle.std.proofs.Common.{arith, ◌^◌}
use Rattle.tables.proofs.Lengths.{coded_of_fits}
use Rattle.store.specs.History as history
use Rattle.txlog.specs.Publishing.{PublisherState}
use Rattle.txlog.proofs.Calls.{record_fits}
use Rattle.txlog.specs.Rows.{history_of}
use Rattle.txlog.proofs.Changes.{update_short, change_good, change_written, ok_refused, err_refused}
use Rattle.txlog.proofs.Tops.{changing-top}
use Rattle.txlog.proofs.publisher.Publisher.update.Goals as goal

pub write-requires : goal.write-requires
write-requires g c =
    let s : PublisherState = record { tables = c.self.inside.store.tables; capacity = c.self.inside.capacity; log = c.self.inside.log.records; given = c.self.inside.log.given; next_xid = c.self.inside.next_xid; live = c.self.inside.live; snapshots = c.self.inside.snapshots } in
    let fits = c.in-Ok.ensures.fits (history_of s.log) c.self.invariant.rows in
    let made_so = c.in-Ok.ensures.change (history_of s.log) c.self.invariant.rows in
    let at = c.in_ok-at.ensures in
    let short = update_short s.tables c.in-Ok.change c.args.oid made_so.old c.args.row made_so.made fits in
    record {
      short = short;
      coded = coded_of_fits s.tables c.in-Ok.change fits;
      fits = record_fits s (2 ^ 14) c.self.invariant.publisher (omega arith);
      good = change_good c.self.inside.store s c.args.self.now c.args.tx.now c.in_ok-at.at c.in-Ok.change c.self.view_is c.self.invariant at.live at.innermost at.room fits short;
      top = changing-top s c.args.self.now c.args.tx.now c.in_ok-at.at c.self.view_is c.self.invariant.publisher at.live at.innermost;
    }

pub invariant_of-self : goal.invariant_of-self
invariant_of-self g c =
    let s : PublisherState = record { tables = c.self.inside.store.tables; capacity = c.self.inside.capacity; log = c.self.inside.log.records; given = c.self.inside.log.given; next_xid = c.self.inside.next_xid; live = c.self.inside.live; snapshots = c.self.inside.snapshots } in
    let fits = c.in-Ok.ensures.fits (history_of s.log) c.self.invariant.rows in
    let made_so = c.in-Ok.ensures.change (history_of s.log) c.self.invariant.rows in
    let at = c.in_ok-at.ensures in
    let w = c.write.ensures in
    rw c.write.ensures.given
    (change_written c.self.inside.store c.update.new.self c.write.new.store s c.args.self.now c.args.tx.now c.in_ok-at.at c.in-Ok.change c.write.new.log.records c.write.result c.self.view_is c.self.invariant
    at.live at.innermost at.mark at.room fits (update_short s.tables c.in-Ok.change c.args.oid made_so.old c.args.row made_so.made fits)
    (c.in-Ok.ensures.ok (history_of s.log) c.self.invariant.rows) c.in-Ok.ensures.tables w.ok w.room w.err w.undone w.tables)

pub returns-in-Ok-clause-publisher : goal.returns-in-Ok-clause-publisher
returns-in-Ok-clause-publisher g c = (invariant_of-self g c).publisher

pub returns-in-Ok-clause-refused : goal.returns-in-Ok-clause-refused
returns-in-Ok-clause-refused g c =
    let s : PublisherState = record { tables = c.self.inside.store.tables; capacity = c.self.inside.capacity; log = c.self.inside.log.records; given = c.self.inside.log.given; next_xid = c.self.inside.next_xid; live = c.self.inside.live; snapshots = c.self.inside.snapshots } in
    ok_refused (λ p x. history.update_refusal p.tables (history_of p.log) x (record { oid = c.args.oid; values = c.args.key.now }) c.args.row) s c.args.self.now c.args.tx.now c.in_ok-at.at c.write.result c.self.view_is
    c.in_ok-at.ensures.live c.in_ok-at.ensures.room (c.in-Ok.ensures.refused (history_of s.log) c.self.invariant.rows) c.write.ensures.room c.write.ensures.refused

pub returns-in-Err-clause-refused : goal.returns-in-Err-clause-refused
returns-in-Err-clause-refused g c =
    let s : PublisherState = record { tables = c.self.inside.store.tables; capacity = c.self.inside.capacity; log = c.self.inside.log.records; given = c.self.inside.log.given; next_xid = c.self.inside.next_xid; live = c.self.inside.live; snapshots = c.self.inside.snapshots } in
    err_refused (λ p x. history.update_refusal p.tables (history_of p.log) x (record { oid = c.args.oid; values = c.args.key.now }) c.args.row) s c.args.self.now c.args.tx.now c.in_ok-at.at c.in-Err.fault c.refusal.result c.self.view_is
    c.in_ok-at.ensures.live c.in_ok-at.ensures.room (c.in-Err.ensures.refused (history_of s.log) c.self.invariant.rows) c.refusal.ensures
