use Rattle.std.proofs.Common.{◌<◌, List, ap, arith, sym, subst}
use Rattle.tables.specs.declared.changes.change.Change.TheVariants as changes
use Rattle.tables.proofs.Lengths.{short_message}
use Rattle.wal.specs.declared.record.Record.{Record}
use Rattle.txlog.specs.Publishing.{PublisherState, room}
use Rattle.txlog.specs.Invariants.{KeepsLog}
use Rattle.txlog.proofs.Calls.{noted_kept}
use Rattle.txlog.proofs.publisher.Publisher.note.Goals as goal

pub push-requires-clause-good : goal.push-requires-clause-good
push-requires-clause-good g c =
    let s : PublisherState = record { tables = c.self.inside.store.tables; capacity = c.self.inside.capacity; log = c.self.inside.log.records; given = c.self.inside.log.given; next_xid = c.self.inside.next_xid; live = c.self.inside.live; snapshots = c.self.inside.snapshots } in
    let free : 0 < room s = omega (arith, c.if-room-eq0.false, c.room-room.ensures, ap room c.self.view_is) in
    let fits = c.in-Ok.ensures.fits in
    (noted_kept c.self.inside.store s (changes.Message c.in-Ok.field-0) c.self.invariant free tt fits (short_message c.in-Ok.field-0 fits)).publisher.log.good

pub invariant_of-self-in-Ok-2 : goal.invariant_of-self-in-Ok-2
invariant_of-self-in-Ok-2 g c =
    let s : PublisherState = record { tables = c.self.inside.store.tables; capacity = c.self.inside.capacity; log = c.self.inside.log.records; given = c.self.inside.log.given; next_xid = c.self.inside.next_xid; live = c.self.inside.live; snapshots = c.self.inside.snapshots } in
    let free : 0 < room s = omega (arith, c.if-room-eq0.false, c.room-room.ensures, ap room c.self.view_is) in
    let fits = c.in-Ok.ensures.fits in
    rw c.push.ensures.given
    (subst (λ (log : List Record). KeepsLog c.self.inside.store (record s { log = log })) (sym c.in_ok-push-in-Ok-2.ensures.ok)
    (noted_kept c.self.inside.store s (changes.Message c.in-Ok.field-0) c.self.invariant free tt fits (short_message c.in-Ok.field-0 fits)))

pub returns-in_ok-push-in-Ok-2-clause-publisher : goal.returns-in_ok-push-in-Ok-2-clause-publisher
returns-in_ok-push-in-Ok-2-clause-publisher g c = (invariant_of-self-in-Ok-2 g c).publisher
