use Rattle.std.proofs.Common.{refl, sym}
use Rattle.txlog.proofs.SnapshotList.{not_open, scans_at}
use Rattle.txlog.proofs.snapshots.Snapshots.scan.Goals as goal

pub returns-in-Some-clause-ok : goal.returns-in-Some-clause-ok
returns-in-Some-clause-ok c =
    scans_at c.args.id c.args.oid c.args.self.now c.self.inside.count c.self.inside.opened.items c.in-Some.place c.index_mut-one.result.now c.scan.new.self c.self.view_is c.index_mut-one.ensures.value
    c.in-Some.ensures.value c.scan.ensures.rows c.scan.ensures.left

pub returns-in-None-clause-refused : goal.returns-in-None-clause-refused
returns-in-None-clause-refused c = (refl, not_open c.args.id c.args.self.now.opened (sym c.in-None.ensures.value))
