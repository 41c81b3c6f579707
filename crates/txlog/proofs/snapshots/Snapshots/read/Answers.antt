use Rattle.std.proofs.Common.{sym, rules}
use Rattle.txlog.proofs.SnapshotList.{is_open, not_open, reads_at, refused_memory}
use Rattle.txlog.proofs.snapshots.Snapshots.read.Goals as goal

pub returns-in_ok-rows-in-Some-clause-ok : goal.returns-in_ok-rows-in-Some-clause-ok
returns-in_ok-rows-in-Some-clause-ok c =
    let made = c.in_ok-rows-in-Some.ensures in
    reads_at c.args.id c.args.most c.args.self.now c.self.inside.count c.self.inside.opened.items c.in-Some.place c.index_mut-one.result.now c.read.new.self c.in_ok-rows-in-Some.rows.items c.is_read-is_last.result
    c.self.view_is c.index_mut-one.ensures.value c.in-Some.ensures.value made.ok made.few made.rows made.ahead c.is_read-is_last.ensures.ahead c.is_read-is_last.ensures.left

pub returns-in_err-rows-in-Some-clause-refused : goal.returns-in_err-rows-in-Some-clause-refused
returns-in_err-rows-in-Some-clause-refused c =
    refused_memory c.from_residual.result _ (is_open c.args.id c.args.self.now c.self.inside.count c.self.inside.opened.items c.in-Some.place c.index_mut-one.result.now c.self.view_is c.index_mut-one.ensures.value c.in-Some.ensures.value)
    (search rules)

pub returns-in-None-clause-refused : goal.returns-in-None-clause-refused
returns-in-None-clause-refused c = not_open c.args.id c.args.self.now.opened (sym c.in-None.ensures.value)
