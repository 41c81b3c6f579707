use Rattle.std.proofs.Common.{Result, Ok, Err, OnOk}
use Rattle.reorder.proofs.Tidying.{pushed_tidy}
use Rattle.reorder.proofs.Lookups.{pushed_same}
use Rattle.reorder.proofs.strands.Strands.push.Goals as goal

on_ok : {A E : Type 0} (r : Result A E) (P Q : Type 0) → (P → Q) → OnOk r P → OnOk r Q
on_ok (Ok a) P Q f p = f p
on_ok (Err e) P Q f p = tt

pub returns-clause-ok : goal.returns-clause-ok
returns-clause-ok c = rw (← c.self.view_is) (on_ok c.push.result _ _
    (pushed_same c.self.inside.strands.entries c.self.inside.members.entries c.self.inside.pool c.push.new.self c.args.xid c.args.entry.now) c.push.ensures.ok)

pub returns-clause-tidy : goal.returns-clause-tidy
returns-clause-tidy c = rw (← c.self.view_is) (pushed_tidy c.push.result c.self.inside.strands.entries c.self.inside.members.entries c.self.inside.pool c.push.new.self c.args.xid _ c.push.ensures.ok c.push.ensures.whole)

pub returns-clause-lent : goal.returns-clause-lent
returns-clause-lent c = rw (← c.self.view_is) c.push.ensures.lent
