use Rattle.std.proofs.Common.{◌==◌, not, refl, sym, ap, rules}
use Rattle.std.proofs.lemmas.Fn.{filter_same}
use Rattle.txlog.proofs.SnapshotList.{not_open, shown}
use Rattle.txlog.proofs.snapshots.Snapshots.close.Goals as goal

pub returns-in-Some-clause-ok : goal.returns-in-Some-clause-ok
returns-in-Some-clause-ok c =
    rw (← c.self.view_is) (ap (shown c.self.inside.count) (filter_same _ (λ o. not (o.id == c.args.id)) _ (λ x b f' k. search rules) _ _ c.retain.ensures.filtered))

pub returns-in-None-clause-refused : goal.returns-in-None-clause-refused
returns-in-None-clause-refused c = (refl, not_open c.args.id c.args.self.now.opened (sym c.in-None.ensures.value))
