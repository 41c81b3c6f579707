use Rattle.std.proofs.Common.{◌==◌, not, rules}
use Rattle.std.proofs.lemmas.Fn.{filter_same}
use Rattle.txlog.proofs.transactions.live.Live.remove.Goals as goal

pub returns : goal.returns
returns c = rw (← c.self.view_is) (filter_same _ (λ o. not (o.xid == c.args.xid)) _ (λ x b f' k. search rules) _ _ c.retain.ensures.filtered)
