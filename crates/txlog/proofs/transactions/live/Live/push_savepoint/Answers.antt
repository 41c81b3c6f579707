use Rattle.std.proofs.Common.{[], ◌∷◌, ◌++◌, sym}
use Rattle.txlog.proofs.LiveList.{changed_at, absent}
use Rattle.txlog.proofs.transactions.live.Live.push_savepoint.Goals as goal

pub returns-in_ok-push-in-Some-clause-ok : goal.returns-in_ok-push-in-Some-clause-ok
returns-in_ok-push-in-Some-clause-ok c =
    changed_at (λ xs. xs ++ c.args.savepoint ∷ []) c.args.xid c.self.inside.running.items c.args.self.now c.in-Some.place
    c.index_mut-running.result.now c.push.new.self c.self.view_is c.index_mut-running.ensures.value c.in_ok-push-in-Some.ensures.ok c.in-Some.ensures.value

pub returns-in-None-clause-ok : goal.returns-in-None-clause-ok
returns-in-None-clause-ok c = sym (absent c.args.xid _ c.args.self.now (sym c.in-None.ensures.value))
