use Rattle.std.proofs.Common.{take, sym, ◌∙◌}
use Rattle.txlog.proofs.LiveList.{changed_at, absent}
use Rattle.txlog.proofs.transactions.live.Live.truncate_savepoints.Goals as goal

pub returns-in-Some : goal.returns-in-Some
returns-in-Some c =
    changed_at (take c.args.depth) c.args.xid c.self.inside.running.items c.args.self.now c.in-Some.place
    c.index_mut-running.result.now c.truncate.new.self c.self.view_is c.index_mut-running.ensures.value c.truncate.ensures c.in-Some.ensures.value

pub returns-in_default : goal.returns-in_default
returns-in_default c = sym (absent c.args.xid _ c.args.self.now (sym c.place_of.ensures.value ∙ c.in_default.is))
