use Rattle.std.proofs.Common.{◌≡◌, ◌==◌, sym, subst}
use Rattle.std.specs.Map.{lookup}
use Rattle.wal.specs.Log.{last_of}
use Rattle.reorder.specs.Strands.{StrandsState, above_standing}
use Rattle.reorder.proofs.Lookups.{given_back}
use Rattle.reorder.proofs.strands.Strands.give_back_under.Goals as goal

pub returns-in-Some-clause-pool : goal.returns-in-Some-clause-pool
returns-in-Some-clause-pool c = rw (← c.self.view_is) (given_back c.self.inside.strands.entries c.self.inside.members.entries c.self.inside.pool c.give_back_after.new.pool c.args.xid c.top_of-top.result c.in-Some.members.now c.as_slice.result.now
    (subst (λ (s : StrandsState). c.top_of-top.result ≡ last_of c.args.xid (above_standing (lookup (λ k. c.args.xid == k) s.strands))) (sym c.self.view_is) c.top_of-top.ensures)
    (sym c.in-Some.ensures.value) c.as_slice.ensures c.give_back_after.ensures.entries)

pub returns-in-Some-clause-lent : goal.returns-in-Some-clause-lent
returns-in-Some-clause-lent c = rw (← c.self.view_is) c.give_back_after.ensures.lent
