use Rattle.reorder.proofs.Lending.{hold_away, lent_away, pool_away}
use Rattle.reorder.proofs.places.pool.Pool.lend.Goals as goal

pub invariant_of-self : goal.invariant_of-self
invariant_of-self c = (
  pool_away c.args.xid c.self.inside.arena c.self.inside.strands.entries c.remove.new.self.entries c.self.invariant.0 c.remove.ensures.updates.0,
  hold_away c.args.xid c.self.inside.arena c.self.inside.strands.entries c.remove.new.self.entries c.self.invariant.1 c.remove.ensures.updates.0,
)

pub returns-clause-lent : goal.returns-clause-lent
returns-clause-lent c = rw (← c.self.view_is) (lent_away c.args.xid c.self.inside.arena c.self.inside.strands.entries c.remove.new.self.entries c.remove.ensures.updates.0)
