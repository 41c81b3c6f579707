use Rattle.std.proofs.Common.{arith}
use Rattle.std.proofs.lemmas.Grind.{common_steps}
use Rattle.reorder.proofs.Lending.{stays_lent}
use Rattle.reorder.proofs.Tidying.{stays_whole}
use Rattle.reorder.proofs.strands.give_back_all.Goals as goal

pub loop-xid-preserved : goal.loop-xid-preserved
loop-xid-preserved c = (
  λ x. grind (arith, common_steps, c.give_back.ensures.entries x, c.loop-xid.invariant.0 x),
  stays_whole c.args.pool.now c.loop-xid.pool c.give_back.new.self c.loop-xid.invariant.1 c.give_back.ensures.whole,
  stays_lent c.args.pool.now c.loop-xid.pool c.give_back.new.self c.loop-xid.invariant.2 c.give_back.ensures.lent,
)
