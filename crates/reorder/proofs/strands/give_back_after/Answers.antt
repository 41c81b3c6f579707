use Rattle.std.proofs.Common.{arith, rules}
use Rattle.std.proofs.lemmas.Grind.{common_steps}
use Rattle.reorder.proofs.Lending.{stays_lent}
use Rattle.reorder.proofs.Tidying.{stays_whole}
use Rattle.reorder.proofs.strands.give_back_after.Goals as goal

pub loop-left-preserved-then-is_under : goal.loop-left-preserved-then-is_under
loop-left-preserved-then-is_under c = (
  search rules,
  stays_whole c.args.pool.now c.loop-left.pool c.give_back.new.self c.loop-left.invariant.1 c.give_back.ensures.whole,
  stays_lent c.args.pool.now c.loop-left.pool c.give_back.new.self c.loop-left.invariant.2 c.give_back.ensures.lent,
  λ x. grind (arith, common_steps, c.give_back.ensures.entries x, c.loop-left.invariant.3 x),
)
