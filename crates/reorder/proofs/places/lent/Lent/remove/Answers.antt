use Rattle.std.proofs.Common.{arith}
use Rattle.std.proofs.lemmas.Grind.{common_steps}
use Rattle.reorder.proofs.places.lent.Lent.remove.Goals as goal

pub returns-in-Several-clause-others : goal.returns-in-Several-clause-others
returns-in-Several-clause-others c = λ x. rw c.in-Several.is (grind (arith, common_steps, c.remove.ensures.updates.0 x))
