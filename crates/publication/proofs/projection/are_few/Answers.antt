use Rattle.std.proofs.Common.{arith}
use Rattle.publication.proofs.Projecting.{few_coded}
use Rattle.publication.proofs.projection.are_few.Goals as goal

pub returns-clause-coded : goal.returns-clause-coded
returns-clause-coded c = λ is. few_coded c.args.oids.now (λ i. omega (arith, c.type_inv.oids i)) is
