use Rattle.std.proofs.Common.{arith}
use Rattle.server.proofs.Extending.{found_of}
use Rattle.server.proofs.asked.extended.read_extended.Goals as goal

pub returns-clause-found : goal.returns-clause-found
returns-clause-found c = found_of c.args.bytes.now c.framed.result (λ i. omega (arith, c.type_inv.bytes i)) c.framed.ensures
