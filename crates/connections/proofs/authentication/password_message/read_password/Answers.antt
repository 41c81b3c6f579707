use Rattle.std.proofs.Common.{arith}
use Rattle.connections.proofs.Messages.{found_of}
use Rattle.connections.proofs.authentication.password_message.read_password.Goals as goal

pub returns-clause-found : goal.returns-clause-found
returns-clause-found c = found_of c.args.bytes.now c.body_alone.result (λ i. omega (arith, c.type_inv.bytes i)) c.body_alone.ensures
