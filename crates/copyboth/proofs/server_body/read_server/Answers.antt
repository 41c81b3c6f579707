use Rattle.std.proofs.Common.{sym, subst, ◌∙◌, arith}
use Rattle.std.specs.Prelude.{Result}
use Rattle.copyboth.specs.declared.server_body.ServerBody.{ServerBody}
use Rattle.copyboth.specs.declared.fault.CopyFault.{CopyFault}
use Rattle.copyboth.specs.Reading.{FaultIs}
use Rattle.copyboth.specs.Server.{server_fault}
use Rattle.copyboth.proofs.Bodies.{server_found, server_again}
use Rattle.copyboth.proofs.Faults.{server_fault_is}
use Rattle.copyboth.proofs.server_body.read_server.Goals as goal

pub returns-clause-found : goal.returns-clause-found
returns-clause-found c = server_found c.args.bytes.now c.server_of.result (λ i. omega (arith, c.type_inv.bytes i)) c.server_of.ensures

pub returns-clause-only : goal.returns-clause-only
returns-clause-only c = λ b spelled. c.server_of.ensures ∙ server_again c.args.bytes.now b spelled

pub returns-clause-fault : goal.returns-clause-fault
returns-clause-fault c = subst (λ (r : Result ServerBody CopyFault). FaultIs r (server_fault c.args.bytes.now)) (sym c.server_of.ensures) (server_fault_is c.args.bytes.now)
