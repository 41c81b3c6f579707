use Rattle.std.proofs.Common.{sym, subst, ◌∙◌, arith}
use Rattle.std.specs.Prelude.{Result}
use Rattle.copyboth.specs.declared.status.Status.{Status}
use Rattle.copyboth.specs.declared.fault.CopyFault.{CopyFault}
use Rattle.copyboth.specs.Reading.{FaultIs}
use Rattle.copyboth.specs.Status.{client_fault}
use Rattle.copyboth.proofs.Bodies.{client_found, client_again}
use Rattle.copyboth.proofs.Faults.{client_fault_is}
use Rattle.copyboth.proofs.status.read_client.Goals as goal

pub returns-clause-found : goal.returns-clause-found
returns-clause-found c = client_found c.args.bytes.now c.client_of.result (λ i. omega (arith, c.type_inv.bytes i)) c.client_of.ensures

pub returns-clause-only : goal.returns-clause-only
returns-clause-only c = λ b spelled. c.client_of.ensures ∙ client_again c.args.bytes.now b spelled

pub returns-clause-fault : goal.returns-clause-fault
returns-clause-fault c = subst (λ (r : Result Status CopyFault). FaultIs r (client_fault c.args.bytes.now)) (sym c.client_of.ensures) (client_fault_is c.args.bytes.now)
