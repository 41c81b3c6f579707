use Rattle.std.proofs.Common.{arith}
use Rattle.frames.proofs.Startups.{is_found, is_only, is_waiting, is_fault}
use Rattle.frames.proofs.frontend.startup.read_startup.Goals as goal

pub returns-clause-found : goal.returns-clause-found
returns-clause-found c = is_found c.args.bytes.now c.startup_of.result (λ i. omega (arith, c.type_inv.bytes i)) c.startup_of.ensures.exact

pub returns-clause-only : goal.returns-clause-only
returns-clause-only c = is_only c.args.bytes.now c.startup_of.result c.startup_of.ensures.exact

pub returns-clause-waits : goal.returns-clause-waits
returns-clause-waits c = is_waiting c.args.bytes.now c.startup_of.result c.startup_of.ensures.exact c.startup_of.ensures.memory

pub returns-clause-fault : goal.returns-clause-fault
returns-clause-fault c = is_fault c.args.bytes.now c.startup_of.result (λ i. omega (arith, c.type_inv.bytes i)) c.startup_of.ensures.exact c.startup_of.ensures.memory
