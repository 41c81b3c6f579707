use Rattle.std.proofs.Common.{arith}
use Rattle.frames.proofs.Readers.{is_found, is_only, is_waiting, is_fault}
use Rattle.frames.specs.Front.{front_needs_memory}
use Rattle.frames.proofs.Bodies.{front_bodies}
use Rattle.frames.proofs.front.read_front.Goals as goal

pub returns-clause-found : goal.returns-clause-found
returns-clause-found c = is_found front_bodies c.args.bytes.now c.front_of.result (λ i. omega (arith, c.type_inv.bytes i)) c.front_of.ensures.exact

pub returns-clause-only : goal.returns-clause-only
returns-clause-only c = is_only front_bodies c.args.bytes.now c.front_of.result c.front_of.ensures.exact

pub returns-clause-waits : goal.returns-clause-waits
returns-clause-waits c = is_waiting front_bodies front_needs_memory c.args.bytes.now c.front_of.result c.front_of.ensures.exact c.front_of.ensures.memory

pub returns-clause-fault : goal.returns-clause-fault
returns-clause-fault c = is_fault front_bodies front_needs_memory c.args.bytes.now c.front_of.result (λ i. omega (arith, c.type_inv.bytes i)) c.front_of.ensures.exact c.front_of.ensures.memory
