use Rattle.std.proofs.Common.{arith}
use Rattle.frames.proofs.Readers.{is_found, is_only, is_waiting, is_fault}
use Rattle.frames.specs.Back.{back_needs_memory}
use Rattle.frames.proofs.Bodies.{back_bodies}
use Rattle.frames.proofs.back.read_back.Goals as goal

pub returns-clause-found : goal.returns-clause-found
returns-clause-found c = is_found back_bodies c.args.bytes.now c.back_of.result (λ i. omega (arith, c.type_inv.bytes i)) c.back_of.ensures.exact

pub returns-clause-only : goal.returns-clause-only
returns-clause-only c = is_only back_bodies c.args.bytes.now c.back_of.result c.back_of.ensures.exact

pub returns-clause-waits : goal.returns-clause-waits
returns-clause-waits c = is_waiting back_bodies back_needs_memory c.args.bytes.now c.back_of.result c.back_of.ensures.exact c.back_of.ensures.memory

pub returns-clause-fault : goal.returns-clause-fault
returns-clause-fault c = is_fault back_bodies back_needs_memory c.args.bytes.now c.back_of.result (λ i. omega (arith, c.type_inv.bytes i)) c.back_of.ensures.exact c.back_of.ensures.memory
