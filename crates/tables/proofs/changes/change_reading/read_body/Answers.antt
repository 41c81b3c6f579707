use Rattle.std.proofs.Common.{arith}
use Rattle.tables.proofs.ChangeBodies.{is_found, is_held, is_only}
use Rattle.tables.proofs.changes.change_reading.read_body.Goals as goal

pub returns-clause-found : goal.returns-clause-found
returns-clause-found c = is_found c.args.bytes.now c.whole.result (λ i. omega (arith, c.type_inv.bytes i)) c.whole.ensures.exact

pub returns-clause-only : goal.returns-clause-only
returns-clause-only c = is_only c.args.bytes.now c.whole.result c.whole.ensures.exact

pub returns-clause-memory : goal.returns-clause-memory
returns-clause-memory c refused = is_held c.args.bytes.now (λ i. omega (arith, c.type_inv.bytes i)) (c.whole.ensures.memory refused)
