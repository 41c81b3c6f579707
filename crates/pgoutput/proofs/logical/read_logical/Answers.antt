use Rattle.std.proofs.Common.{arith}
use Rattle.pgoutput.specs.declared.fault.PgoutputError.TheVariants.{Short, BadMark, BadText}
use Rattle.pgoutput.proofs.Whole.{is_found, is_only, is_fault, is_refused, is_cut, is_at_fault, is_stopped}
use Rattle.pgoutput.proofs.logical.read_logical.Goals as goal

pub returns-clause-found : goal.returns-clause-found
returns-clause-found c = is_found c.args.bytes.now c.whole.result (λ i. omega (arith, c.type_inv.bytes i)) c.whole.ensures.exact

pub returns-clause-only : goal.returns-clause-only
returns-clause-only c = is_only c.args.bytes.now c.whole.result c.whole.ensures.exact

pub returns-clause-fault : goal.returns-clause-fault
returns-clause-fault c = is_fault c.args.bytes.now c.whole.result (λ i. omega (arith, c.type_inv.bytes i)) c.whole.ensures.exact c.whole.ensures.memory

pub returns-clause-refused : goal.returns-clause-refused
returns-clause-refused c = is_refused c.args.bytes.now c.whole.result c.whole.ensures.exact

pub returns-clause-cut : goal.returns-clause-cut
returns-clause-cut c = is_cut c.args.bytes.now c.whole.result c.whole.ensures.exact

pub returns-clause-short : goal.returns-clause-short
returns-clause-short c = is_at_fault c.args.bytes.now c.whole.result Short tt (λ i. omega (arith, c.type_inv.bytes i)) c.whole.ensures.exact

pub returns-clause-bad : goal.returns-clause-bad
returns-clause-bad c = is_at_fault c.args.bytes.now c.whole.result BadMark tt (λ i. omega (arith, c.type_inv.bytes i)) c.whole.ensures.exact

pub returns-clause-text : goal.returns-clause-text
returns-clause-text c = is_at_fault c.args.bytes.now c.whole.result BadText tt (λ i. omega (arith, c.type_inv.bytes i)) c.whole.ensures.exact

pub returns-clause-stopped : goal.returns-clause-stopped
returns-clause-stopped c = is_stopped c.args.bytes.now c.whole.result c.whole.ensures.exact
