use Rattle.std.proofs.Common.{arith}
use Rattle.segments.proofs.Told.{record_found}
use Rattle.segments.proofs.records.reading.read_record.Goals as goal

pub returns-clause-found : goal.returns-clause-found
returns-clause-found c = record_found c.args.bytes.now c.record_of.result (λ i. omega (arith, c.type_inv.bytes i)) c.record_of.ensures
