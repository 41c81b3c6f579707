use Rattle.std.proofs.Common.{arith}
use Rattle.tables.proofs.Values.{none_spelled}
use Rattle.tables.proofs.rows.uuids.uuid_of_text.Goals as goal

pub returns-in-Err : goal.returns-in-Err
returns-in-Err c = none_spelled c.args.text.now (omega (arith, c.if-text-ne36.false)) (λ bytes is. let never = c.in-Err.ensures.ok.1 (bytes, is) in cc)
