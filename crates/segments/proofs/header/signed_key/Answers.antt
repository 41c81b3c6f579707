use Rattle.std.proofs.Common.{arith, ap, sym, ◌∙◌}
use Rattle.std.specs.Int.{w64}
use Rattle.pqformat.specs.Fields.{number_at}
use Rattle.segments.proofs.Reading.{signature_read}
use Rattle.segments.proofs.header.signed_key.Goals as goal

pub returns-in-Some-u64-clause-key : goal.returns-in-Some-u64-clause-key
returns-in-Some-u64-clause-key c =
    let magic = c.in-Some-eq6228318187086701834 in
    let version = c.in-Some-eq1 in
    signature_read c.args.front.now c.u64.new.self c.u32.new.self c.u64-2.new.self magic.field-0 version.field-0 c.in-Some-u64.key (λ i. omega (arith, c.type_inv.front i))
    (ap (number_at w64) (sym c.new-cursor.ensures) ∙ magic.ensures) version.ensures c.in-Some-u64.ensures magic.field-0-test version.field-0-test
