use Rattle.std.proofs.Common.{arith, ap, sym, ◌∙◌}
use Rattle.pqformat.specs.Fields.{bytes_at}
use Rattle.segments.proofs.Reading.{header_read}
use Rattle.segments.proofs.header.key_of.Goals as goal

pub returns-clause-key : goal.returns-clause-key
returns-clause-key c =
    (header_read c.args.bytes.now c.in-Some.front.now c.take.new.self c.u64.new.self c.in-Some-u64.wanted c.in_ok-key.key (λ i. omega (arith, c.type_inv.bytes i))
    (ap (bytes_at 20) (sym c.new-cursor.ensures) ∙ c.in-Some.ensures) c.in-Some-u64.ensures c.in_ok-key.ensures.key (sym c.digest_of.ensures.value ∙ c.if-digest_of-wanted.false)).0

pub returns-clause-long : goal.returns-clause-long
returns-clause-long c =
    (header_read c.args.bytes.now c.in-Some.front.now c.take.new.self c.u64.new.self c.in-Some-u64.wanted c.in_ok-key.key (λ i. omega (arith, c.type_inv.bytes i))
    (ap (bytes_at 20) (sym c.new-cursor.ensures) ∙ c.in-Some.ensures) c.in-Some-u64.ensures c.in_ok-key.ensures.key (sym c.digest_of.ensures.value ∙ c.if-digest_of-wanted.false)).1
