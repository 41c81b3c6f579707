use Rattle.std.proofs.Common.{◌≡◌, ◌-◌, ◌==◌, false, true, length, rules, arith, sym, ◌∙◌, ap}
use Rattle.std.proofs.lemmas.Result.{err_from_is_err_and}
use Rattle.scram.specs.Attributes.{proof_at}
use Rattle.scram.proofs.Passing.{proof_passed, proof_found, proof_refused, no_proof}
use Rattle.scram.proofs.client_side.attributes.Attributes.proof.Goals as goal

pub returns-then-attribute-eq112 : goal.returns-then-attribute-eq112
returns-then-attribute-eq112 c =
    let is : (c.in_ok-attribute.attribute == 112) ≡ true = search rules in
    let here = proof_found (length c.self.inside.rest.now) c.loop-count._count c.loop-count.self ((c.in_ok-attribute.attribute, c.in_ok-attribute.value.now), c.any.new.self) (omega arith) c.in_ok-attribute.ensures is in
    rw c.self-in-loop-count.view_is (sym c.loop-count.invariant ∙ here)

pub loop-count-preserved : goal.loop-count-preserved
loop-count-preserved c =
    let is : (c.in_ok-attribute.attribute == 112) ≡ false = search rules in
    sym (proof_passed (length c.self.inside.rest.now) c.loop-count._count c.loop-count.self ((c.in_ok-attribute.attribute, c.in_ok-attribute.value.now), c.any.new.self) (omega arith) c.in_ok-attribute.ensures is) ∙ c.loop-count.invariant

pub returns : goal.returns
returns c =
    let none : length c.self.inside.rest.now - c.loop-count._count ≡ 0 = omega arith in
    sym c.loop-count.invariant ∙ (ap (λ n. proof_at n c.loop-count.self) none ∙ no_proof c.loop-count.self)

pub returns-in_err-attribute : goal.returns-in_err-attribute
returns-in_err-attribute c =
    let p = err_from_is_err_and c.from_residual.result c.from_residual.ensures.1 in
    rw (p.1, p.2) (sym c.loop-count.invariant ∙ proof_refused (length c.self.inside.rest.now) c.loop-count._count c.loop-count.self c.in_err-attribute.field-0.0 (omega arith) c.in_err-attribute.ensures)
