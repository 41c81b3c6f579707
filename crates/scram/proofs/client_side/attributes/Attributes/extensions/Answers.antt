use Rattle.std.proofs.Common.{◌≡◌, ◌<◌, ◌-◌, length, rules, arith, sym, ◌∙◌, ap}
use Rattle.std.proofs.lemmas.Result.{err_from_is_err_and}
use Rattle.scram.specs.Attributes.{extensions_at}
use Rattle.scram.proofs.Passing.{extension_passed, extension_refused, no_more_extensions}
use Rattle.scram.proofs.client_side.attributes.Attributes.extensions.Goals as goal

pub returns-in_err-any : goal.returns-in_err-any
returns-in_err-any c =
    let p = err_from_is_err_and c.from_residual.result c.from_residual.ensures.1 in
    let some : 0 < length c.loop-count.self = search rules in
    rw (p.1, p.2) (sym c.loop-count.invariant ∙ extension_refused (length c.self.inside.rest.now) c.loop-count._count c.loop-count.self c.in_err-any.field-0.0 (omega arith) some c.in_err-any.ensures)

pub loop-count-preserved : goal.loop-count-preserved
loop-count-preserved c =
    sym (extension_passed (length c.self.inside.rest.now) c.loop-count._count c.loop-count.self ((c.in_ok-any.field-0.0, c.in_ok-any.field-0.1.now), c.any.new.self) (omega arith) c.in_ok-any.ensures) ∙ c.loop-count.invariant

pub returns : goal.returns
returns c =
    let none : length c.self.inside.rest.now - c.loop-count._count ≡ 0 = omega arith in
    sym c.loop-count.invariant ∙ (ap (λ n. extensions_at n c.loop-count.self) none ∙ no_more_extensions c.loop-count.self)
