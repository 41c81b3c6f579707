use Rattle.std.proofs.Common.{◌∙◌, Bool, ap, sym, arith}
use Rattle.conditions.specs.Conditions.{Condition}
use Rattle.conditions.specs.Steps.{outcome, turns}
use Rattle.conditions.specs.Truth.{is_true, truth}
use Rattle.conditions.proofs.Stepping.{all_led, ended, next_lower, next_same}
use Rattle.conditions.proofs.flat.steps.holds_by.Goals as goal

pub loop-next-smaller : goal.loop-next-smaller
loop-next-smaller c =
    let lower = next_lower c.args.steps.now c.loop-next.next c.index-steps-next.result c.holds.result c.loop-next-test.true c.loop-next.invariant.within c.index-steps-next.is c.requires in
    omega (arith, c.next-next.ensures, lower)

pub loop-next-preserved : goal.loop-next-preserved
loop-next-preserved c =
    let steps = c.args.steps.now in
    let step = c.index-steps-next.result in
    let test = c.loop-next-test.true in
    let within = c.loop-next.invariant.within in
    let answers : Condition → Bool = λ d. is_true (truth d c.args.row.now) in
    record {
      read = c.holds.ensures.read;
      within = omega (arith, within, c.next-next.ensures, next_lower steps c.loop-next.next step c.holds.result test within c.index-steps-next.is c.requires);
      same =
          ap (λ n. outcome answers n (turns steps)) c.next-next.ensures
          ∙ next_same answers steps c.loop-next.next step c.holds.result test within c.index-steps-next.is c.requires c.holds.ensures.answer
          ∙ c.loop-next.invariant.same;
    }

-- src/steps.rt:64:1
pub returns : goal.returns
returns c d are =
    let answers : Condition → _ = λ e. is_true (truth e c.args.row.now) in
    sym (ended answers c.loop-next.next (turns c.args.steps.now) c.loop-next-test.false) ∙ c.loop-next.invariant.same ∙ all_led c.args.row.now c.args.steps.now d are
