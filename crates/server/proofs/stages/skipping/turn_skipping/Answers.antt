use Rattle.std.proofs.Common.{◌≡◌, refl, sym, inr}
use Rattle.server.specs.declared.stages.stage.Stage.TheVariants.{Skipping}
use Rattle.server.specs.Turns.{Skips}
use Rattle.server.proofs.Passing.{front_passed, front_refused_quietly}
use Rattle.server.proofs.stages.skipping.turn_skipping.Goals as goal

pub returns-in-Ok-Some-clause-turned : goal.returns-in-Ok-Some-clause-turned
returns-in-Ok-Some-clause-turned c service =
    let found = rw c.in-Ok-Some.field-0-is at c.in-Ok-Some.ensures.found in
    rw c.in-Ok-Some.field-0-is (front_passed service (Skipping c.args.database) (Skips c.args.database) c.args.pending.now c.in-Ok-Some.count c.in-Ok-Some.front c.pass_front-stage.result (c.args.out.now.items ≡ c.args.out.now.items) c.args.out.now.items c.args.out.now.items
    (λ t n is answered. inr (is, answered)) (sym c.if-is_extended.ensures) found.0 found.1 found.2 (rw c.in-Ok-Some.field-0-is at c.pass_front-stage.ensures) refl)

pub returns-in-Err-clause-turned : goal.returns-in-Err-clause-turned
returns-in-Err-clause-turned c service =
    front_refused_quietly service (Skipping c.args.database) (Skips c.args.database) c.args.pending.now c.in-Err.fault c.args.out.now.items c.refuse.new.out.items c.refuse.result
    (λ t n is answered. inr (is, answered)) (sym c.if-is_extended.ensures) c.in-Err.ensures.exact c.refuse.ensures.readable c.refuse.ensures.closes c.refuse.ensures.says
