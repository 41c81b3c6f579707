use Rattle.std.proofs.Common.{◌≡◌, sym, subst}
use Rattle.connections.specs.declared.authentication.stage.AuthenticationStage.TheVariants.{Fresh}
use Rattle.connections.proofs.Turning.{startup_refused_turned, startup_turned}
use Rattle.connections.proofs.authentication.turn.turn_startup.Goals as goal

pub returns-in-Err-clause-turned : goal.returns-in-Err-clause-turned
returns-in-Err-clause-turned c =
    startup_refused_turned c.args.guarding.users.now c.args.guarding.nonce.now c.args.pending.now c.in-Err.fault c.args.out.now.items c.refuse_startup.new.out.items c.refuse_startup.result
    c.in-Err.ensures.exact c.refuse_startup.ensures.readable c.refuse_startup.ensures.closes c.refuse_startup.ensures.says

pub returns-in_ok-stage-in-Ok-Some-clause-turned : goal.returns-in_ok-stage-in-Ok-Some-clause-turned
returns-in_ok-stage-in-Ok-Some-clause-turned c =
    let found = rw c.in-Ok-Some.field-0-is at c.in-Ok-Some.ensures.found in
    startup_turned c.args.guarding.users.now c.args.guarding.nonce.now c.args.pending.now c.in-Ok-Some.count c.in-Ok-Some.startup c.in_ok-stage-in-Ok-Some.stage c.args.out.now.items c.answer_startup.new.out.items
    found.0 found.1 c.in_ok-stage-in-Ok-Some.ensures.opens
