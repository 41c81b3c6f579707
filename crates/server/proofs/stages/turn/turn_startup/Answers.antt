use Rattle.std.proofs.Common.{◌≡◌}
use Rattle.server.proofs.Turning.{startup_turned, startup_refused_turned}
use Rattle.server.proofs.stages.turn.turn_startup.Goals as goal

pub returns-in-Err-clause-turned : goal.returns-in-Err-clause-turned
returns-in-Err-clause-turned c = startup_refused_turned c.args.service c.args.pending.now c.in-Err.fault c.args.out.now.items c.refuse.new.out.items c.refuse.result c.in-Err.ensures.exact c.refuse.ensures.readable c.refuse.ensures.closes c.refuse.ensures.says

pub returns-in_ok-stage-in-Ok-Some-clause-turned : goal.returns-in_ok-stage-in-Ok-Some-clause-turned
returns-in_ok-stage-in-Ok-Some-clause-turned c =
    let found = rw c.in-Ok-Some.field-0-is at c.in-Ok-Some.ensures.found in
    startup_turned c.args.service c.args.pending.now c.in-Ok-Some.count c.in-Ok-Some.startup c.in_ok-stage-in-Ok-Some.stage (c.answer_startup.new.out.items ≡ c.args.out.now.items) c.args.out.now.items c.answer_startup.new.out.items
    found.0 found.1 c.in_ok-stage-in-Ok-Some.ensures.says
