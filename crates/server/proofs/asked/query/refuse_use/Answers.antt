use Rattle.std.proofs.Common.{[], refl}
use Rattle.server.specs.declared.refusal.Refusal.TheVariants as refusals
use Rattle.server.specs.Conversation.{RefusesUse}
use Rattle.server.specs.Said.{error_and_ready}
use Rattle.server.proofs.Steps.{gave}
use Rattle.server.proofs.asked.query.refuse_use.Goals as goal

pub returns : goal.returns
returns g c =
    gave g.D.Backend.told RefusesUse [] (error_and_ready refusals.NoTransaction) c.say_refused_ready.result c.args.backend.now c.args.out.now.items c.args.backend.now c.say_refused_ready.new.out.items refl (refl, refl) c.say_refused_ready.ensures
