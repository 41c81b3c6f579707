use Rattle.std.proofs.Common.{[], refl}
use Rattle.server.specs.declared.refusal.Refusal.TheVariants as refusals
use Rattle.server.specs.Conversation.{RefusesParameter}
use Rattle.server.specs.Refusals.{parameter_text}
use Rattle.server.specs.Said.{refused_with}
use Rattle.server.proofs.Steps.{gave}
use Rattle.server.proofs.asked.replying.refuse_parameter.Goals as goal

pub returns : goal.returns
returns g c =
    let says = rw (c.as_str.ensures.value, c.in_ok-text.ensures.text) at c.say_refused_with.ensures in
    gave g.D.Backend.told (RefusesParameter c.args.name.now) [] (refused_with refusals.UnknownParameter (parameter_text c.args.name.now)) c.say_refused_with.result
    c.args.backend.now c.args.out.now.items c.args.backend.now c.say_refused_with.new.out.items refl (refl, refl) says
