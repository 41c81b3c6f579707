use Rattle.std.proofs.Common.{[], ◌∷◌, false, refl}
use Rattle.server.specs.Calls.{End, System}
use Rattle.server.specs.Conversation.{Runs}
use Rattle.server.specs.Said.{answer_to_identify}
use Rattle.replcmd.specs.declared.command.Command.TheVariants.{Identify}
use Rattle.server.proofs.Steps.{gave}
use Rattle.server.proofs.asked.query.identify.Goals as goal

pub returns : goal.returns
returns g c =
    let says = rw c.as_str.ensures.value at c.say_identified.ensures in
    gave g.D.Backend.told (Runs c.args.database.now Identify false) (End c.end-end.result ∷ System c.systemid.result.now ∷ []) (answer_to_identify c.systemid.result.now c.end-end.result c.args.database.now) c.say_identified.result
    c.args.backend.now c.args.out.now.items c.end-end.new.self c.say_identified.new.out.items (c.end-end.new.self, c.end-end.ensures, (c.end-end.new.self, c.systemid.ensures.told, refl)) (c.end-end.result, c.systemid.result.now, refl, refl, refl) says
