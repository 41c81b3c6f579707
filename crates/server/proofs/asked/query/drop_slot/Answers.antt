use Rattle.std.proofs.Common.{[], ◌∷◌, false, refl}
use Rattle.server.specs.Calls.{DropSlot}
use Rattle.server.specs.Conversation.{Runs}
use Rattle.server.specs.Said.{answer_to_drop}
use Rattle.replcmd.specs.declared.command.Command.TheVariants.{Drop}
use Rattle.server.proofs.Steps.{gave}
use Rattle.server.proofs.asked.query.drop_slot.Goals as goal

pub returns : goal.returns
returns g c =
    let told = rw c.as_str.ensures.value at c.drop_slot-answer.ensures in
    let says = rw c.as_str-2.ensures.value at c.say_dropped.ensures in
    gave g.D.Backend.told (Runs c.args.database.now (Drop c.args.slot.now) false) (DropSlot c.args.slot.now c.drop_slot-answer.result ∷ []) (answer_to_drop c.args.slot.now c.drop_slot-answer.result) c.say_dropped.result
    c.args.backend.now c.args.out.now.items c.drop_slot-answer.new.self c.say_dropped.new.out.items (c.drop_slot-answer.new.self, told, refl) (c.drop_slot-answer.result, refl, refl, refl) says
