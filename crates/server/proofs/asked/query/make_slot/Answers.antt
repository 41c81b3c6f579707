use Rattle.std.proofs.Common.{[], ◌∷◌, refl}
use Rattle.server.specs.Calls.{CreateSlot}
use Rattle.server.specs.Conversation.{MakesSlot}
use Rattle.server.specs.Said.{answer_to_create}
use Rattle.server.proofs.Steps.{gave}
use Rattle.server.proofs.asked.query.make_slot.Goals as goal

pub returns : goal.returns
returns g c =
    let told = rw c.as_str.ensures.value at c.create-answer.ensures in
    let says = rw c.as_str-2.ensures.value at c.say_created.ensures in
    gave g.D.Backend.told (MakesSlot c.args.slot.now) (CreateSlot c.args.slot.now c.create-answer.result ∷ []) (answer_to_create c.args.slot.now c.create-answer.result) c.say_created.result
    c.args.backend.now c.args.out.now.items c.create-answer.new.self c.say_created.new.out.items (c.create-answer.new.self, told, refl) (c.create-answer.result, refl, refl) says
