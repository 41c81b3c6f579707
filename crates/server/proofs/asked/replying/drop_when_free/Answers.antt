use Rattle.std.proofs.Common.{[], ◌∷◌, refl}
use Rattle.server.specs.declared.asked.question.Question.TheVariants.{DropWhenFree}
use Rattle.server.specs.Calls.{DropSlot}
use Rattle.server.specs.Conversation.{AnswersQuestion}
use Rattle.server.specs.Said.{answer_to_drop}
use Rattle.server.proofs.Steps.{gave}
use Rattle.server.proofs.asked.replying.drop_when_free.Goals as goal

pub returns : goal.returns
returns g c =
    let told = rw c.as_str.ensures.value at c.drop_when_free-answer.ensures in
    let says = rw c.as_str-2.ensures.value at c.say_dropped.ensures in
    gave g.D.Backend.told (AnswersQuestion (DropWhenFree c.args.slot.now)) (DropSlot c.args.slot.now c.drop_when_free-answer.result ∷ []) (answer_to_drop c.args.slot.now c.drop_when_free-answer.result) c.say_dropped.result
    c.args.backend.now c.args.out.now.items c.drop_when_free-answer.new.self c.say_dropped.new.out.items (c.drop_when_free-answer.new.self, told, refl) (c.drop_when_free-answer.result, refl, refl) says
