use Rattle.std.proofs.Common.{[], refl}
use Rattle.server.specs.declared.asked.question.Question.TheVariants.{InitialCopy}
use Rattle.server.specs.declared.refusal.Refusal.TheVariants as refusals
use Rattle.server.specs.Conversation.{AnswersQuestion}
use Rattle.server.specs.Said.{error_and_ready}
use Rattle.server.proofs.Steps.{gave}
use Rattle.server.proofs.asked.replying.refuse_copy.Goals as goal

pub returns : goal.returns
returns g c =
    gave g.D.Backend.told (AnswersQuestion InitialCopy) [] (error_and_ready refusals.InitialCopy) c.say_refused_ready.result c.args.backend.now c.args.out.now.items c.args.backend.now c.say_refused_ready.new.out.items refl (refl, refl) c.say_refused_ready.ensures
