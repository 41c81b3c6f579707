use Rattle.std.proofs.Common.{[], ◌∷◌, refl}
use Rattle.server.specs.declared.asked.question.Question.TheVariants as questions
use Rattle.server.specs.TableAnswers.{attributes_told}
use Rattle.server.specs.Calls as calls
use Rattle.server.specs.Conversation.{AnswersQuestion}
use Rattle.server.proofs.Steps.{gave}
use Rattle.server.proofs.asked.telling_table.tell_attributes.Goals as goal

pub returns : goal.returns
returns g c =
    gave g.D.Backend.told (AnswersQuestion (questions.Attributes c.args.oid)) (calls.Attributes c.args.oid c.attributes-answer.result ∷ []) (attributes_told c.attributes-answer.result) c.say_attributes.result
    c.args.backend.now c.args.out.now.items c.attributes-answer.new.self c.say_attributes.new.out.items (c.attributes-answer.new.self, c.attributes-answer.ensures.told, refl) (c.attributes-answer.result, refl, refl) c.say_attributes.ensures
