use Rattle.std.proofs.Common.{[], ◌∷◌, refl}
use Rattle.server.specs.declared.asked.question.Question.TheVariants as questions
use Rattle.server.specs.Answers.{publications_told}
use Rattle.server.specs.Calls as calls
use Rattle.server.specs.Conversation.{AnswersQuestion}
use Rattle.server.proofs.Steps.{gave}
use Rattle.server.proofs.asked.replying.tell_publications.Goals as goal

pub returns : goal.returns
returns g c =
    gave g.D.Backend.told (AnswersQuestion (questions.Publications c.args.names.now)) (calls.Publications c.args.names.now c.publications-answer.result ∷ []) (publications_told c.publications-answer.result) c.say_publications.result
    c.args.backend.now c.args.out.now.items c.publications-answer.new.self c.say_publications.new.out.items (c.publications-answer.new.self, c.publications-answer.ensures.told, refl) (c.publications-answer.result, refl, refl) c.say_publications.ensures
