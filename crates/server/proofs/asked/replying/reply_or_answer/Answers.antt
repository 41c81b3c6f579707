use Rattle.std.proofs.Common.{Bool, false, List, ℕ, refl, inl, inr, rules}
use Rattle.std.proofs.lemmas.Result.{err_from_is_err_and}
use Rattle.replcmd.specs.declared.clauses.strictness.Strictness.TheVariants.{Lenient}
use Rattle.server.specs.declared.asked.question.Question.{Question}
use Rattle.server.specs.Questions.{SpellsQuestion}
use Rattle.server.specs.declared.connection_terms.Dialect.TheVariants.{Questions}
use Rattle.server.specs.Conversation.{AnswersQuestion, Replies, RepliesIn, why_of}
use Rattle.server.proofs.Names.{short_parameter}
use Rattle.server.proofs.Steps.{answered_as, tried_as}
use Rattle.server.proofs.asked.replying.reply_or_answer.Goals as goal

pub returns-in_err-answer_question-in-Some : goal.returns-in_err-answer_question-in-Some
returns-in_err-answer_question-in-Some g c =
    let p = err_from_is_err_and c.from_residual-in_err-answer_question-in-Some.result c.from_residual-in_err-answer_question-in-Some.ensures.1 in
    let asked : SpellsQuestion c.args.query.now c.in-Some.question = search rules in
    rw p.1 (
      tried_as g.D.Backend.told (λ calls. (u : Unit {0}) × (text : List ℕ) × AnswersQuestion c.in-Some.question calls text)
          (λ calls. (begins : Bool) × (text : List ℕ) × RepliesIn Questions c.args.database.now c.args.query.now begins calls text) c.args.backend.now c.answer_question.new.backend
          (λ calls part. (false, part.1, inl ((c.in-Some.question, asked, part.2), refl))) c.in_err-answer_question-in-Some.ensures.0,
      c.in_err-answer_question-in-Some.ensures.1,
    )

pub returns-in-None : goal.returns-in-None
returns-in-None g c =
    let none : (question : Question) → SpellsQuestion c.args.query.now question → ⊥ = search rules in
    answered_as g.D.Backend.told c.reply.result (λ begun. Replies Lenient (why_of false) c.args.database.now c.args.query.now begun) (λ begun. RepliesIn Questions c.args.database.now c.args.query.now begun) c.args.backend.now c.args.out.now.items c.reply.new.backend c.reply.new.out.items
    (λ begun calls text fact. inr (none, fact)) c.reply.ensures

pub answer_question-requires : goal.answer_question-requires
answer_question-requires g c =
    let asked : SpellsQuestion c.args.query.now c.in-Some.question = search rules in
    short_parameter c.args.query.now c.in-Some.question asked
