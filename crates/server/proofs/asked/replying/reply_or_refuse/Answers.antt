use Rattle.server.specs.Conversation.{Replies, RepliesIn, why_of}
use Rattle.replcmd.specs.declared.clauses.strictness.Strictness.TheVariants.{Strict}
use Rattle.server.specs.declared.connection_terms.Dialect.TheVariants.{Commands}
use Rattle.server.proofs.Steps.{answered_as}
use Rattle.server.proofs.asked.replying.reply_or_refuse.Goals as goal

pub returns : goal.returns
returns g c =
    answered_as g.D.Backend.told c.reply.result (λ begun. Replies Strict (why_of c.in_ok-is_question.is_question) c.args.database.now c.args.query.now begun) (λ begun. RepliesIn Commands c.args.database.now c.args.query.now begun) c.args.backend.now c.args.out.now.items c.reply.new.backend c.reply.new.out.items
    (λ begun calls text fact. (c.in_ok-is_question.is_question, c.in_ok-is_question.ensures, fact)) c.reply.ensures
