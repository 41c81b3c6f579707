use Rattle.std.proofs.Common.{ℕ, cond, Bool, List, refl, sym}
use Rattle.std.proofs.lemmas.Result.{err_from_is_err_and}
use Rattle.frames.specs.declared.front.Front.TheVariants.{Query}
use Rattle.server.specs.declared.stages.stage.Stage.{Stage}
use Rattle.server.specs.declared.stages.stage.Stage.TheVariants.{Idle, Streaming}
use Rattle.server.specs.Conversation.{RepliesIn}
use Rattle.server.specs.Turns.{Hears}
use Rattle.server.proofs.Steps.{tried_as}
use Rattle.server.proofs.sessions.session.answer_query.Goals as goal

pub returns-then-branch : goal.returns-then-branch
returns-then-branch g c = record {
  asked = c.in_ok-reply_in.ensures.asked;
  text = c.in_ok-reply_in.ensures.text;
  fact = rw (sym c.if-begins_block.ensures) (c.in_ok-reply_in.field-0, c.in_ok-reply_in.ensures.fact, rw c.if-branch.true refl);
  asks = c.in_ok-reply_in.ensures.asks;
  says = c.in_ok-reply_in.ensures.says;
}

pub returns-else-branch : goal.returns-else-branch
returns-else-branch g c = record {
  asked = c.in_ok-reply_in.ensures.asked;
  text = c.in_ok-reply_in.ensures.text;
  fact = rw (sym c.if-begins_block.ensures) (c.in_ok-reply_in.field-0, c.in_ok-reply_in.ensures.fact, rw c.if-branch.false refl);
  asks = c.in_ok-reply_in.ensures.asks;
  says = c.in_ok-reply_in.ensures.says;
}

pub returns-in_err-reply_in : goal.returns-in_err-reply_in
returns-in_err-reply_in g c =
    let p = err_from_is_err_and c.from_residual.result c.from_residual.ensures.1 in
    rw p.1 (
      tried_as g.D.Backend.told (λ asked. (begins : Bool) × (text : List ℕ) × RepliesIn c.args.dialect c.args.database c.args.query.now begins asked text)
          (λ asked. (next : Stage) × (text : List ℕ) × Hears c.args.dialect c.args.database (Query (record { text = c.args.query.now })) asked text next) c.args.backend.now c.reply_in.new.backend
          (λ asked part. (cond part.0 (Streaming c.args.database) (Idle c.args.database), part.1, rw (sym c.if-begins_block.ensures) (part.0, part.2, refl))) c.in_err-reply_in.ensures.0,
      c.in_err-reply_in.ensures.1,
    )

pub returns-then-begins_block : goal.returns-then-begins_block
returns-then-begins_block g c = rw (sym c.if-begins_block.ensures) (c.begin.ensures c.args.dialect c.args.query.now)
