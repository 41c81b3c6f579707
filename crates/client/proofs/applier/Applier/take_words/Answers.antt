use Rattle.std.proofs.Common.{◌++◌, true, false, refl, ◌∙◌}
use Rattle.client.specs.declared.fault.ClientFault.TheVariants.{Memory}
use Rattle.client.specs.Taking.{StopsAfter}
use Rattle.client.proofs.Reaching.{passed, reached_none, reached_more, step_done}
use Rattle.client.proofs.applier.Applier.take_words.Goals as goal

pub returns-in_err-extend_from_slice-clause-err : goal.returns-in_err-extend_from_slice-clause-err
returns-in_err-extend_from_slice-clause-err c =
    let bytes = c.self.inside.unread.items ++ c.args.bytes.now in
    rw (← c.self.view_is)
    (passed (λ e. StopsAfter c.self.inside.progress bytes c.self.inside.progress e) c.from_residual.result Memory c.from_residual.ensures.1 (record { rest = bytes; reached = reached_none c.self.inside.progress bytes; stops = tt }))

pub loop-init : goal.loop-init
loop-init c = rw (← c.self.view_is, c.in_ok-extend_from_slice.ensures.ok) (reached_none c.self.inside.progress (c.self.inside.unread.items ++ c.args.bytes.now), refl)

pub returns-in_err-step-clause-err : goal.returns-in_err-step-clause-err
returns-in_err-step-clause-err c =
    let bytes = c.args.self.now.unread ++ c.args.bytes.now in
    rw c.in_err-step.ensures.unchanged
    (passed (λ e. StopsAfter c.args.self.now.subscriber bytes c.loop.self.subscriber e) c.from_residual-in_err-step.result c.in_err-step.field-0.0 c.from_residual-in_err-step.ensures.1
    (record { rest = c.loop.self.unread; reached = c.loop.invariant.0; stops = c.in_err-step.ensures.err }))

pub loop-preserved : goal.loop-preserved
loop-preserved c =
    let bytes = c.args.self.now.unread ++ c.args.bytes.now in (
      reached_more c.args.self.now.subscriber bytes c.loop.self.subscriber c.loop.self.unread c.step.new.self.subscriber c.step.new.self.unread c.loop.invariant.0 (c.in_ok-step.ensures.more (step_done c.in_ok-step.field-0 true c.if-branch.true)),
      c.in_ok-step.ensures.fault ∙ c.loop.invariant.1,
    )

pub returns-clause-ok : goal.returns-clause-ok
returns-clause-ok c = rw (c.in_ok-step.ensures.none (step_done c.in_ok-step.field-0 false c.if-branch.false)) c.loop.invariant.0
