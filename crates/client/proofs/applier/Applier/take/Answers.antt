use Rattle.std.proofs.Common.{◌++◌, Some, sym, ap, subst, ◌∙◌}
use Rattle.client.specs.Taking.{ApplierState, StopsAfter, StopsForMemory}
use Rattle.client.proofs.Laws.{follows_ok, follows_err}
use Rattle.client.proofs.applier.Applier.take.Goals as goal

pub returns-in-Err-clause-follows : goal.returns-in-Err-clause-follows
returns-in-Err-clause-follows c =
    let new : ApplierState = record { subscriber = c.self-2.inside.progress; unread = c.self-2.inside.unread.items; fault = Some c.in-Err.fault } in
    follows_err c.args.self.now new c.args.bytes.now c.in-Err.fault
    (subst (λ (a : ApplierState). StopsAfter c.args.self.now.subscriber (c.args.self.now.unread ++ c.args.bytes.now) a.subscriber c.in-Err.fault) (sym c.self-2.view_is) c.in-Err.ensures.err)

pub returns-in_default-taken-clause-follows : goal.returns-in_default-taken-clause-follows
returns-in_default-taken-clause-follows c =
    let sound = c.in_default-taken.ensures.fault ∙ ap (λ (a : ApplierState). a.fault) (sym c.self.view_is) ∙ c.in_default.is in
    rw c.in_default-taken.is (follows_ok c.args.self.now c.take_words-taken.new.self c.args.bytes.now c.in_default-taken.ensures.ok c.in_default-taken.ensures.waits sound)

pub returns-in-Err-clause-memory : goal.returns-in-Err-clause-memory
returns-in-Err-clause-memory c = λ sound is.
    subst (λ (a : ApplierState). StopsForMemory c.args.self.now.subscriber (c.args.self.now.unread ++ c.args.bytes.now) a.subscriber) (sym c.self-2.view_is) (c.in-Err.ensures.memory is)
