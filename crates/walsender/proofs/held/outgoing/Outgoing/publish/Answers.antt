use Rattle.std.proofs.Common.{◌≡◌, ℕ, [], ◌∷◌, ◌++◌, subst, sym}
use Rattle.reorder.specs.Chunks.{IsTidy}
use Rattle.reorder.specs.Ready.{IsReadyIn, ReadyState}
use Rattle.reorder.specs.Settled.{after_giving_all_back, after_giving_back}
use Rattle.walsender.specs.Outgoing.{settled_of}
use Rattle.walsender.specs.Waiting.{ready_states}
use Rattle.walsender.proofs.Committing.{none_grows, none_lent, unqueued_taken, unqueued_tidy}
use Rattle.walsender.proofs.Lent.{lent_first}
use Rattle.walsender.proofs.Sized.{size_given_back}
use Rattle.walsender.proofs.held.outgoing.Outgoing.publish.Goals as goal

pub judge-requires : goal.judge-requires
judge-requires c = record { held = (lent_first c.args.reorder.now (ready_states c.args.self.now.waiting.items) c.args.ready c.requires.lent).0 }

pub finish-requires : goal.finish-requires
finish-requires c = subst (λ (r : ReadyState). IsReadyIn c.args.reorder.now.strands.pool r) (sym c.judge.ensures.ready) (lent_first c.args.reorder.now (ready_states c.args.self.now.waiting.items) c.args.ready c.requires.lent).0

pub returns-in-None-clause-grows : goal.returns-in-None-clause-grows
returns-in-None-clause-grows c =
    let value = rw c.in-None.is at c.judge.ensures.value in
    let g = none_grows c.args.selection.now c.args.reorder.now c.finish.new.self c.args.self.now c.args.ready c.args.clock c.requires.good c.requires.lent (subst (λ (r : ReadyState). c.finish.new.self ≡ after_giving_back c.args.reorder.now r) c.judge.ensures.ready c.finish.ensures.exact) in
    rw (← value) g

pub returns-in-None-clause-taken : goal.returns-in-None-clause-taken
returns-in-None-clause-taken c = unqueued_taken c.args.selection.now c.args.reorder.now c.finish.new.self c.args.self.now c.args.ready c.args.clock c.requires.good c.requires.lent (subst (λ (r : ReadyState). c.finish.new.self ≡ after_giving_back c.args.reorder.now r) c.judge.ensures.ready c.finish.ensures.exact)

pub returns-in-None-clause-tidy : goal.returns-in-None-clause-tidy
returns-in-None-clause-tidy c = unqueued_tidy c.args.selection.now c.args.reorder.now c.finish.new.self c.args.self.now c.args.ready c.args.clock c.requires.good c.requires.lent (subst (λ (r : ReadyState). c.finish.new.self ≡ after_giving_back c.args.reorder.now r) c.judge.ensures.ready c.finish.ensures.exact)

pub returns-in-Some-clause-tidy : goal.returns-in-Some-clause-tidy
returns-in-Some-clause-tidy c =
    subst (λ (r : ReadyState). (count : ℕ) → IsTidy count [] (after_giving_all_back c.args.reorder.now (ready_states c.args.self.now.waiting.items ++ r ∷ [])).strands → IsTidy count [] (settled_of c.queue.new.reorder c.queue.new.self).strands)
    c.judge.ensures.ready c.queue.ensures.tidy

pub returns-in-None-clause-lent : goal.returns-in-None-clause-lent
returns-in-None-clause-lent c =
    let value = rw c.in-None.is at c.judge.ensures.value in
    let l = none_lent c.args.selection.now c.args.reorder.now c.finish.new.self c.args.self.now c.args.ready c.args.clock c.requires.good c.requires.lent (subst (λ (r : ReadyState). c.finish.new.self ≡ after_giving_back c.args.reorder.now r) c.judge.ensures.ready c.finish.ensures.exact) in
    rw (← value) l

pub returns-in-None-clause-size : goal.returns-in-None-clause-size
returns-in-None-clause-size c =
    size_given_back c.args.reorder.now c.finish.new.self c.args.ready (subst (λ (r : ReadyState). c.finish.new.self ≡ after_giving_back c.args.reorder.now r) c.judge.ensures.ready c.finish.ensures.exact)
