use Rattle.std.proofs.Common.{List, append-nil, ap, map, sym, subst, ◌∙◌}
use Rattle.std.specs.Int.{w64}
use Rattle.std.proofs.lemmas.Int.{to_z-of_z}
use Rattle.reorder.specs.Settled.{after_giving_all_back}
use Rattle.reorder.specs.Taking.{HasTaken}
use Rattle.reorder.proofs.Settling.{taken_settled}
use Rattle.walsender.specs.Outgoing.{lent_in, lent_of}
use Rattle.walsender.specs.Waiting.{ready_states}
use Rattle.walsender.specs.declared.held.committed_transaction.CommittedTransaction.{CommittedTransaction}
use Rattle.walsender.proofs.Noting.{on_ok}
use Rattle.walsender.proofs.held.outgoing.Outgoing.add_record.Goals as goal

pub returns-in-Quiet-clause-grows : goal.returns-in-Quiet-clause-grows
returns-in-Quiet-clause-grows c =
    let grows = rw (to_z-of_z w64 c.args.clock c.ranges.clock) at c.add_note.ensures.grows c.args.reorder.now c.requires.good in
    rw c.in-Quiet.is grows

pub returns-in-Quiet-clause-taken : goal.returns-in-Quiet-clause-taken
returns-in-Quiet-clause-taken c = λ rs taken.
    subst (λ (ws : List CommittedTransaction). HasTaken (after_giving_all_back c.args.reorder.now (ready_states ws)) rs) (sym c.add_note.ensures.waiting)
    (taken_settled c.args.reorder.now (ready_states c.args.self.now.waiting.items) rs c.requires.good.lent taken)

pub returns-in-Ready-clause-tidy : goal.returns-in-Ready-clause-tidy
returns-in-Ready-clause-tidy c = rw c.in-Ready.is c.publish.ensures.tidy

pub returns-in-Quiet-clause-lent : goal.returns-in-Quiet-clause-lent
returns-in-Quiet-clause-lent c =
    let waits = ap (map (lent_in c.args.reorder.now.strands.pool.arena)) c.add_note.ensures.waiting in
    rw c.in-Quiet.is (on_ok c.add_note.result _ (waits ∙ sym (append-nil (lent_of c.args.reorder.now c.args.self.now))))
