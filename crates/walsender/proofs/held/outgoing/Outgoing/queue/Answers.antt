use Rattle.std.proofs.Common.{◌≡◌, ap, length, subst, sym, ◌∙◌, arith}
use Rattle.std.specs.Int.{w64}
use Rattle.std.proofs.lemmas.Int.{to_z-of_z}
use Rattle.reorder.specs.Ready.{IsReadyIn, ReadyState}
use Rattle.reorder.specs.Settled.{after_giving_back}
use Rattle.walsender.specs.Waiting.{ready_states}
use Rattle.walsender.proofs.Committing.{lent_queued, queue_grows, queue_taken, refused_grows, refused_taken, refused_tidy}
use Rattle.walsender.proofs.Lent.{lent_first}
use Rattle.walsender.proofs.Queueing.{places_low}
use Rattle.walsender.proofs.Sized.{size_given_back}
use Rattle.walsender.proofs.held.outgoing.Outgoing.queue.Goals as goal

pub commit-requires : goal.commit-requires
commit-requires c =
    let o = c.args.self.now in
    omega (arith, places_low (length o.made.items) o.waiting.items c.requires.good.within, c.requires.good.placed)

pub finish-requires : goal.finish-requires
finish-requires c =
    subst (λ (r : ReadyState). IsReadyIn c.args.reorder.now.strands.pool r) (sym c.in-Err.ensures.err.0)
    (lent_first c.args.reorder.now (ready_states c.args.self.now.waiting.items) c.args.ready c.requires.lent).0

pub returns-in-Ok-clause-grows : goal.returns-in-Ok-clause-grows
returns-in-Ok-clause-grows c =
    let q = rw (to_z-of_z w64 c.args.clock c.ranges.clock) at c.in-Ok.ensures.ok in
    queue_grows c.args.selection.now c.args.reorder.now c.args.self.now c.commit.new.self c.args.ready c.args.clock c.args.header c.requires.good q c.requires.lent c.requires.some

pub returns-in-Ok-clause-taken : goal.returns-in-Ok-clause-taken
returns-in-Ok-clause-taken c = λ rs taken.
    let q = rw (to_z-of_z w64 c.args.clock c.ranges.clock) at c.in-Ok.ensures.ok in
    queue_taken c.args.selection.now c.args.reorder.now c.args.self.now c.commit.new.self c.args.ready c.args.clock c.args.header c.requires.good q rs c.requires.lent taken

pub returns-in-Ok-clause-lent : goal.returns-in-Ok-clause-lent
returns-in-Ok-clause-lent c =
    let q = rw (to_z-of_z w64 c.args.clock c.ranges.clock) at c.in-Ok.ensures.ok in
    lent_queued c.args.selection.now c.args.reorder.now c.args.self.now c.commit.new.self c.args.ready c.args.clock c.args.header c.requires.good q

pub returns-in-Err-clause-grows : goal.returns-in-Err-clause-grows
returns-in-Err-clause-grows c =
    let back : c.finish.new.self ≡ after_giving_back c.args.reorder.now c.args.ready = c.finish.ensures.exact ∙ ap (after_giving_back c.args.reorder.now) c.in-Err.ensures.err.0 in
    refused_grows c.args.selection.now c.args.reorder.now c.finish.new.self c.args.self.now c.args.ready c.args.clock c.requires.good c.requires.lent back c.commit.new.self c.in-Err.ensures.err.1 _ _

pub returns-in-Err-clause-taken : goal.returns-in-Err-clause-taken
returns-in-Err-clause-taken c =
    let back : c.finish.new.self ≡ after_giving_back c.args.reorder.now c.args.ready = c.finish.ensures.exact ∙ ap (after_giving_back c.args.reorder.now) c.in-Err.ensures.err.0 in
    refused_taken c.args.selection.now c.args.reorder.now c.finish.new.self c.args.self.now c.args.ready c.args.clock c.requires.good c.requires.lent back c.commit.new.self c.in-Err.ensures.err.1

pub returns-in-Err-clause-tidy : goal.returns-in-Err-clause-tidy
returns-in-Err-clause-tidy c =
    let back : c.finish.new.self ≡ after_giving_back c.args.reorder.now c.args.ready = c.finish.ensures.exact ∙ ap (after_giving_back c.args.reorder.now) c.in-Err.ensures.err.0 in
    refused_tidy c.args.selection.now c.args.reorder.now c.finish.new.self c.args.self.now c.args.ready c.args.clock c.requires.good c.requires.lent back c.commit.new.self c.in-Err.ensures.err.1

pub returns-in-Err-clause-size : goal.returns-in-Err-clause-size
returns-in-Err-clause-size c =
    size_given_back c.args.reorder.now c.finish.new.self c.args.ready (c.finish.ensures.exact ∙ ap (after_giving_back c.args.reorder.now) c.in-Err.ensures.err.0)
