use Rattle.std.proofs.Common.{◌∙◌}
use Rattle.hub.specs.Turns.{Answers, Ended, standing}
use Rattle.hub.proofs.Streams.{learnt, one_more}
use Rattle.hub.proofs.Turns.{ended_with_fault, first_turn, one_turn_more, told_answers, told_turn}
use Rattle.hub.proofs.stream.stream_loop.run.Goals as goal

pub returns-in_err-go_on-clause-turns : goal.returns-in_err-go_on-clause-turns
returns-in_err-go_on-clause-turns g c =
    let old = c.args.stream.now in
    let new = c.go_on.new.self in
    let begun = standing old.walsender old.hold.seat (g.W.Write.contents c.args.to.now) in
    let turned = standing new.walsender new.hold.seat (g.W.Write.contents c.go_on.new.to) in
    first_turn g.D.WorkBackend.told old.hold.lease.place (Ended c.from_residual.result) c.args.first c.args.backend.now begun turned (c.go_on.ensures.confirms, c.go_on.ensures.serves)
    (ended_with_fault c.from_residual.result c.args.first begun turned c.from_residual.ensures.0)

pub loop-init : goal.loop-init
loop-init g c =
    let old = c.args.stream.now in
    let new = c.go_on.new.self in
    record {
      serves = c.go_on.ensures.serves;
      turns = first_turn g.D.WorkBackend.told old.hold.lease.place Answers c.args.first c.args.backend.now (standing old.walsender old.hold.seat (g.W.Write.contents c.args.to.now)) (standing new.walsender new.hold.seat (g.W.Write.contents c.go_on.new.to))
          (c.go_on.ensures.confirms, c.go_on.ensures.serves) c.in_ok-go_on.ensures.answers;
      lease = c.go_on.ensures.lease;
    }

pub loop-preserved : goal.loop-preserved
loop-preserved g c =
    let old = c.args.stream.now in
    let here = c.loop.stream in
    let told = c.next-work.new.stream in
    let new = c.go_on-in-loop.new.self in
    let before = g.W.Write.contents c.args.to.now in
    let between = g.W.Write.contents c.loop.to in
    let after = g.W.Write.contents c.go_on-in-loop.new.to in
    let same = c.next-work.ensures.hold in
    let goes = one_more here.walsender told.walsender new.walsender between between after (learnt here.walsender told.walsender between c.next-work.ensures.learnt) c.go_on-in-loop.ensures.serves in
    let turn = told_turn old.hold.lease.place told.hold.lease.place c.next-work.result here.walsender told.walsender new.walsender here.hold.seat told.hold.seat new.hold.seat between after c.next-work.ensures.learnt
    (rw same) (rw (same, c.loop.invariant.lease)) c.go_on-in-loop.ensures.confirms c.go_on-in-loop.ensures.serves in
    record {
      serves = one_more old.walsender here.walsender new.walsender before between after c.loop.invariant.serves goes;
      turns = one_turn_more g.D.WorkBackend.told old.hold.lease.place Answers c.args.first c.next-work.result c.args.backend.now c.loop.backend c.next-work.new.self (standing old.walsender old.hold.seat before) (standing here.walsender here.hold.seat between)
          (standing new.walsender new.hold.seat after) c.loop.invariant.turns c.next-work.ensures.told turn
          (told_answers c.next-work.result here.walsender told.walsender new.walsender here.hold.seat told.hold.seat new.hold.seat between after c.next-work.ensures.learnt c.in_ok-go_on-2.ensures.answers);
      lease = c.go_on-in-loop.ensures.lease ∙ rw same c.loop.invariant.lease;
    }

pub returns-in_err-go_on-2-clause-serves : goal.returns-in_err-go_on-2-clause-serves
returns-in_err-go_on-2-clause-serves g c =
    let old = c.args.stream.now in
    let here = c.loop.stream in
    let told = c.next-work.new.stream in
    let new = c.go_on-in-loop.new.self in
    let before = g.W.Write.contents c.args.to.now in
    let between = g.W.Write.contents c.loop.to in
    let after = g.W.Write.contents c.go_on-in-loop.new.to in
    let goes = one_more here.walsender told.walsender new.walsender between between after (learnt here.walsender told.walsender between c.next-work.ensures.learnt) c.go_on-in-loop.ensures.serves in
    one_more old.walsender here.walsender new.walsender before between after c.loop.invariant.serves goes

pub returns-in_err-go_on-2-clause-turns : goal.returns-in_err-go_on-2-clause-turns
returns-in_err-go_on-2-clause-turns g c =
    let old = c.args.stream.now in
    let here = c.loop.stream in
    let told = c.next-work.new.stream in
    let new = c.go_on-in-loop.new.self in
    let before = g.W.Write.contents c.args.to.now in
    let between = g.W.Write.contents c.loop.to in
    let after = g.W.Write.contents c.go_on-in-loop.new.to in
    let same = c.next-work.ensures.hold in
    let turn = told_turn old.hold.lease.place told.hold.lease.place c.next-work.result here.walsender told.walsender new.walsender here.hold.seat told.hold.seat new.hold.seat between after c.next-work.ensures.learnt
    (rw same) (rw (same, c.loop.invariant.lease)) c.go_on-in-loop.ensures.confirms c.go_on-in-loop.ensures.serves in
    let between_turns = standing here.walsender here.hold.seat between in
    let turned = standing new.walsender new.hold.seat after in
    let fault = c.from_residual-in_err-go_on-2.result in
    one_turn_more g.D.WorkBackend.told old.hold.lease.place (Ended fault) c.args.first c.next-work.result c.args.backend.now c.loop.backend c.next-work.new.self (standing old.walsender old.hold.seat before) between_turns
    turned c.loop.invariant.turns c.next-work.ensures.told turn (ended_with_fault fault c.next-work.result between_turns turned c.from_residual-in_err-go_on-2.ensures.0)
