use Rattle.std.proofs.Common.{◌<◌, ◌-◌, drop, length, take, arith}
use Rattle.std.proofs.lemmas.List.{take_rest}
use Rattle.walsender.proofs.Moving.{drained_all, drained_more, drained_same, moves_same, put_end}
use Rattle.walsender.proofs.held.outgoing.Outgoing.drain.Goals as goal

pub loop-count-preserved : goal.loop-count-preserved
loop-count-preserved c =
    let count = c.loop-count.count in
    let old = c.loop-count.out in
    let d = drained_same c.args.selection.now c.args.reorder.now c.loop-count.reorder c.fill.new.reorder c.args.self.now c.loop-count.self c.fill.new.self c.args.out.now old count c.loop-count.invariant c.fill.ensures.same c.fill.ensures.front in
    let some : count < length c.args.out.now = omega (arith, c.loop-count-test.true, c.loop-count.invariant.size) in
    let told = c.take_frames-count.ensures in
    drained_more c.args.selection.now c.args.reorder.now c.fill.new.reorder c.args.self.now c.fill.new.self c.take_frames-count.new.self c.args.out.now old (take (length old - count) (drop count old)) c.take_frames-count.new.out _
    count c.take_frames-count.result d some (take_rest old count) told.count told.moved told.others told.length told.rest (put_end count old c.take_frames-count.new.out)

pub returns-else-fill-clause-count : goal.returns-else-fill-clause-count
returns-else-fill-clause-count c =
    let count = c.loop-count.count in
    let d = drained_same c.args.selection.now c.args.reorder.now c.loop-count.reorder c.fill.new.reorder c.args.self.now c.loop-count.self c.fill.new.self c.args.out.now c.loop-count.out count c.loop-count.invariant c.fill.ensures.same
    c.fill.ensures.front in
    let some : count < length c.args.out.now = omega (arith, c.loop-count-test.true, c.loop-count.invariant.size) in
    drained_all c.args.selection.now c.args.reorder.now c.fill.new.reorder c.args.self.now c.fill.new.self c.args.out.now c.loop-count.out count d some c.if-fill.ensures.more

pub returns-else-fill-clause-rest : goal.returns-else-fill-clause-rest
returns-else-fill-clause-rest c =
    moves_same c.args.selection.now c.loop-count.count c.args.reorder.now c.loop-count.reorder c.fill.new.reorder c.args.self.now c.loop-count.self c.fill.new.self c.loop-count.invariant.moves c.fill.ensures.same
