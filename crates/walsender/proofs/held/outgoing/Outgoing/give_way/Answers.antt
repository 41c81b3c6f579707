use Rattle.std.proofs.Common.{◌<◌, length, arith}
use Rattle.walsender.proofs.Frames.{same_then}
use Rattle.walsender.proofs.GivingWay.{chunk_left, chunk_left_before}
use Rattle.walsender.proofs.Moving.{falls}
use Rattle.walsender.proofs.Noting.{on_err}
use Rattle.walsender.proofs.held.outgoing.Outgoing.give_way.Goals as goal

pub loop-reorder-smaller : goal.loop-reorder-smaller
loop-reorder-smaller c =
    let some : 0 < length c.loop-reorder.self.waiting.items = grind (arith, c.is_empty.ensures, c.loop-reorder-test.true) in
    falls c.args.selection.now c.loop-reorder.reorder c.gather_frames.new.reorder c.loop-reorder.self c.gather_frames.new.self c.in_ok-gather_frames.field-0 c.loop-reorder.invariant.good c.gather_frames.ensures.same some c.in_ok-gather_frames.ensures.more

pub loop-reorder-preserved : goal.loop-reorder-preserved
loop-reorder-preserved c =
    same_then c.args.selection.now c.args.reorder.now c.loop-reorder.reorder c.gather_frames.new.reorder c.args.self.now c.loop-reorder.self c.gather_frames.new.self c.loop-reorder.invariant c.gather_frames.ensures.same

pub returns-in_err-gather_frames-clause-same : goal.returns-in_err-gather_frames-clause-same
returns-in_err-gather_frames-clause-same c =
    same_then c.args.selection.now c.args.reorder.now c.loop-reorder.reorder c.gather_frames.new.reorder c.args.self.now c.loop-reorder.self c.gather_frames.new.self c.loop-reorder.invariant c.gather_frames.ensures.same

-- what waits fills a chunk
pub returns-in_err-gather_frames-clause-left : goal.returns-in_err-gather_frames-clause-left
returns-in_err-gather_frames-clause-left c =
    let l = c.loop-reorder in
    let some : 0 < length l.self.waiting.items = grind (arith, c.is_empty.ensures, c.loop-reorder-test.true) in
    on_err c.from_residual.result _ (chunk_left_before c.args.selection.now c.args.reorder.now l.reorder c.args.self.now l.self l.invariant (chunk_left c.args.selection.now l.reorder l.self c.free_chunks.result l.invariant.good some c.free_chunks.ensures.exact_beside))
