use Rattle.std.proofs.Common.{◌∙◌, arith}
use Rattle.walsender.proofs.Frames.{same_then}
use Rattle.walsender.proofs.held.outgoing.Outgoing.fill_up.Goals as goal

pub loop-self-preserved : goal.loop-self-preserved
loop-self-preserved c =
    let inv = c.loop-self.invariant in
    let made = c.make.ensures.frames in
    record {
      same = same_then c.args.selection.now c.fill.new.reorder c.loop-self.reorder c.make.new.reorder c.fill.new.self c.loop-self.self c.make.new.self inv.same c.make.ensures.same;
      front = made.front ∙ inv.front;
      some = omega (arith, inv.some, made.from, made.low);
    }

pub returns-else-make-clause-same : goal.returns-else-make-clause-same
returns-else-make-clause-same c =
    same_then c.args.selection.now c.args.reorder.now c.fill.new.reorder c.make.new.reorder c.args.self.now c.fill.new.self c.make.new.self c.fill.ensures.same
    (same_then c.args.selection.now c.fill.new.reorder c.loop-self.reorder c.make.new.reorder c.fill.new.self c.loop-self.self c.make.new.self c.loop-self.invariant.same c.make.ensures.same)

pub returns-after-loop-self-clause-same : goal.returns-after-loop-self-clause-same
returns-after-loop-self-clause-same c =
    same_then c.args.selection.now c.args.reorder.now c.fill.new.reorder c.loop-self.reorder c.args.self.now c.fill.new.self c.loop-self.self c.fill.ensures.same c.loop-self.invariant.same
