use Rattle.std.proofs.Common.{rules, ◌<◌, ◌∙◌}
use Rattle.conditions.specs.Stacks.{wanted_by}
use Rattle.conditions.specs.Views.{seen_part, stack_of}
use Rattle.conditions.proofs.Stacking.{folds_popped}
use Rattle.conditions.proofs.trees.pending.folded.Goals as goal

-- src/pending.rt:68:5
pub loop-alloc-preserved : goal.loop-alloc-preserved
loop-alloc-preserved c =
    let less : c.args.tightness < wanted_by (stack_of c.loop-alloc.pending.items) = search rules in
    folds_popped c.args.tightness c.loop-alloc.pending.items c.pop.new.self.items c.in-Some.item (seen_part c.loop-alloc.part) (seen_part c.in_ok-part.part) c.in-Some.ensures.items less c.in_ok-part.ensures ∙ c.loop-alloc.invariant
