use Rattle.std.proofs.Common.{◌≡◌, length}
use Rattle.conditions.specs.Parts.{parts}
use Rattle.conditions.specs.Stacks.{folded}
use Rattle.conditions.specs.Views.{seen_part, stack_of}
use Rattle.conditions.proofs.trees.pending.folded.Given as goal

abbrev pub invariant-loop-alloc : goal.invariant-loop-alloc
invariant-loop-alloc l = folded parts l.tightness (stack_of l.pending.items) (seen_part l.part) ≡ folded parts l.tightness (stack_of l.fn.pending.items) (seen_part l.fn.part)

abbrev pub decreases-loop-alloc : goal.decreases-loop-alloc
decreases-loop-alloc l = length l.pending.items
