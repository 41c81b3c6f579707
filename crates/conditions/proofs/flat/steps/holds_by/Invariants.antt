use Rattle.std.proofs.Common.{◌≡◌, ◌≤◌, ◌+◌, length}
use Rattle.conditions.specs.Steps.{IsNumberOf, outcome, turns}
use Rattle.conditions.specs.Truth.{is_true, truth}
use Rattle.conditions.proofs.flat.steps.holds_by.Given as goal

abbrev pub invariant-loop-next : goal.invariant-loop-next
invariant-loop-next l = record {
  read : IsNumberOf l.row l.last;
  within : l.next ≤ length l.steps + 1;
  same : outcome (λ c. is_true (truth c l.row)) l.next (turns l.steps) ≡ outcome (λ c. is_true (truth c l.row)) (length l.steps + 1) (turns l.steps);
}

abbrev pub decreases-loop-next : goal.decreases-loop-next
decreases-loop-next l = l.next
