use Rattle.std.proofs.Common.{◌≡◌, ◌+◌, length}
use Rattle.data_types.specs.Digits.{run_after}
use Rattle.data_types.proofs.texts.digits.digits_at.Given as goal

abbrev pub invariant-loop-b : goal.invariant-loop-b
invariant-loop-b l = record {
  same : run_after l.value l.count l.rest ≡ run_after 0 0 l.text;
  counted : l.count + length l.rest ≡ length l.text;
}

abbrev pub decreases-loop-b : goal.decreases-loop-b
decreases-loop-b l = length l.rest
