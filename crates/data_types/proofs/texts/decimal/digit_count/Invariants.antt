use Rattle.std.proofs.Common.{◌≡◌, ◌+◌, length}
use Rattle.data_types.specs.Decimals.{digit_count}
use Rattle.data_types.proofs.texts.decimal.digit_count.Given as goal

abbrev pub invariant-loop-b : goal.invariant-loop-b
invariant-loop-b l = record {
  same : l.count + digit_count l.rest ≡ digit_count l.text;
  counted : l.count + length l.rest ≡ length l.text;
}

abbrev pub decreases-loop-b : goal.decreases-loop-b
decreases-loop-b l = length l.rest
