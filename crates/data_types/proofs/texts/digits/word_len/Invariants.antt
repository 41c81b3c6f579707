use Rattle.std.proofs.Common.{◌≡◌, ◌+◌, length}
use Rattle.data_types.specs.Digits.{word_length}
use Rattle.data_types.proofs.texts.digits.word_len.Given as goal

abbrev pub invariant-loop-b : goal.invariant-loop-b
invariant-loop-b l = record {
  same : l.count + word_length l.rest ≡ word_length l.text;
  counted : l.count + length l.rest ≡ length l.text;
}

abbrev pub decreases-loop-b : goal.decreases-loop-b
decreases-loop-b l = length l.rest
