use Rattle.std.proofs.Common.{◌≡◌, [], None, length}
use Rattle.data_types.specs.Bytes.{paired_after, IsDigit}
use Rattle.data_types.proofs.texts.bytea.paired.Given as goal

abbrev pub invariant-loop-b : goal.invariant-loop-b
invariant-loop-b l = record {
  same : paired_after l.high l.bytes.items l.rest ≡ paired_after None [] l.text;
  small : IsDigit l.high;
}

abbrev pub decreases-loop-b : goal.decreases-loop-b
decreases-loop-b l = length l.rest
