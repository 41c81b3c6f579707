use Rattle.std.proofs.Common.{◌≡◌, length}
use Rattle.data_types.specs.Truths.{begins_word}
use Rattle.data_types.proofs.texts.truth.begins_word.Given as goal

abbrev pub invariant-loop-b : goal.invariant-loop-b
invariant-loop-b l = begins_word l.rest l.left ≡ begins_word l.text l.word

abbrev pub decreases-loop-b : goal.decreases-loop-b
decreases-loop-b l = length l.rest
