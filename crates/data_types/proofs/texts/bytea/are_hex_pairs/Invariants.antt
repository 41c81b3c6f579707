use Rattle.std.proofs.Common.{◌≡◌, length}
use Rattle.data_types.specs.Bytes.{are_hex_pairs}
use Rattle.data_types.proofs.texts.bytea.are_hex_pairs.Given as goal

abbrev pub invariant-loop-rest : goal.invariant-loop-rest
invariant-loop-rest l = are_hex_pairs l.rest ≡ are_hex_pairs l.text

abbrev pub decreases-loop-rest : goal.decreases-loop-rest
decreases-loop-rest l = length l.rest
