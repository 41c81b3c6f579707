use Rattle.std.proofs.Common.{◌≡◌, ◌≤◌, length}
use Rattle.data_types.specs.Characters.{unpadded, unpadded_to}
use Rattle.data_types.proofs.texts.characters.unpadded.Given as goal

abbrev pub invariant-loop-end : goal.invariant-loop-end
invariant-loop-end l = record {
  same : unpadded_to l.end l.text ≡ unpadded l.text;
  within : l.end ≤ length l.text;
}

abbrev pub decreases-loop-end : goal.decreases-loop-end
decreases-loop-end l = l.end
