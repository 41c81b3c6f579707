use Rattle.std.proofs.Common.{◌≡◌, [], length}
use Rattle.data_types.specs.Bytes.{unescaped_after, IsEscape}
use Rattle.data_types.specs.declared.texts.bytea.Escape.TheVariants as escapes
use Rattle.data_types.proofs.texts.bytea.unescaped.Given as goal

abbrev pub invariant-loop-b : goal.invariant-loop-b
invariant-loop-b l = record {
  same : unescaped_after l.escape l.bytes.items l.rest ≡ unescaped_after escapes.Outside [] l.text;
  small : IsEscape l.escape;
}

abbrev pub decreases-loop-b : goal.decreases-loop-b
decreases-loop-b l = length l.rest
