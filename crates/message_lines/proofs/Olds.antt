-- What was sent of an old row, at the end of a line.
use Rattle.std.proofs.Common.{◌≡◌, [], ◌∷◌, ◌++◌, Option, Some, None, refl}
use Rattle.pgoutput.specs.declared.messages.relation.Relation.{Relation}
use Rattle.pgoutput.specs.declared.parts.old_tuple.OldTuple.{OldTuple}
use Rattle.json.specs.Token.{end_object}
use Rattle.json.specs.Tree.{members_tokens}
use Rattle.message_lines.specs.Changes.{old_members, old_tokens}

pub old_put : (r : Relation) (o : Option OldTuple) → old_tokens r o ++ end_object ∷ [] ≡ members_tokens (old_members r o)
old_put r None = refl
old_put r (Some o) = refl
