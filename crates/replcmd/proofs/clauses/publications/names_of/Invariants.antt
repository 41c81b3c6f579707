use Rattle.std.proofs.Common.{suc, length}
use Rattle.std.specs.Str.{IsUtf8}
use Rattle.replcmd.specs.Reading.{separated_items, front_name, more_names}
use Rattle.replcmd.proofs.Lists.{Going}
use Rattle.replcmd.proofs.clauses.publications.names_of.Given as goal

abbrev pub invariant-loop-names : goal.invariant-loop-names
invariant-loop-names l = record {
  going : Going front_name more_names l.names.items l.place (separated_items front_name more_names (suc (length l.text)) l.text);
  valid : IsUtf8 l.place;
}

abbrev pub decreases-loop-names : goal.decreases-loop-names
decreases-loop-names l = length l.place
