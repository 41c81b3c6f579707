use Rattle.std.proofs.Common.{length}
use Rattle.std.specs.Str.{IsUtf8}
use Rattle.server.proofs.Lists.{Going}
use Rattle.server.proofs.asked.list.names_of.Given as goal

abbrev pub invariant-loop-names : goal.invariant-loop-names
invariant-loop-names l = record {
  going : Going l.end l.text l.names.items l.place;
  valid : IsUtf8 l.place;
}

abbrev pub decreases-loop-names : goal.decreases-loop-names
decreases-loop-names l = length l.place
