use Rattle.std.proofs.Common.{length}
use Rattle.std.specs.Str.{IsUtf8}
use Rattle.server_state.proofs.publications.row_filters.publications_in.Given as goal

abbrev pub invariant-loop-names : goal.invariant-loop-names
invariant-loop-names l = IsUtf8 l.rest

abbrev pub decreases-loop-names : goal.decreases-loop-names
decreases-loop-names l = length l.rest
