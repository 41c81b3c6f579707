use Rattle.std.proofs.Common.{◌≡◌, length}
use Rattle.replcmd.specs.Unrecognized.{first_unrecognized}
use Rattle.replcmd.proofs.clauses.unrecognized.first_unrecognized.Given as goal

abbrev pub invariant-loop-token : goal.invariant-loop-token
invariant-loop-token l = first_unrecognized l.rest ≡ first_unrecognized l.tokens

abbrev pub decreases-loop-token : goal.decreases-loop-token
decreases-loop-token l = length l.rest
