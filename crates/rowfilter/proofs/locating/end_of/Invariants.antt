use Rattle.std.proofs.Common.{length}
use Rattle.rowfilter.proofs.locating.end_of.Given as goal

abbrev pub decreases-loop-token : goal.decreases-loop-token
decreases-loop-token l = length l.rest
