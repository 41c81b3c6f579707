use Rattle.std.proofs.Common.{◌≡◌, drop, map}
use Rattle.world.specs.Forgetting.{least_read}
use Rattle.world.specs.Starts.{start_state}
use Rattle.world.proofs.stepping.forgetting.least_read.Given as goal

abbrev pub invariant-loop-start : goal.invariant-loop-start
invariant-loop-start g l = least_read (map start_state (drop l.start-index l.fn.starts)) l.least ≡ least_read (map start_state l.fn.starts) l.fn.position
