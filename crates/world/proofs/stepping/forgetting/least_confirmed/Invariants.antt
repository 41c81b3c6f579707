use Rattle.std.proofs.Common.{◌≡◌, drop}
use Rattle.world.specs.Forgetting.{least_confirmed}
use Rattle.world.proofs.stepping.forgetting.least_confirmed.Given as goal

abbrev pub invariant-loop-slot : goal.invariant-loop-slot
invariant-loop-slot l = least_confirmed (drop l.slot-index l.fn.slots) l.least ≡ least_confirmed l.fn.slots l.fn.position
