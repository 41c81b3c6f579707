use Rattle.std.proofs.Common.{◌≡◌, drop, map}
use Rattle.world.specs.Machine.{place_among}
use Rattle.world.specs.Starts.{start_state}
use Rattle.world.proofs.opening.place_among.Given as goal

abbrev pub invariant-loop-place : goal.invariant-loop-place
invariant-loop-place g l = place_among l.connection (map start_state l.starts) (drop l.place-index l.opened) ≡ place_among l.connection (map start_state l.starts) l.opened
