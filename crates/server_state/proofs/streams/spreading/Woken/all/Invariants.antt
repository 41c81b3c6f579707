use Rattle.std.proofs.Common.{◌≡◌}
use Rattle.server_state.proofs.streams.spreading.Woken.all.Given as goal

abbrev pub invariant-loop-latch : goal.invariant-loop-latch
invariant-loop-latch g l = l.woken ≡ record { told = l.latch-index; end = l.end }
