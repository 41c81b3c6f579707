use Rattle.std.proofs.Common.{◌≤◌}
use Rattle.server_state.proofs.server_state.ServerState.least_confirmed.Given as goal

abbrev pub invariant-loop-monitor : goal.invariant-loop-monitor
invariant-loop-monitor g l = l.least ≤ l.fn.end
