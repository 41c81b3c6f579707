use Rattle.std.proofs.Common.{◌≡◌}
use Rattle.server_state.proofs.disk.keeping_on.write_events.Given as goal

abbrev pub invariant-loop-event : goal.invariant-loop-event
invariant-loop-event g l = l.keeper.reader ≡ l.fn.keeper.reader
