use Rattle.std.proofs.Common.{◌≤◌}
use Rattle.server_state.proofs.disk.slot_journal.SlotJournal.least_confirmed.Given as goal

abbrev pub invariant-loop-standing : goal.invariant-loop-standing
invariant-loop-standing l = l.least ≤ l.fn.end
