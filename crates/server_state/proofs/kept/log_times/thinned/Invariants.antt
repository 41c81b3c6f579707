use Rattle.std.proofs.Common.{take}
use Rattle.server_state.specs.LogTimes.{TellNoLater}
use Rattle.server_state.proofs.kept.log_times.thinned.Given as goal

abbrev pub invariant-loop-mark : goal.invariant-loop-mark
invariant-loop-mark l = TellNoLater (take l.mark-index l.fn.marks) l.thinned.items
