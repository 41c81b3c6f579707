use Rattle.std.proofs.Common.{◌≡◌, drop}
use Rattle.server_state.specs.LogTimes.{past}
use Rattle.server_state.proofs.kept.log_times.past_in.Given as goal

abbrev pub invariant-loop-mark : goal.invariant-loop-mark
invariant-loop-mark l = past l.position (drop l.mark-index l.fn.marks) ≡ past l.fn.position l.fn.marks
