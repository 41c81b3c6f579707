use Rattle.std.proofs.Common.{vec_len}
use Rattle.schedule.proofs.session.leave_all.Given as goal

abbrev pub decreases-loop-session : goal.decreases-loop-session
decreases-loop-session g l = vec_len l.sessions
