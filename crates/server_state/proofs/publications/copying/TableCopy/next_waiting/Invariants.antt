use Rattle.std.proofs.Common.{vec_len}
use Rattle.server_state.proofs.publications.copying.TableCopy.next_waiting.Given as goal

abbrev pub decreases-loop-row : goal.decreases-loop-row
decreases-loop-row l = vec_len l.self.waiting
