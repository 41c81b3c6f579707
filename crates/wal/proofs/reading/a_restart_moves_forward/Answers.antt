use Rattle.wal.proofs.Moving.{restart-later}
use Rattle.wal.proofs.reading.a_restart_moves_forward.Goals as goal

pub returns : goal.returns
returns c log more s t good le = restart-later log more s t good le
