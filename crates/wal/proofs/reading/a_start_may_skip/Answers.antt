use Rattle.wal.proofs.Restarts.{restart-skips_none}
use Rattle.wal.proofs.reading.a_start_may_skip.Goals as goal

pub returns : goal.returns
returns c log more s good = restart-skips_none log more s good
