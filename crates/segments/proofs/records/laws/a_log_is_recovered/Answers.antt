use Rattle.segments.proofs.Recovered.{recovered}
use Rattle.segments.proofs.records.laws.a_log_is_recovered.Goals as goal

pub returns : goal.returns
returns c = recovered
