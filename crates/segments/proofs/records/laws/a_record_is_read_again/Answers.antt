use Rattle.segments.proofs.Told.{one_spelling, record_again}
use Rattle.segments.proofs.records.laws.a_record_is_read_again.Goals as goal

pub returns-clause-again : goal.returns-clause-again
returns-clause-again c = record_again

pub returns-clause-one : goal.returns-clause-one
returns-clause-one c = one_spelling
