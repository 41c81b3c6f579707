use Rattle.segments.proofs.Prefixes.{begins_or_forged}
use Rattle.segments.proofs.laws.found_entries_were_appended.Goals as goal

pub returns : goal.returns
returns c = begins_or_forged
