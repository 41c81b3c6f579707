use Rattle.pgoutput.proofs.Whole.{two_spellings}
use Rattle.pgoutput.proofs.logical.no_message_has_two_spellings.Goals as goal

pub returns : goal.returns
returns c = two_spellings
