use Rattle.pgoutput.proofs.Lost.{no_message_goes_on}
use Rattle.pgoutput.proofs.logical.no_message_goes_on.Goals as goal

pub returns : goal.returns
returns c = no_message_goes_on
