use Rattle.pgoutput.proofs.StoppedRows.{logical_spelled}
use Rattle.pgoutput.proofs.logical.a_message_is_its_fields.Goals as goal

pub returns : goal.returns
returns c = logical_spelled
