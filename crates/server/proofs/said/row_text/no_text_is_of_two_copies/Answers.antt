use Rattle.server.proofs.RowTexts.{rows_once}
use Rattle.server.proofs.said.row_text.no_text_is_of_two_copies.Goals as goal

pub returns : goal.returns
returns c = rows_once
