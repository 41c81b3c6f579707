use Rattle.server.proofs.RowTexts.{row_fits}
use Rattle.server.proofs.said.say_copy.say_row.Goals as goal

pub say-requires-clause-length : goal.say-requires-clause-length
say-requires-clause-length c = rw (c.new-bytes.ensures, c.in_ok-row_text.ensures) (row_fits c.args.values.now c.requires)
