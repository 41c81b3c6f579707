use Rattle.message_lines.proofs.Numerals.{numeral_tested}
use Rattle.message_lines.proofs.parts.values.is_numeral.Goals as goal

pub returns-clause-value : goal.returns-clause-value
returns-clause-value c = numeral_tested c.args.text.now c.is_number.result c.is_number.ensures
