use Rattle.std.proofs.Common.{sym}
use Rattle.tables.proofs.Values.{length-text}
use Rattle.tables.proofs.kinds.coded_len_of.Goals as goal

pub returns-in-Text-clause-value : goal.returns-in-Text-clause-value
returns-in-Text-clause-value c = rw (c.in-Text.is, c.as_str.ensures.value) (sym (length-text c.in-Text.text))
