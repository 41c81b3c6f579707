use Rattle.std.proofs.Common.{sym, ◌∙◌}
use Rattle.publication.proofs.Projecting.{short_row}
use Rattle.publication.proofs.projection.is_short_row.Goals as goal

pub returns-clause-short : goal.returns-clause-short
returns-clause-short c = λ is. short_row c.args.row.now c.coded_len.result c.coded_len.ensures.value c.coded_len.ensures.in_range (sym c.is_some.ensures ∙ is)
