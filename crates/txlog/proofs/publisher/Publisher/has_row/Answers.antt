use Rattle.std.proofs.Common.{Some, ap, sym, ◌∙◌}
use Rattle.std.specs.Option.{option_copied}
use Rattle.txlog.proofs.SameRows.{same_row}
use Rattle.txlog.proofs.publisher.Publisher.has_row.Goals as goal

pub returns-in-Some-clause-row : goal.returns-in-Some-clause-row
returns-in-Some-clause-row g c = λ is. sym c.get.ensures.row ∙ ap option_copied c.in-Some.is ∙ ap (λ r. Some r) (same_row c.in-Some.found.now c.args.row.now (sym c.eq.ensures ∙ is))
