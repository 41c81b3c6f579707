use Rattle.std.proofs.Common.{ap, subst, ◌∙◌}
use Rattle.tables.specs.Tables.{table_of}
use Rattle.publication_config.specs.Published.{PublicationSet}
use Rattle.publication.specs.Selection.{FitTables}
use Rattle.publication.proofs.Relations.{table_fits}
use Rattle.publication.proofs.selection.Selection.table.Goals as goal

pub returns-clause-fits : goal.returns-clause-fits
returns-clause-fits c =
    let all = subst (λ (s : PublicationSet). FitTables s) c.self.view_is c.self.invariant.0 in
    table_fits c.args.self.now c.args.oid c.found.result all (c.found.ensures ∙ ap (table_of c.args.oid) (c.as_slice.ensures ∙ ap (λ (s : PublicationSet). s.tables) c.self.view_is))
