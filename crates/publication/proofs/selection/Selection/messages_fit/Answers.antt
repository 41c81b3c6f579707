use Rattle.std.proofs.Common.{subst}
use Rattle.publication_config.specs.Published.{PublicationSet}
use Rattle.publication.specs.Selection.{FitTables}
use Rattle.publication.proofs.Standing.{spelled_fits}
use Rattle.publication.proofs.selection.Selection.messages_fit.Goals as goal

pub returns : goal.returns
returns c = λ position body change m low. spelled_fits c.args.self.now position body low (subst (λ (s : PublicationSet). FitTables s) c.self.view_is c.self.invariant.0) change m
