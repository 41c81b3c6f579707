use Rattle.std.proofs.Common.{sym, ap, ◌∙◌}
use Rattle.publication_config.specs.Published.{PublicationSet}
use Rattle.publication.proofs.Judgements.{truncate_emptied}
use Rattle.publication.proofs.selection.Selection.tells_emptied.Goals as goal

pub returns-then-may_be_emptied : goal.returns-then-may_be_emptied
returns-then-may_be_emptied c =
    let tables = c.as_slice.ensures ∙ ap (λ (s : PublicationSet). s.tables) c.self.view_is in
    c.publishes_truncate.ensures ∙ truncate_emptied c.args.self.now c.as_slice.result.now c.args.oids.now tables (sym c.if-may_be_emptied.ensures)
