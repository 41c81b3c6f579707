use Rattle.std.proofs.Common.{sym, ◌∙◌}
use Rattle.std.specs.List.{list_any}
use Rattle.publication_config.specs.Published.{is_listed_otherwise, publications_named}
use Rattle.publication_config.proofs.Naming.{any_named}
use Rattle.publication_config.proofs.publication.conflict.Goals as goal

pub returns : goal.returns
returns c = c.has_contradicted.ensures ∙ sym (any_named (λ p. list_any (is_listed_otherwise (publications_named c.args.names.now c.args.publications.now)) p.tables) c.args.names.now c.args.publications.now)
