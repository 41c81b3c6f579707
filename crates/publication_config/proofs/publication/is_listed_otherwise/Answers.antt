use Rattle.std.proofs.Common.{sym, ◌∙◌}
use Rattle.publication_config.specs.Published.{lists_otherwise}
use Rattle.publication_config.proofs.Naming.{any_named}
use Rattle.publication_config.proofs.publication.is_listed_otherwise.Goals as goal

pub returns : goal.returns
returns c = c.has_listing_otherwise.ensures ∙ sym (any_named (lists_otherwise c.args.table.now) c.args.names.now c.args.publications.now)
