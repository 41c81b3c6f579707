use Rattle.std.proofs.Common.{◌≡◌, [], drop}
use Rattle.toml.specs.View.{items_view}
use Rattle.publication_config.specs.Config.{publications_after}
use Rattle.publication_config.proofs.document.config.publications_after.Given as goal

abbrev pub invariant-loop-value : goal.invariant-loop-value
invariant-loop-value l = publications_after l.catalog l.publications.items (items_view (drop l.value-index l.values)) ≡ publications_after l.catalog [] (items_view l.values)
