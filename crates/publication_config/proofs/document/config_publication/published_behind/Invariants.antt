use Rattle.std.proofs.Common.{◌≡◌, [], drop}
use Rattle.toml.specs.View.{items_view}
use Rattle.publication_config.specs.Config.{published_behind}
use Rattle.publication_config.proofs.document.config_publication.published_behind.Given as goal

abbrev pub invariant-loop-value : goal.invariant-loop-value
invariant-loop-value l =
    published_behind l.number l.operations l.catalog l.published.items (items_view (drop l.value-index l.values)) ≡ published_behind l.number l.operations l.catalog [] (items_view l.values)
