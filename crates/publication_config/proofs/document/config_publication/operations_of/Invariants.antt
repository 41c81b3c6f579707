use Rattle.std.proofs.Common.{◌≡◌, drop}
use Rattle.toml.specs.View.{items_view}
use Rattle.publication_config.specs.Config.{no_operations, operations_after}
use Rattle.publication_config.proofs.document.config_publication.operations_of.Given as goal

abbrev pub invariant-loop-value : goal.invariant-loop-value
invariant-loop-value l = operations_after l.operations (items_view (drop l.value-index l.values)) ≡ operations_after no_operations (items_view l.values)
