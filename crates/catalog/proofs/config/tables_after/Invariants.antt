use Rattle.std.proofs.Common.{◌≡◌, [], drop}
use Rattle.toml.specs.View.{items_view}
use Rattle.catalog.specs.Config.{tables_after}
use Rattle.tables.specs.Tables.{AreCatalogued}
use Rattle.catalog.proofs.config.tables_after.Given as goal

abbrev pub invariant-loop-value : goal.invariant-loop-value
invariant-loop-value l =
    (tables_after l.tables.items (items_view (drop l.value-index l.values)) ≡ tables_after [] (items_view l.values)) × AreCatalogued l.tables.items
