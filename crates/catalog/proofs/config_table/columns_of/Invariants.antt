use Rattle.std.proofs.Common.{◌≡◌, [], drop}
use Rattle.toml.specs.View.{items_view}
use Rattle.catalog.specs.Config.{columns_after}
use Rattle.tables.specs.Tables.{AreColumns}
use Rattle.catalog.proofs.config_table.columns_of.Given as goal

abbrev pub invariant-loop-value : goal.invariant-loop-value
invariant-loop-value l =
    (columns_after l.key l.columns.items (items_view (drop l.value-index l.values)) ≡ columns_after l.key [] (items_view l.values)) × AreColumns l.columns.items
