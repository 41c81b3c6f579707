use Rattle.std.proofs.Common.{◌≡◌, [], drop}
use Rattle.toml.specs.View.{items_view}
use Rattle.catalog.specs.Config.{names_behind}
use Rattle.catalog.proofs.config_member.names_of.Given as goal

abbrev pub invariant-loop-value : goal.invariant-loop-value
invariant-loop-value l = names_behind l.names.items (items_view (drop l.value-index l.values)) ≡ names_behind [] (items_view l.values)
