use Rattle.std.proofs.Common.{◌≡◌, ◌++◌, drop, map}
use Rattle.std.specs.List.{list_any}
use Rattle.std.specs.Str.{bytes_eq}
use Rattle.publication_config.proofs.document.config_table.listed_by.Given as goal

abbrev pub invariant-loop-column : goal.invariant-loop-column
invariant-loop-column l =
    l.listed.items ++ map (λ c. list_any (bytes_eq c.name) l.names) (drop l.column-index l.columns) ≡ map (λ c. list_any (bytes_eq c.name) l.names) l.columns
