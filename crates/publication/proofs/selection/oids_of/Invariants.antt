use Rattle.std.proofs.Common.{◌≡◌, ◌++◌, drop, map}
use Rattle.std.specs.Prelude.{filter}
use Rattle.std.specs.List.{list_any}
use Rattle.publication_config.specs.Published.{has}
use Rattle.publication.proofs.selection.oids_of.Given as goal

abbrev pub invariant-loop-table : goal.invariant-loop-table
invariant-loop-table l =
    l.oids.items ++ filter (λ oid. list_any (has oid) l.publications) (map (λ t. t.oid) (drop l.table-index l.tables))
    ≡ filter (λ oid. list_any (has oid) l.publications) (map (λ t. t.oid) l.tables)
