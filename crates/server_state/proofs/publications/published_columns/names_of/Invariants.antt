use Rattle.std.proofs.Common.{◌≡◌, ◌≤◌, length, map, take}
use Rattle.std.specs.List.{AllByRecursion}
use Rattle.server_state.proofs.publications.published_columns.names_of.Given as goal

abbrev pub invariant-loop-column : goal.invariant-loop-column
invariant-loop-column l = record {
  told : l.names.items ≡ map (λ c. c.name) (take l.column-index l.columns);
  short : AllByRecursion (λ name. length name ≤ 63) l.names.items;
}
