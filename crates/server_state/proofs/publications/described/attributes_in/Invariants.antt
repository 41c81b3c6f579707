use Rattle.std.proofs.Common.{◌≡◌, ◌<◌, ◌^◌, map, take}
use Rattle.std.specs.List.{AllByRecursion}
use Rattle.server.specs.Answers.{IsShort}
use Rattle.server_state.specs.Described.{told_attribute}
use Rattle.server_state.proofs.publications.described.attributes_in.Given as goal

abbrev pub invariant-loop-column : goal.invariant-loop-column
invariant-loop-column l = record {
  told : l.attributes.items ≡ map (told_attribute l.identity) (take l.column-index l.columns);
  short : AllByRecursion (λ attribute. IsShort attribute.name × (attribute.type_oid < 2 ^ 32)) l.attributes.items;
}
