use Rattle.std.proofs.Common.{◌≡◌, take}
use Rattle.std.specs.List.{filter_map, AllByRecursion}
use Rattle.server.specs.Answers.{AreShortColumns}
use Rattle.server_state.specs.Published.{told_columns}
use Rattle.server_state.proofs.publications.published_columns.columns_in.Given as goal

abbrev pub invariant-loop-oid : goal.invariant-loop-oid
invariant-loop-oid l = record {
  told : l.tables.items ≡ filter_map (told_columns l.selection) (take l.oid-index l.oid-items);
  short : AllByRecursion AreShortColumns l.tables.items;
}
