use Rattle.std.proofs.Common.{◌≡◌, ◌+◌, ◌≤◌, drop, length}
use Rattle.row_messages.specs.Relations.{listed_items}
use Rattle.row_messages.proofs.put_relation.count_listed.Given as goal

abbrev pub invariant-loop-i : goal.invariant-loop-i
invariant-loop-i l = record {
  all : l.count + length (listed_items (drop l.i l.listed) (drop l.i l.columns)) ≡ length (listed_items l.listed l.columns);
  few : l.count ≤ l.i;
}
