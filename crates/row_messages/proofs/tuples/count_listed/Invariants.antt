use Rattle.std.proofs.Common.{◌≡◌, ◌+◌, drop, length}
use Rattle.row_messages.specs.Relations.{listed_items}
use Rattle.row_messages.proofs.tuples.count_listed.Given as goal

abbrev pub invariant-loop-i : goal.invariant-loop-i
invariant-loop-i l = l.count + length (listed_items (drop l.i l.listed) (drop l.i l.row)) ≡ length (listed_items l.listed l.row)
