use Rattle.std.proofs.Common.{◌≡◌, ◌++◌, length, map, take}
use Rattle.std.specs.List.{flat_map, zip}
use Rattle.pgoutput.specs.Tuple.{cell}
use Rattle.row_messages.specs.Relations.{listed_items}
use Rattle.row_messages.proofs.Choosing.{after_cell}
use Rattle.row_messages.proofs.Written.{IsPartOf}
use Rattle.row_messages.proofs.tuples.put_tuple_after.Given as goal

abbrev pub invariant-loop-i : goal.invariant-loop-i
invariant-loop-i l = record {
  part : IsPartOf after_cell l.listed (zip l.old l.new) l.i l.end l.out (take l.initial.end l.initial.out ++ flat_map cell (map after_cell (listed_items l.listed (zip l.old l.new))));
  same : length l.out ≡ length l.initial.out;
}
