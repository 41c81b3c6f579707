use Rattle.std.proofs.Common.{◌≡◌, ◌++◌, length, map, take}
use Rattle.std.specs.List.{flat_map, zip}
use Rattle.pgoutput.specs.Tuple.{cell}
use Rattle.row_messages.specs.Relations.{listed_items}
use Rattle.row_messages.proofs.Choosing.{key_cell_of}
use Rattle.row_messages.proofs.Written.{IsPartOf}
use Rattle.row_messages.proofs.tuples.put_key_tuple.Given as goal

abbrev pub invariant-loop-i : goal.invariant-loop-i
invariant-loop-i l = record {
  part : IsPartOf key_cell_of l.listed (zip l.columns l.row) l.i l.end l.out (take l.initial.end l.initial.out ++ flat_map cell (map key_cell_of (listed_items l.listed (zip l.columns l.row))));
  same : length l.out ≡ length l.initial.out;
}
