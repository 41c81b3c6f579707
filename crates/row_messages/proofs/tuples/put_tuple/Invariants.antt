use Rattle.std.proofs.Common.{◌≡◌, ◌++◌, length, take}
use Rattle.std.specs.List.{flat_map}
use Rattle.pgoutput.specs.Tuple.{cell}
use Rattle.row_messages.specs.Relations.{listed_items}
use Rattle.row_messages.specs.Kinds.{cell_of}
use Rattle.row_messages.specs.Tuples.{tuple_of}
use Rattle.row_messages.proofs.Written.{IsPartOf}
use Rattle.row_messages.proofs.tuples.put_tuple.Given as goal

abbrev pub invariant-loop-i : goal.invariant-loop-i
invariant-loop-i l = record {
  part : IsPartOf cell_of l.listed l.row l.i l.end l.out (take l.initial.end l.initial.out ++ flat_map cell (tuple_of (listed_items l.listed l.row)));
  same : length l.out ≡ length l.initial.out;
}
