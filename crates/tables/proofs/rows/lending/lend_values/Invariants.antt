use Rattle.std.proofs.Common.{◌≡◌, ◌-◌, length, map, take}
use Rattle.pqformat.specs.Steps.{repeat_at}
use Rattle.pqformat.proofs.Loop.{with_front}
use Rattle.tables.specs.Kinds.{value_at, value_of}
use Rattle.tables.proofs.rows.lending.lend_values.Given as goal

abbrev pub invariant-loop-i : goal.invariant-loop-i
invariant-loop-i l = record {
  read : with_front (map value_of (take l.i l.room)) (repeat_at value_at (l.count - l.i) l.cursor) ≡ repeat_at value_at l.count l.initial.cursor;
  same : length l.room ≡ length l.initial.room;
}
