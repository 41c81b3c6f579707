use Rattle.std.proofs.Common.{◌≡◌, ◌-◌, length, take}
use Rattle.pqformat.specs.Steps.{repeat_at}
use Rattle.pqformat.proofs.Loop.{with_front}
use Rattle.tables.specs.Reading.{oid_at}
use Rattle.tables.proofs.rows.lending.lend_each.Given as goal

abbrev pub invariant-loop-i : goal.invariant-loop-i
invariant-loop-i l = record {
  read : with_front (take l.i l.room) (repeat_at oid_at (l.count - l.i) l.cursor) ≡ repeat_at oid_at l.count l.initial.cursor;
  same : length l.room ≡ length l.initial.room;
}
