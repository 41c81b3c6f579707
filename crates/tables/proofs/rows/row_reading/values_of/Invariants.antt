use Rattle.std.proofs.Common.{◌≡◌, ◌-◌, ◌<◌}
use Rattle.std.specs.Prelude.{IsOk}
use Rattle.pqformat.specs.Steps.{repeat_at}
use Rattle.pqformat.proofs.Loop.{with_front}
use Rattle.tables.specs.Kinds.{value_at}
use Rattle.tables.proofs.rows.row_reading.values_of.Given as goal

abbrev pub invariant-loop : goal.invariant-loop
invariant-loop l = (with_front l.values.items (repeat_at value_at (l.count - l.counter) l.cursor) ≡ repeat_at value_at l.count l.initial.cursor)
    × (l.counter ≡ 0 → l.cursor ≡ l.initial.cursor) × (0 < l.counter → IsOk (value_at l.initial.cursor))
