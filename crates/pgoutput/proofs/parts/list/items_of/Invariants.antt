use Rattle.std.proofs.Common.{◌≡◌, ◌-◌}
use Rattle.pqformat.specs.Steps.{repeat_at}
use Rattle.pqformat.proofs.Loop.{with_front}
use Rattle.pgoutput.proofs.parts.list.items_of.Given as goal

abbrev pub invariant-loop : goal.invariant-loop
invariant-loop g l = with_front l.items.items (repeat_at g.T.ReadItem.item_at (l.count - l.counter) l.cursor) ≡ repeat_at g.T.ReadItem.item_at l.count l.initial.cursor
