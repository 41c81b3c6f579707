use Rattle.std.proofs.Common.{◌≡◌, ◌-◌}
use Rattle.pqformat.specs.Steps.{repeat_at}
use Rattle.frames.specs.Body.{checked_at}
use Rattle.pqformat.proofs.Loop.{with_front}
use Rattle.frames.proofs.parts.list.items_of.Given as goal

abbrev pub invariant-loop : goal.invariant-loop
invariant-loop g l = with_front l.items.items (repeat_at (λ bytes. checked_at g.T.Field.is_text (g.T.Field.field_at bytes)) (l.count - l.counter) l.cursor)
    ≡ repeat_at (λ bytes. checked_at g.T.Field.is_text (g.T.Field.field_at bytes)) l.count l.initial.cursor
