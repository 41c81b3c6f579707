use Rattle.std.proofs.Common.{◌≡◌, ◌-◌}
use Rattle.std.specs.List.{list_all}
use Rattle.pqformat.specs.Steps.{repeat_at}
use Rattle.frames.specs.Body.{passed_part}
use Rattle.frames.proofs.Passing.{judged_on}
use Rattle.frames.proofs.parts.list.pass_items.Given as goal

abbrev pub invariant-loop : goal.invariant-loop
invariant-loop g l = judged_on g.T.Field.is_text l.are_texts (repeat_at g.T.Field.field_at (l.count - l.counter) l.cursor)
    ≡ passed_part (list_all g.T.Field.is_text) (repeat_at g.T.Field.field_at l.count l.initial.cursor)
