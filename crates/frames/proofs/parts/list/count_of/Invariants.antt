use Rattle.std.proofs.Common.{◌≡◌, ◌-◌, ◌+◌, length}
use Rattle.pqformat.specs.Steps.{until_at}
use Rattle.frames.specs.Body.{passed_part}
use Rattle.frames.proofs.parts.list.count_of.Given as goal

abbrev pub invariant-loop-count : goal.invariant-loop-count
invariant-loop-count g l = passed_part (λ xs. l.count + length xs) (until_at tt g.T.Field.field_at (l.limit - l.count) l.cursor) ≡ passed_part length (until_at tt g.T.Field.field_at l.limit l.initial.cursor)
