use Rattle.std.proofs.Common.{◌≤◌, ◌<◌, ℕ, drop}
use Rattle.segments.specs.Contents.{Tells}
use Rattle.segments.proofs.finding.tells_more.Given as goal

-- none before this place tells more
abbrev pub invariant-loop-later : goal.invariant-loop-later
invariant-loop-later l = (later : ℕ) → l.at ≤ later → later < l.later → Tells l.key (drop later l.content) l.at → ⊥
