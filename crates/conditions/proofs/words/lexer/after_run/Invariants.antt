use Rattle.std.proofs.Common.{◌≡◌, length}
use Rattle.conditions.specs.Lexing.{after_run}
use Rattle.conditions.proofs.words.lexer.after_run.Given as goal

abbrev pub invariant-loop-b : goal.invariant-loop-b
invariant-loop-b l = after_run l.class l.rest ≡ after_run l.class l.text

abbrev pub decreases-loop-b : goal.decreases-loop-b
decreases-loop-b l = length l.rest
