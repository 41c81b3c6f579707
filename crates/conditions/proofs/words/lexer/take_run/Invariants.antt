use Rattle.std.proofs.Common.{◌≡◌, ◌++◌, length}
use Rattle.conditions.specs.Lexing.{run_of, after_run}
use Rattle.conditions.proofs.words.lexer.take_run.Given as goal

abbrev pub invariant-loop-b : goal.invariant-loop-b
invariant-loop-b l = record { run : l.bytes.items ++ run_of l.class l.rest ≡ l.fn.bytes.items ++ run_of l.class l.text; after : after_run l.class l.rest ≡ after_run l.class l.text }

abbrev pub decreases-loop-b : goal.decreases-loop-b
decreases-loop-b l = length l.rest
