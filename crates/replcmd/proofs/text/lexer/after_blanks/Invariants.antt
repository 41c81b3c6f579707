use Rattle.std.proofs.Common.{◌≡◌, length}
use Rattle.replcmd.specs.Lexing.{after_blanks}
use Rattle.replcmd.proofs.text.lexer.after_blanks.Given as goal

abbrev pub invariant-loop-b : goal.invariant-loop-b
invariant-loop-b l = after_blanks l.rest ≡ after_blanks l.text

abbrev pub decreases-loop-b : goal.decreases-loop-b
decreases-loop-b l = length l.rest
