use Rattle.std.proofs.Common.{◌++◌, List, length}
use Rattle.std.specs.Str.{IsUtf8}
use Rattle.replcmd.specs.declared.text.token.Token.{Token}
use Rattle.replcmd.specs.Lexing.{Lexes}
use Rattle.replcmd.proofs.text.lexer.tokens_of.Given as goal

-- whatever the rest lexes to completes what was read
abbrev pub invariant-loop-tokens : goal.invariant-loop-tokens
invariant-loop-tokens l = record {
  completed : (more : List Token) → Lexes l.place more → Lexes l.text (l.tokens.items ++ more);
  valid : IsUtf8 l.place;
}

abbrev pub decreases-loop-tokens : goal.decreases-loop-tokens
decreases-loop-tokens l = length l.place
