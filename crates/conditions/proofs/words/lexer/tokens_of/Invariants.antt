use Rattle.std.proofs.Common.{◌++◌, List, length}
use Rattle.conditions.specs.declared.words.token.Token.{Token}
use Rattle.conditions.specs.Lexing.{Lexes}
use Rattle.conditions.proofs.words.lexer.tokens_of.Given as goal

-- whatever the rest lexes to completes what was read
abbrev pub invariant-loop-tokens : goal.invariant-loop-tokens
invariant-loop-tokens l = (more : List Token) → Lexes l.place more → Lexes l.text (l.tokens.items ++ more)

abbrev pub decreases-loop-tokens : goal.decreases-loop-tokens
decreases-loop-tokens l = length l.place
