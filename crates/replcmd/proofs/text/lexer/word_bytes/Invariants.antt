use Rattle.std.proofs.Common.{◌≡◌, ◌++◌, length}
use Rattle.replcmd.specs.Lexing.{word_of, after_word}
use Rattle.replcmd.proofs.text.lexer.word_bytes.Given as goal

abbrev pub invariant-loop-b : goal.invariant-loop-b
invariant-loop-b l = record { word : l.found.items ++ word_of l.rest ≡ word_of l.text; after : after_word l.rest ≡ after_word l.text }

abbrev pub decreases-loop-b : goal.decreases-loop-b
decreases-loop-b l = length l.rest
