use Rattle.conditions.proofs.Lexemes.{lends_shorter}
use Rattle.conditions.proofs.words.lexer.token_of.Goals as goal

-- src/lexer.rt:223:1
pub returns-clause-shorter : goal.returns-clause-shorter
returns-clause-shorter c = lends_shorter c.args.text.now c.first_token.result c.first_token.ensures
