use Rattle.std.proofs.Common.{sym, subst}
use Rattle.std.specs.Str.{IsUtf8}
use Rattle.replcmd.proofs.Texts.{unblanked_is_text}
use Rattle.replcmd.proofs.text.lexer.token_of.Goals as goal

pub token_at_front-requires : goal.token_at_front-requires
token_at_front-requires c = subst IsUtf8 (sym c.after_blanks.ensures) (unblanked_is_text c.args.text.now c.requires)
