use Rattle.std.proofs.Common.{◌≡◌, sym, subst, rules}
use Rattle.std.specs.Str.{IsUtf8}
use Rattle.replcmd.specs.Lexing.{word_of}
use Rattle.replcmd.proofs.Texts.{word_is_text}
use Rattle.replcmd.proofs.text.lexer.word_of.Goals as goal

pub name_of-requires : goal.name_of-requires
name_of-requires c =
    let is : c.in_ok-bytes.bytes.items ≡ word_of c.args.text.now = search rules in
    subst IsUtf8 (sym is) (word_is_text c.args.text.now c.requires).0
