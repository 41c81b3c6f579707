use Rattle.std.proofs.Common.{◌≡◌, false, rules}
use Rattle.pqformat.specs.Quoting.{quoted_at}
use Rattle.pqformat.proofs.Quoting.{found}
use Rattle.replcmd.proofs.Texts.{quoted_is_text}
use Rattle.replcmd.proofs.text.lexer.quoted_of.Goals as goal

pub name_of-requires : goal.name_of-requires
name_of-requires c =
    let read : quoted_at false c.args.quote c.args.text.now ≡ found c.in-Some.bytes.items c.in-Some.rest.now = search rules in
    (quoted_is_text c.args.quote c.args.text.now c.in-Some.bytes.items c.in-Some.rest.now c.requires.ascii c.requires.utf8 read).0
