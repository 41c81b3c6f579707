use Rattle.std.proofs.Common.{◌≡◌, ◌∷◌, subst, rules}
use Rattle.std.specs.Str.{IsUtf8}
use Rattle.replcmd.proofs.Texts.{behind_ascii}
use Rattle.server.proofs.asked.quoted.quoted_of.Goals as goal

pub quoted_of-requires-clause-utf8 : goal.quoted_of-requires-clause-utf8
quoted_of-requires-clause-utf8 c =
    let front : c.in-Some.first.now ≡ c.args.quote = search rules in
    let text : c.args.text.now ≡ c.args.quote ∷ c.in-Some.inside.now = search rules in
    behind_ascii c.args.quote c.in-Some.inside.now c.requires.ascii (subst IsUtf8 text c.requires.utf8)
