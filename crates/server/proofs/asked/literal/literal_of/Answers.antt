use Rattle.std.proofs.Common.{◌≡◌, ◌∷◌, subst, rules, arith}
use Rattle.std.specs.Str.{IsUtf8}
use Rattle.replcmd.proofs.Texts.{behind_ascii}
use Rattle.server.proofs.asked.literal.literal_of.Goals as goal

pub escaped_of-requires : goal.escaped_of-requires
escaped_of-requires c =
    let begun : c.args.text.now ≡ 69 ∷ c.in-Some-eq69-default.quoted.now = search rules in
    behind_ascii 69 c.in-Some-eq69-default.quoted.now (omega arith) (subst IsUtf8 begun c.requires)
