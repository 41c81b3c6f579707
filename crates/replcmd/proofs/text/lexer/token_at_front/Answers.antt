use Rattle.std.proofs.Common.{◌≡◌, ◌∷◌, subst, arith, rules}
use Rattle.std.specs.Str.{IsUtf8}
use Rattle.replcmd.proofs.Texts.{behind_ascii}
use Rattle.replcmd.proofs.text.lexer.token_at_front.Goals as goal

pub quoted_name-requires : goal.quoted_name-requires
quoted_name-requires c =
    let front : c.args.text.now ≡ c.in-Some.b.now ∷ c.in-Some.tail.now = search rules in
    behind_ascii c.in-Some.b.now c.in-Some.tail.now (omega arith) (subst IsUtf8 front c.requires)

pub quoted_value-requires : goal.quoted_value-requires
quoted_value-requires c =
    let front : c.args.text.now ≡ c.in-Some.b.now ∷ c.in-Some.tail.now = search rules in
    behind_ascii c.in-Some.b.now c.in-Some.tail.now (omega arith) (subst IsUtf8 front c.requires)
