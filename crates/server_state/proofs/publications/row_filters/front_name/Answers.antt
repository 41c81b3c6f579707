use Rattle.std.proofs.Common.{◌≡◌, ◌∷◌, subst, rules, arith}
use Rattle.std.specs.Str.{IsUtf8}
use Rattle.replcmd.proofs.Texts.{behind_ascii}
use Rattle.server_state.specs.declared.publications.row_filters.TheConstants.{NAME_QUOTE}
use Rattle.server_state.proofs.publications.row_filters.front_name.Goals as goal

pub quoted_of-requires-clause-utf8 : goal.quoted_of-requires-clause-utf8
quoted_of-requires-clause-utf8 c =
    let front : c.in-Some.first.now ≡ NAME_QUOTE = search rules in
    let text : c.args.text.now ≡ NAME_QUOTE ∷ c.in-Some.inside.now = search rules in
    behind_ascii NAME_QUOTE c.in-Some.inside.now (omega arith) (subst IsUtf8 text c.requires)
