use Rattle.std.proofs.Common.{sym, subst, ◌∙◌}
use Rattle.std.specs.Prelude.{codes}
use Rattle.std.specs.Str.{IsUtf8}
use Rattle.server.proofs.Lists.{after_text, list_after}
use Rattle.server.proofs.asked.question.names_behind.Goals as goal

pub names_of-requires-clause-utf8 : goal.names_of-requires-clause-utf8
names_of-requires-clause-utf8 c = after_text c.args.front.now c.in-Some.list.now c.requires (subst IsUtf8 (sym c.as_bytes.ensures.value ∙ c.in-Some.ensures) c.utf8.text)

pub returns-in-Some : goal.returns-in-Some
returns-in-Some c = list_after c.args.text.now c.args.front.now (codes ")") c.in-Some.list.now c.names_of.result (sym c.as_bytes.ensures.value ∙ c.in-Some.ensures) c.names_of.ensures
