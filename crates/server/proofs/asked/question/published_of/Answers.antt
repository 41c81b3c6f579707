use Rattle.std.proofs.Common.{rules, arith}
use Rattle.std.proofs.lemmas.Grind.{common_steps}
use Rattle.server.proofs.Unasked.{none_published}
use Rattle.server.proofs.asked.question.published_of.Goals as goal

pub returns-in-None : goal.returns-in-None
returns-in-None c = first_of (search (rules, none_published), grind (arith, common_steps, none_published))
