use Rattle.std.proofs.Common.{◌≡◌, Some, rules}
use Rattle.server.specs.TableAnswers.{IsShortList, numbers_text}
use Rattle.server.proofs.Rows.{numbers_short, text_small}
use Rattle.server.proofs.said.say_lists.list_value.Goals as goal

pub returns-in_ok-text-in-Some-clause-small : goal.returns-in_ok-text-in-Some-clause-small
returns-in_ok-text-in-Some-clause-small c =
    let text : c.as_str.result.now ≡ numbers_text c.in-Some.numbers = search rules in
    let short : IsShortList (Some c.in-Some.numbers) = rw c.in-Some.is at c.requires in
    text_small c.value.result c.as_str.result.now c.value.ensures (rw text (numbers_short c.in-Some.numbers short.0 short.1))
