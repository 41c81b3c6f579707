use Rattle.std.proofs.Common.{◌≡◌, [], sym, rules, ◌∙◌}
use Rattle.std.specs.Prelude.{None}
use Rattle.pqformat.proofs.Quoting.{found}
use Rattle.server.specs.Reading.{quoted_front}
use Rattle.server.specs.declared.asked.quoted.TheConstants.{NAME_QUOTE}
use Rattle.server.proofs.Slots.{name_read, not_named, nothing_left, the_name}
use Rattle.server.proofs.asked.question.quoted_slot_of.Goals as goal

pub returns-in_default : goal.returns-in_default
returns-in_default c =
    let read : quoted_front NAME_QUOTE c.args.named.now ≡ None = search rules in
    not_named c.args.named.now read

pub returns-then-is_slot_name : goal.returns-then-is_slot_name
returns-then-is_slot_name c =
    let read : quoted_front NAME_QUOTE c.args.named.now ≡ found c.in-Some.slot c.in-Some.rest.now = search rules in
    let end : c.in-Some.rest.now ≡ [] = nothing_left c.in-Some.rest.now (sym c.is_empty.ensures ∙ c.if-is_empty.true) in
    (search rules, name_read c.args.named.now c.in-Some.slot c.in-Some.rest.now read end)

pub returns : goal.returns
returns c slot short is =
    let read : quoted_front NAME_QUOTE c.args.named.now ≡ found c.in-Some.slot c.in-Some.rest.now = search rules in
    let told = the_name c.args.named.now c.in-Some.slot c.in-Some.rest.now read slot short is in
    search (rules, told)
