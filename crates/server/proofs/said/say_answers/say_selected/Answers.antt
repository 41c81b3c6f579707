use Rattle.std.proofs.Common.{◌≡◌, ◌++◌, ◌∙◌, arith}
use Rattle.std.specs.Prelude.{codes}
use Rattle.std.specs.Fmt.{decimal}
use Rattle.std.proofs.lemmas.Fmt.{length-decimal-le}
use Rattle.std.proofs.lemmas.List.{length-append}
use Rattle.server.specs.Answers.{end_of_rows}
use Rattle.server.specs.Said.{sent_frame, ready, completion}
use Rattle.server.proofs.Tails.{after}
use Rattle.server.proofs.said.say_answers.say_selected.Goals as goal

pub say_completed-requires : goal.say_completed-requires
say_completed-requires c =
    let twenty = length-decimal-le 20 c.args.count (omega arith) (omega arith) (omega arith) in
    rw (c.as_str.ensures.value, c.in_ok-tag.ensures) (omega (arith, twenty, length-append (codes "SELECT ") (decimal c.args.count)))

pub returns : goal.returns
unfolding end_of_rows
returns c =
    let tag : c.as_str.result.now ≡ codes "SELECT " ++ decimal c.args.count = c.as_str.ensures.value ∙ c.in_ok-tag.ensures in
    let first = rw tag at c.in_ok-say_completed.ensures in
    after c.say_ready.result c.args.out.now.items c.say_completed.new.out.items c.say_ready.new.out.items (sent_frame (completion (codes "SELECT " ++ decimal c.args.count))) ready first c.say_ready.ensures
