use Rattle.std.proofs.Common.{◌++◌}
use Rattle.std.specs.Prelude.{codes}
use Rattle.server.specs.Answers.{value_shown, single_column, single_row}
use Rattle.server.specs.Said.{sent_frame, ready, completion}
use Rattle.server.proofs.Tails.{after}
use Rattle.server.proofs.said.say_answers.say_shown.Goals as goal

pub returns : goal.returns
unfolding value_shown
returns c =
    let end = after c.say_ready.result c.say_single_row.new.out.items c.say_completed.new.out.items c.say_ready.new.out.items (sent_frame (completion (codes "SHOW"))) ready c.in_ok-say_completed.ensures c.say_ready.ensures in
    let behind = sent_frame (completion (codes "SHOW")) ++ ready in
    let row = after c.say_ready.result c.say_single_column.new.out.items c.say_single_row.new.out.items c.say_ready.new.out.items (single_row c.args.value.now) behind c.in_ok-say_single_row.ensures end in
    after c.say_ready.result c.args.out.now.items c.say_single_column.new.out.items c.say_ready.new.out.items (single_column c.args.name.now) (single_row c.args.value.now ++ behind) c.in_ok-say_single_column.ensures row
