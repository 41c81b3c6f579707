use Rattle.std.proofs.Common.{◌++◌}
use Rattle.std.specs.Prelude.{codes}
use Rattle.frames.specs.declared.back.Back.TheVariants.{CopyDone}
use Rattle.server.specs.Said.{sent_frame, ready, completion, copied, end_of_stream}
use Rattle.server.proofs.Tails.{after}
use Rattle.server.proofs.said.ending.say_ended.Goals as goal

pub returns : goal.returns
unfolding end_of_stream
returns c =
    let end = after c.say_ready.result c.say_copied.new.out.items c.say_completed.new.out.items c.say_ready.new.out.items (sent_frame (completion (codes "START_REPLICATION"))) ready c.in_ok-say_completed.ensures c.say_ready.ensures in
    let behind = sent_frame (completion (codes "START_REPLICATION")) ++ ready in
    let copy = after c.say_ready.result c.say_copy_done.new.out.items c.say_copied.new.out.items c.say_ready.new.out.items (copied c.args.dialect) behind c.in_ok-say_copied.ensures end in
    after c.say_ready.result c.args.out.now.items c.say_copy_done.new.out.items c.say_ready.new.out.items (sent_frame CopyDone) (copied c.args.dialect ++ behind) c.in_ok-say_copy_done.ensures copy
