use Rattle.std.specs.Prelude.{codes}
use Rattle.server.specs.Said.{sent_frame, ready, completion, answer_to_drop}
use Rattle.server.proofs.Tails.{after}
use Rattle.server.proofs.said.say.say_dropped.Goals as goal

pub returns-in_ok-say_completed-in-Ok : goal.returns-in_ok-say_completed-in-Ok
unfolding answer_to_drop
returns-in_ok-say_completed-in-Ok c = rw c.in-Ok.is (after c.say_ready.result c.args.out.now.items c.say_completed.new.out.items c.say_ready.new.out.items (sent_frame (completion (codes "DROP_REPLICATION_SLOT"))) ready c.in_ok-say_completed-in-Ok.ensures c.say_ready.ensures)
