use Rattle.std.proofs.Common.{◌++◌}
use Rattle.std.specs.Prelude.{codes}
use Rattle.server.specs.Said.{sent_frame, ready, slot_columns, slot_values, completion, slot_made}
use Rattle.server.proofs.Tails.{after}
use Rattle.server.proofs.said.say.say_slot.Goals as goal

pub returns : goal.returns
unfolding slot_made
returns c = after c.say_ready.result c.args.out.now.items c.say_slot_columns.new.out.items c.say_ready.new.out.items (sent_frame slot_columns) ((sent_frame (slot_values c.args.slot.now c.args.position)) ++ ((sent_frame (completion (codes "CREATE_REPLICATION_SLOT"))) ++ ready)) c.in_ok-say_slot_columns.ensures (after c.say_ready.result c.say_slot_columns.new.out.items c.say_slot_values.new.out.items c.say_ready.new.out.items (sent_frame (slot_values c.args.slot.now c.args.position)) ((sent_frame (completion (codes "CREATE_REPLICATION_SLOT"))) ++ ready) c.in_ok-say_slot_values.ensures (after c.say_ready.result c.say_slot_values.new.out.items c.say_completed.new.out.items c.say_ready.new.out.items (sent_frame (completion (codes "CREATE_REPLICATION_SLOT"))) ready c.in_ok-say_completed.ensures c.say_ready.ensures))
