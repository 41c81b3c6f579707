use Rattle.std.proofs.Common.{◌++◌}
use Rattle.std.specs.Prelude.{codes}
use Rattle.server.specs.Said.{sent_frame, ready, identity_columns, identity_values, completion, answer_to_identify}
use Rattle.server.proofs.Tails.{after}
use Rattle.server.proofs.said.say.say_identified.Goals as goal

pub returns : goal.returns
unfolding answer_to_identify
returns c = after c.say_ready.result c.args.out.now.items c.say_identity_columns.new.out.items c.say_ready.new.out.items (sent_frame identity_columns) ((sent_frame (identity_values c.args.systemid.now c.args.end c.args.database.now)) ++ ((sent_frame (completion (codes "IDENTIFY_SYSTEM"))) ++ ready)) c.in_ok-say_identity_columns.ensures (after c.say_ready.result c.say_identity_columns.new.out.items c.say_identity_values.new.out.items c.say_ready.new.out.items (sent_frame (identity_values c.args.systemid.now c.args.end c.args.database.now)) ((sent_frame (completion (codes "IDENTIFY_SYSTEM"))) ++ ready) c.in_ok-say_identity_values.ensures (after c.say_ready.result c.say_identity_values.new.out.items c.say_completed.new.out.items c.say_ready.new.out.items (sent_frame (completion (codes "IDENTIFY_SYSTEM"))) ready c.in_ok-say_completed.ensures c.say_ready.ensures))
