use Rattle.std.proofs.Common.{◌++◌}
use Rattle.std.specs.Prelude.{codes}
use Rattle.frames.specs.declared.back.Back.TheVariants.{AuthenticationOk}
use Rattle.server.specs.Said.{sent_frame, ready, status, key_frame, greeting}
use Rattle.server.proofs.Tails.{after}
use Rattle.server.proofs.said.say.say_greeting.Goals as goal

pub returns : goal.returns
unfolding greeting
returns c = after c.say_ready.result c.args.out.now.items c.say_authenticated.new.out.items c.say_ready.new.out.items (sent_frame AuthenticationOk) ((sent_frame (status (codes "server_version") (codes "15.0"))) ++ ((sent_frame (status (codes "client_encoding") (codes "UTF8"))) ++ ((sent_frame (key_frame c.args.number)) ++ ready))) c.in_ok-say_authenticated.ensures (after c.say_ready.result c.say_authenticated.new.out.items c.say_status.new.out.items c.say_ready.new.out.items (sent_frame (status (codes "server_version") (codes "15.0"))) ((sent_frame (status (codes "client_encoding") (codes "UTF8"))) ++ ((sent_frame (key_frame c.args.number)) ++ ready)) c.in_ok-say_status.ensures (after c.say_ready.result c.say_status.new.out.items c.say_status-2.new.out.items c.say_ready.new.out.items (sent_frame (status (codes "client_encoding") (codes "UTF8"))) ((sent_frame (key_frame c.args.number)) ++ ready) c.in_ok-say_status-2.ensures (after c.say_ready.result c.say_status-2.new.out.items c.say_key.new.out.items c.say_ready.new.out.items (sent_frame (key_frame c.args.number)) ready c.in_ok-say_key.ensures c.say_ready.ensures)))
