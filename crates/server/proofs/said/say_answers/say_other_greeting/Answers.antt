use Rattle.std.proofs.Common.{◌++◌}
use Rattle.std.specs.Prelude.{codes}
use Rattle.frames.specs.declared.back.Back.TheVariants.{AuthenticationOk}
use Rattle.server.specs.Said.{sent_frame, ready, status, key_frame, other_greeting}
use Rattle.server.proofs.Tails.{after}
use Rattle.server.proofs.said.say_answers.say_other_greeting.Goals as goal

pub returns : goal.returns
unfolding other_greeting
returns c =
    let key = after c.say_ready.result c.say_status-3.new.out.items c.say_key.new.out.items c.say_ready.new.out.items (sent_frame (key_frame c.args.number)) ready c.in_ok-say_key.ensures c.say_ready.ensures in
    let after_key = sent_frame (key_frame c.args.number) ++ ready in
    let times = after c.say_ready.result c.say_status-2.new.out.items c.say_status-3.new.out.items c.say_ready.new.out.items (sent_frame (status (codes "integer_datetimes") (codes "on"))) after_key c.in_ok-say_status-3.ensures key in
    let after_times = sent_frame (status (codes "integer_datetimes") (codes "on")) ++ after_key in
    let encoding = after c.say_ready.result c.say_status.new.out.items c.say_status-2.new.out.items c.say_ready.new.out.items (sent_frame (status (codes "client_encoding") (codes "UTF8"))) after_times c.in_ok-say_status-2.ensures times in
    let after_encoding = sent_frame (status (codes "client_encoding") (codes "UTF8")) ++ after_times in
    let version = after c.say_ready.result c.say_authenticated.new.out.items c.say_status.new.out.items c.say_ready.new.out.items (sent_frame (status (codes "server_version") (codes "15.0"))) after_encoding c.in_ok-say_status.ensures encoding in
    after c.say_ready.result c.args.out.now.items c.say_authenticated.new.out.items c.say_ready.new.out.items (sent_frame AuthenticationOk) (sent_frame (status (codes "server_version") (codes "15.0")) ++ after_encoding) c.in_ok-say_authenticated.ensures version
