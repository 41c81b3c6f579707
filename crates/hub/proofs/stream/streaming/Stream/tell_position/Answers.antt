use Rattle.std.proofs.Common.{refl}
use Rattle.hub.proofs.Streams.{gave_on, kept_on, one_more, same_on}
use Rattle.hub.proofs.stream.streaming.Stream.tell_position.Goals as goal

pub returns-then-position-self-clause-serves : goal.returns-then-position-self-clause-serves
returns-then-position-self-clause-serves g c = same_on c.args.self.now.walsender c.args.self.now.walsender (g.W.Write.contents c.args.to.now) refl

pub returns-in_err-keepalive-clause-serves : goal.returns-in_err-keepalive-clause-serves
returns-in_err-keepalive-clause-serves g c = kept_on c.args.self.now.walsender c.keepalive.new.self (g.W.Write.contents c.args.to.now) c.keepalive.ensures.reader c.keepalive.ensures.serves

pub returns-in_err-write_held-clause-serves : goal.returns-in_err-write_held-clause-serves
returns-in_err-write_held-clause-serves g c =
    let old = c.args.self.now.walsender in
    let held = c.keepalive.new.self in
    let written = c.write_held.new.self in
    let before = g.W.Write.contents c.args.to.now in
    let after = g.W.Write.contents c.write_held.new.to in
    let (given, _, gives, appended) = c.write_held.ensures.serves in
    one_more old held written before before after (kept_on old held before c.keepalive.ensures.reader c.keepalive.ensures.serves) (gave_on held written before after given c.write_held.ensures.reader gives appended)

pub returns-clause-serves : goal.returns-clause-serves
returns-clause-serves g c =
    let old = c.args.self.now.walsender in
    let held = c.keepalive.new.self in
    let written = c.write_held.new.self in
    let before = g.W.Write.contents c.args.to.now in
    let after = g.W.Write.contents c.write_held.new.to in
    let (given, _, gives, appended) = c.write_held.ensures.serves in
    one_more old held written before before after (kept_on old held before c.keepalive.ensures.reader c.keepalive.ensures.serves) (gave_on held written before after given c.write_held.ensures.reader gives appended)
