use Rattle.std.proofs.Common.{w64, of_z, to_z, ◌∙◌}
use Rattle.hub.proofs.Streams.{one_keepalive_more}
use Rattle.hub.proofs.stream.streaming.Stream.keep_alive.Goals as goal

pub loop-preserved : goal.loop-preserved
loop-preserved g c =
    let both = one_keepalive_more c.args.self.now.walsender.sender c.loop.self.walsender.sender c.keepalive.new.self.sender (to_z w64 (of_z w64 c.args.clock)) c.loop.counter c.loop.invariant.rest c.loop.invariant.held c.in_ok-keepalive.ensures.ok in
    record {
      held = both.0;
      rest = both.1;
      reader = c.keepalive.ensures.reader ∙ c.loop.invariant.reader;
      hold = c.loop.invariant.hold;
      serves = λ log written serving. c.keepalive.ensures.serves log written (c.loop.invariant.serves log written serving);
    }
