use Rattle.std.proofs.Common.{◌≡◌}
use Rattle.hub.specs.Streams.{StreamsOn}
use Rattle.hub.specs.Turns.{Answers, TakesTurns, standing}
use Rattle.hub.proofs.stream.stream_loop.run.Given as goal

abbrev pub invariant-loop : goal.invariant-loop
invariant-loop g l = record {
  serves : StreamsOn l.fn.stream.walsender l.stream.walsender (g.W.Write.contents l.fn.to) (g.W.Write.contents l.to);
  turns : TakesTurns g.D.WorkBackend.told l.fn.stream.hold.lease.place Answers l.fn.first l.fn.backend (standing l.fn.stream.walsender l.fn.stream.hold.seat (g.W.Write.contents l.fn.to)) l.backend (standing l.stream.walsender l.stream.hold.seat (g.W.Write.contents l.to));
  lease : l.stream.hold.lease ≡ l.fn.stream.hold.lease;
}
