use Rattle.std.proofs.Common.{◌≡◌, ◌++◌, ◌+◌, ℕ}
use Rattle.hub.specs.Streams.{StreamsOn, keepalives}
use Rattle.hub.proofs.Streams.{Gave}
use Rattle.hub.proofs.stream.streaming.Stream.answer_statuses.Given as goal

abbrev pub invariant-loop-due : goal.invariant-loop-due
invariant-loop-due g l = record {
  rest : l.self.walsender.sender ≡ record l.fn.self.walsender.sender { held = l.self.walsender.sender.held; lent = l.self.walsender.sender.lent };
  reader : l.self.walsender.reader ≡ l.fn.self.walsender.reader;
  hold : l.self.hold ≡ l.fn.self.hold;
  kept : (done : ℕ) × (done + l.due ≡ l.count) × Gave (l.fn.self.walsender.sender.held ++ keepalives l.fn.self.walsender.sender.position l.clock done) l.self.walsender.sender.held (g.W.Write.contents l.fn.to) (g.W.Write.contents l.to);
  serves : StreamsOn l.fn.self.walsender l.self.walsender (g.W.Write.contents l.fn.to) (g.W.Write.contents l.to);
}

abbrev pub decreases-loop-due : goal.decreases-loop-due
decreases-loop-due g l = l.due
