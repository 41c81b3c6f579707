use Rattle.std.proofs.Common.{◌≡◌, ◌++◌, ℕ, List}
use Rattle.wal.specs.declared.record.Record.{Record}
use Rattle.walsender.specs.Serving.{Serves}
use Rattle.hub.specs.Streams.{keepalives}
use Rattle.hub.proofs.stream.streaming.Stream.keep_alive.Given as goal

abbrev pub invariant-loop : goal.invariant-loop
invariant-loop g l = record {
  held : l.self.walsender.sender.held ≡ l.fn.self.walsender.sender.held ++ keepalives l.fn.self.walsender.sender.position l.clock l.counter;
  rest : l.self.walsender.sender ≡ record l.fn.self.walsender.sender { held = l.self.walsender.sender.held };
  reader : l.self.walsender.reader ≡ l.fn.self.walsender.reader;
  hold : l.self.hold ≡ l.fn.self.hold;
  serves : (log : List Record) (written : List ℕ) → Serves log written l.fn.self.walsender → Serves log written l.self.walsender;
}
