use Rattle.server.specs.Segment.{Went, HasCause, most_turns}
use Rattle.server.proofs.connection.Connection.hear.Given as goal

abbrev pub invariant-loop : goal.invariant-loop
invariant-loop g l = Went g.D.Backend.told HasCause l.bytes l.fn.self l.fn.backend l.fn.out.items l.self l.backend l.out.items

abbrev pub decreases-loop : goal.decreases-loop
decreases-loop g l = most_turns l.self
