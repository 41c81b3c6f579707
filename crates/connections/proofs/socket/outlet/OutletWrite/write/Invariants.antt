use Rattle.std.specs.Io.KnownBytes.{Keeps}
use Rattle.connections.proofs.socket.outlet.OutletWrite.write.Given as goal

abbrev pub invariant-loop : goal.invariant-loop
invariant-loop g l =
    (goal.iterator-loop g).can_next l.iterator' × (goal.iterator-loop g).is_finite l.iterator' × Keeps (g.W.Write.contents l.fn.self.to) (g.W.Write.contents l.self.to)
