use Rattle.std.proofs.Common.{◌≡◌, [], length}
use Rattle.walsender.specs.Outgoing.{held_of}
use Rattle.walsender.proofs.Moving.{Written}
use Rattle.walsender.proofs.held.outgoing.Outgoing.write.Given as goal

abbrev pub invariant-loop-out : goal.invariant-loop-out
invariant-loop-out g l = Written l.selection l.fn.reorder l.reorder l.fn.self l.self (g.W.Write.contents l.fn.out) (g.W.Write.contents l.out) × (l.self.front.items ≡ [])

abbrev pub decreases-loop-out : goal.decreases-loop-out
decreases-loop-out g l = length (held_of l.selection l.reorder l.self)
