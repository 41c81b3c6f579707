use Rattle.std.proofs.Common.{◌-◌, length}
use Rattle.walsender.specs.Outgoing.{HoldsSame, held_of}
use Rattle.walsender.proofs.held.outgoing.Outgoing.gather.Given as goal

abbrev pub invariant-loop-self : goal.invariant-loop-self
invariant-loop-self l = HoldsSame l.selection l.fn.reorder l.reorder l.fn.self l.self

abbrev pub decreases-loop-self : goal.decreases-loop-self
decreases-loop-self l = length (held_of l.selection l.reorder l.self) - length l.self.front.items
