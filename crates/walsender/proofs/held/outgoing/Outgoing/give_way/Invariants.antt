use Rattle.std.proofs.Common.{◌-◌, length}
use Rattle.walsender.specs.Outgoing.{HoldsSame, held_of}
use Rattle.walsender.proofs.held.outgoing.Outgoing.give_way.Given as goal

abbrev pub invariant-loop-reorder : goal.invariant-loop-reorder
invariant-loop-reorder l = HoldsSame l.selection l.fn.reorder l.reorder l.fn.self l.self

abbrev pub decreases-loop-reorder : goal.decreases-loop-reorder
decreases-loop-reorder l = length (held_of l.selection l.reorder l.self) - length l.self.front.items
