use Rattle.std.proofs.Common.{◌-◌, length}
use Rattle.walsender.proofs.Moving.{Drained}
use Rattle.walsender.proofs.held.outgoing.Outgoing.drain.Given as goal

abbrev pub invariant-loop-count : goal.invariant-loop-count
invariant-loop-count l = Drained l.selection l.fn.reorder l.fn.self l.fn.out l.reorder l.self l.out l.count

abbrev pub decreases-loop-count : goal.decreases-loop-count
decreases-loop-count l = length l.initial.out - l.count
