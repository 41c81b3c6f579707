use Rattle.std.proofs.Common.{◌≡◌, ◌<◌, ◌-◌, length}
use Rattle.walsender.specs.Outgoing.{HoldsSame}
use Rattle.walsender.proofs.held.outgoing.Outgoing.fill_up.Given as goal

abbrev pub invariant-loop-self : goal.invariant-loop-self
invariant-loop-self l = record {
  same : HoldsSame l.selection l.initial.reorder l.reorder l.initial.self l.self;
  front : l.self.front ≡ l.initial.self.front;
  some : l.self.from < l.self.to;
}

abbrev pub decreases-loop-self : goal.decreases-loop-self
decreases-loop-self l = length l.self.frames.items - l.self.to
