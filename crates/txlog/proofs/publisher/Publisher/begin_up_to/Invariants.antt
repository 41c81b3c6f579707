use Rattle.std.proofs.Common.{◌≡◌}
use Rattle.txlog.specs.Invariants.{IsPublisher}
use Rattle.txlog.specs.Replaying.{IsBeside}
use Rattle.txlog.proofs.publisher.Publisher.begin_up_to.Given as goal

-- no record is written by it
abbrev pub invariant-loop : goal.invariant-loop
invariant-loop g l = (l.self.log ≡ l.fn.self.log) × IsBeside l.fn.self l.self × IsPublisher l.self
