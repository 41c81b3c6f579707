use Rattle.std.proofs.Common.{◌≡◌}
use Rattle.follower.specs.Once.{Gains}
use Rattle.follower.proofs.follower.Follower.await_one.Given as goal

abbrev pub invariant-loop : goal.invariant-loop
invariant-loop g l = record {
  once : Gains l.fn.self.receiver.applier.subscriber l.self.receiver.applier.subscriber;
  handed : l.self.handed ≡ l.fn.self.handed;
  acknowledged : l.self.acknowledged ≡ l.fn.self.acknowledged;
}
