use Rattle.follower.specs.Standing.{Goes, standing}
use Rattle.follower.proofs.resuming.Subscription.take_made.Given as goal

abbrev pub invariant-loop : goal.invariant-loop
invariant-loop g l = Goes (standing l.fn.self.delivery l.fn.made.unread.items (g.W.Write.contents l.fn.output) (g.W.Output.kept l.fn.output) (g.S.Write.contents l.fn.socket))
    (standing l.self.delivery l.made.unread.items (g.W.Write.contents l.output) (g.W.Output.kept l.output) (g.S.Write.contents l.socket))
