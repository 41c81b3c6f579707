use Rattle.std.proofs.Common.{◌≡◌, ◌++◌, length}
use Rattle.client.specs.Taking.{Reached}
use Rattle.client.proofs.applier.Applier.take_words.Given as goal

abbrev pub invariant-loop : goal.invariant-loop
invariant-loop l = Reached l.fn.self.subscriber (l.fn.self.unread ++ l.bytes) l.self.subscriber l.self.unread × (l.self.fault ≡ l.fn.self.fault)

abbrev pub decreases-loop : goal.decreases-loop
decreases-loop l = length l.self.unread
