use Rattle.std.proofs.Common.{◌≤◌, length, take}
use Rattle.std.specs.Io.KnownBytes.{Appends}
use Rattle.follower.proofs.receiving.giving.give.Given as goal

abbrev pub invariant-loop : goal.invariant-loop
invariant-loop g l = (l.taken ≤ length l.bytes) × Appends (g.W.Write.contents l.fn.to) (g.W.Write.contents l.to) (take l.taken l.bytes)
