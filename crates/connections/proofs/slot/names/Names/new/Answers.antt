use Rattle.std.proofs.Common.{arith}
use Rattle.connections.proofs.Naming.{none_in_table}
use Rattle.connections.proofs.slot.names.Names.new.Goals as goal

pub invariant_of-result : goal.invariant_of-result
invariant_of-result g c = record { in_table = none_in_table c.new.result c.new.ensures.none; few = let n = c.new.ensures.count in omega (arith, n) }
