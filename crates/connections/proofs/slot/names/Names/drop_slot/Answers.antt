use Rattle.std.proofs.Common.{arith}
use Rattle.connections.proofs.Naming.{removed_in_table}
use Rattle.connections.proofs.slot.names.Names.drop_slot.Goals as goal

pub invariant_of-self-2 : goal.invariant_of-self-2
invariant_of-self-2 g c =
    record { in_table = removed_in_table c.args.self.now.directory c.remove.new.self c.args.name.now c.remove.ensures.others c.args.self.now.in_table; few = let n = c.remove.ensures.count in let f = c.args.self.now.few in omega (arith, n, f) }
