use Rattle.std.proofs.Common.{sym}
use Rattle.reorder.proofs.places.pool.Pool.count.Goals as goal

pub count-requires : goal.count-requires
count-requires c = c.self.invariant.0.made c.args.xid c.in-Some.strand.now (sym c.in-Some.ensures.value)
