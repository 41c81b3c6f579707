use Rattle.std.proofs.Common.{sym}
use Rattle.reorder.proofs.places.pool.Pool.is_full_for.Goals as goal

pub has_room_for-requires-clause-of : goal.has_room_for-requires-clause-of
has_room_for-requires-clause-of c = c.self.invariant.0.made c.args.xid c.in-Some.strand.now (sym c.in-Some.ensures.value)
