use Rattle.std.proofs.Common.{sym}
use Rattle.reorder.proofs.Lookups.{spots_same}
use Rattle.reorder.proofs.strands.Strands.joined.Goals as goal

pub returns-in_ok-joined-in-Some : goal.returns-in_ok-joined-in-Some
returns-in_ok-joined-in-Some c = rw (← c.self.view_is) (spots_same c.self.inside.strands.entries c.self.inside.members.entries c.self.inside.pool c.args.top c.in-Some.members.now _ (sym c.in-Some.ensures.value) (rw (← c.as_slice.ensures) c.in_ok-joined-in-Some.ensures))
