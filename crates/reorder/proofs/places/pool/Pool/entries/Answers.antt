use Rattle.std.proofs.Common.{sym, subst}
use Rattle.std.specs.List.{AllByRecursion}
use Rattle.reorder.specs.Entries.{IsEntry}
use Rattle.reorder.specs.Pool.{entries_by}
use Rattle.reorder.proofs.places.pool.Pool.entries.Goals as goal

pub entries-requires : goal.entries-requires
entries-requires c = c.self.invariant.0.made c.args.xid c.in-Some.strand.now (sym c.in-Some.ensures.value)

pub returns-in-Some-clause-entries : goal.returns-in-Some-clause-entries
returns-in-Some-clause-entries c = rw c.entries.ensures (subst (λ o. AllByRecursion IsEntry (entries_by c.self.inside.arena o)) (sym c.in-Some.ensures.value) (c.self.invariant.1 c.args.xid))
