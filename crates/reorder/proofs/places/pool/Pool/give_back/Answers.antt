use Rattle.std.proofs.Common.{sym}
use Rattle.reorder.proofs.Owning.{back_chunks, whole_back}
use Rattle.reorder.proofs.Pooling.{pool_back, hold_back, entries_back}
use Rattle.reorder.proofs.Lending.{lent_back}
use Rattle.reorder.proofs.places.pool.Pool.give_back.Goals as goal

pub give_back-requires : goal.give_back-requires
give_back-requires c = c.self.invariant.0.made c.args.xid c.in-Some.strand (sym c.in-Some.ensures.value)

pub invariant_of-self : goal.invariant_of-self
invariant_of-self c = rw c.give_back.ensures (
  pool_back c.args.xid c.self.inside.arena c.self.inside.strands.entries c.remove.new.self.entries c.in-Some.strand c.self.invariant.0 (sym c.in-Some.ensures.value) c.remove.ensures.updates.0,
  hold_back c.args.xid c.self.inside.arena c.self.inside.strands.entries c.remove.new.self.entries c.in-Some.strand c.self.invariant.0 c.self.invariant.1 (sym c.in-Some.ensures.value) c.remove.ensures.updates.0,
)

pub returns-in-Some-clause-entries : goal.returns-in-Some-clause-entries
returns-in-Some-clause-entries c = λ x. rw (c.give_back.ensures, ← c.self.view_is) (entries_back c.args.xid c.self.inside.arena c.self.inside.strands.entries c.remove.new.self.entries c.in-Some.strand c.self.invariant.0 (sym c.in-Some.ensures.value) c.remove.ensures.updates.0 x)

pub returns-in-Some-clause-whole : goal.returns-in-Some-clause-whole
returns-in-Some-clause-whole c = rw (c.give_back.ensures, ← c.self.view_is) (record {
  chunks = back_chunks c.self.inside.arena c.in-Some.strand;
  whole = whole_back c.args.xid c.self.inside.arena c.self.inside.strands.entries c.remove.new.self.entries c.in-Some.strand (sym c.in-Some.ensures.value) c.remove.ensures.updates.0;
})

pub returns-in-Some-clause-lent : goal.returns-in-Some-clause-lent
returns-in-Some-clause-lent c = rw (c.give_back.ensures, ← c.self.view_is)
    (lent_back c.args.xid c.self.inside.arena c.self.inside.strands.entries c.remove.new.self.entries c.in-Some.strand (sym c.in-Some.ensures.value) c.remove.ensures.updates.0)
