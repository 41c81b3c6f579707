use Rattle.std.proofs.Common.{refl, rules}
use Rattle.reorder.proofs.Pooling.{pool_opened, hold_opened, entries_opened}
use Rattle.reorder.proofs.Owning.{whole_opened}
use Rattle.reorder.proofs.Lending.{lent_opened}
use Rattle.reorder.proofs.places.pool.Pool.open.Goals as goal

pub invariant_of-self : goal.invariant_of-self
invariant_of-self c = (
  pool_opened c.args.xid c.self.inside.arena c.self.inside.strands.entries c.insert.new.self.entries c.self.invariant.0 (λ x. rw (← c.strand.ensures) (c.in_ok-insert.ensures.updates.0 x)),
  hold_opened c.args.xid c.self.inside.arena c.self.inside.strands.entries c.insert.new.self.entries c.self.invariant.1 (search rules) (λ x. rw (← c.strand.ensures) (c.in_ok-insert.ensures.updates.0 x)),
)

pub returns-in_ok-insert : goal.returns-in_ok-insert
returns-in_ok-insert c = record {
  same = λ x. rw (← c.self.view_is) (entries_opened c.args.xid c.self.inside.arena c.self.inside.strands.entries c.insert.new.self.entries (search rules) (λ y. rw (← c.strand.ensures) (c.in_ok-insert.ensures.updates.0 y)) x);
  place = search rules;
  arena = search rules;
  size = rw (← c.self.view_is) refl;
  pool = rw (← c.self.view_is) c.self.invariant.0;
  hold = rw (← c.self.view_is) c.self.invariant.1;
  whole = rw (← c.self.view_is) (record { chunks = refl; whole = whole_opened c.self.inside.arena c.self.inside.strands.entries c.insert.new.self.entries c.args.xid (search rules) (λ y. rw (← c.strand.ensures) (c.in_ok-insert.ensures.updates.0 y)) });
  lent = rw (← c.self.view_is) (lent_opened c.args.xid c.self.inside.arena c.self.inside.strands.entries c.insert.new.self.entries (λ y. rw (← c.strand.ensures) (c.in_ok-insert.ensures.updates.0 y)));
}
