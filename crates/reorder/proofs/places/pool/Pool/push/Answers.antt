use Rattle.std.proofs.Common.{◌==◌, ℕ, ◌∙◌, length, sym, ap, subst}
use Rattle.std.specs.Prelude.{IsSome}
use Rattle.reorder.specs.Pool.{PoolState, StaysLent, entries_at, strand_of}
use Rattle.reorder.proofs.Lending.{lent_pushed, lent_same, stays_lent}
use Rattle.reorder.proofs.Owning.{of}
use Rattle.reorder.specs.Chunks.{IsWhole}
use Rattle.reorder.proofs.Owning.{pushed_chunks, whole_pushed}
use Rattle.reorder.proofs.Pooling.{pool_pushed, pool_same, hold_pushed, hold_same, entries_pushed, pushed_same}
use Rattle.reorder.proofs.places.pool.Pool.push.Goals as goal
use Rattle.reorder.proofs.places.pool.Pool.push.Goals.{in-Ok, in-Err}

pub push_at-requires-clause-place : goal.push_at-requires-clause-place
push_at-requires-clause-place c = subst (λ (p : PoolState). IsSome (strand_of p.strands c.args.xid)) (sym c.self.view_is) c.in_ok-open.ensures.place

pub invariant_of-self : goal.invariant_of-self
invariant_of-self c = elim c.match-push_at.branch [
  | in-Ok w ↦ (
    pool_pushed c.args.xid c.args.entry.now c.self.inside.arena c.self.inside.strands.entries c.push_at.new.arena c.push_at.new.strands.entries c.self.invariant.0 w.in-Ok.ensures.ok,
    hold_pushed c.args.xid c.args.entry.now c.self.inside.arena c.self.inside.strands.entries c.push_at.new.arena c.push_at.new.strands.entries c.self.invariant.0 c.self.invariant.1 c.requires.entry w.in-Ok.ensures.ok,
  )
  | in-Err w ↦ rw w.in-Err.ensures.err.0 (
    pool_same c.args.xid c.self.inside.arena c.self.inside.strands.entries c.push_at.new.strands.entries c.self.invariant.0 w.in-Err.ensures.err.1,
    hold_same c.args.xid c.self.inside.arena c.self.inside.strands.entries c.push_at.new.strands.entries c.self.invariant.1 w.in-Err.ensures.err.1,
  )
]

pub returns-clause-ok : goal.returns-clause-ok
returns-clause-ok c = elim c.match-push_at.branch [
  | in-Ok w ↦ rw w.result-is (λ x.
      let same = λ (y : ℕ). ap (λ (p : PoolState). entries_at p y) c.self.view_is ∙ c.in_ok-open.ensures.same y in
      entries_pushed c.args.xid c.args.entry.now c.self.inside.arena c.self.inside.strands.entries c.push_at.new.arena c.push_at.new.strands.entries c.self.invariant.0 w.in-Ok.ensures.ok x
      ∙ pushed_same (c.args.xid == x) c.args.entry.now _ _ _ _ (same c.args.xid) (same x))
  | in-Err w ↦ rw w.result-is tt
]

pub returns-clause-whole : goal.returns-clause-whole
returns-clause-whole c = elim c.match-push_at.branch [
  | in-Ok w ↦ rw w.result-is (record {
    chunks = pushed_chunks c.args.xid c.args.entry.now c.self.inside.arena c.push_at.new.arena c.self.inside.strands.entries c.push_at.new.strands.entries w.in-Ok.ensures.ok
        ∙ ap (λ (p : PoolState). length p.arena) c.self.view_is ∙ ap length c.in_ok-open.ensures.arena;
    whole = λ held whole. whole_pushed c.args.xid c.args.entry.now c.self.inside.arena c.push_at.new.arena c.self.inside.strands.entries c.push_at.new.strands.entries w.in-Ok.ensures.ok held
        (subst (λ (p : PoolState). IsWhole held p) (sym c.self.view_is) (c.in_ok-open.ensures.whole.whole held whole));
  })
  | in-Err w ↦ rw w.result-is tt
]

pub returns-clause-lent : goal.returns-clause-lent
returns-clause-lent c = elim c.match-push_at.branch [
  | in-Ok w ↦ stays_lent c.args.self.now c.open.new.self _ c.in_ok-open.ensures.lent
      (subst (λ (p : PoolState). StaysLent p (of c.push_at.new.arena c.push_at.new.strands.entries)) c.self.view_is
      (lent_pushed c.args.xid c.args.entry.now c.self.inside.arena c.self.inside.strands.entries c.push_at.new.arena c.push_at.new.strands.entries w.in-Ok.ensures.ok))
  | in-Err w ↦ stays_lent c.args.self.now c.open.new.self _ c.in_ok-open.ensures.lent
      (subst (λ (p : PoolState). StaysLent p (of c.push_at.new.arena c.push_at.new.strands.entries)) c.self.view_is
      (rw w.in-Err.ensures.err.0 (lent_same c.args.xid c.self.inside.arena c.self.inside.strands.entries c.push_at.new.strands.entries w.in-Err.ensures.err.1)))
]

pub returns-clause-size : goal.returns-clause-size
returns-clause-size c =
    let before = ap (λ (p : PoolState). length p.arena) c.self.view_is ∙ c.open.ensures.size in
    elim c.match-push_at.branch [
      | in-Ok w ↦ pushed_chunks c.args.xid c.args.entry.now c.self.inside.arena c.push_at.new.arena c.self.inside.strands.entries c.push_at.new.strands.entries w.in-Ok.ensures.ok ∙ before
      | in-Err w ↦ ap length w.in-Err.ensures.err.0 ∙ before
    ]
