use Rattle.std.proofs.Common.{◌≡◌, ℕ, Some, sym, subst}
use Rattle.chgarena.specs.Strands.{IsOf}
use Rattle.reorder.specs.Pool.{PoolState, strand_of}
use Rattle.reorder.proofs.Lending.{hold_taken, pool_taken}
use Rattle.reorder.proofs.places.pool.Pool.take_back.Goals as goal

pub give_back-requires : goal.give_back-requires
give_back-requires c = subst (λ (p : PoolState). IsOf p.arena c.args.strand) (sym c.self.view_is) c.requires.of

pub invariant_of-self : goal.invariant_of-self
invariant_of-self c =
    let apart = subst (λ (p : PoolState). (x head : ℕ) → strand_of p.strands x ≡ Some (Some head) → c.args.strand ≡ Some head → ⊥) (sym c.self.view_is) c.requires.apart in
    rw c.give_back.ensures (
      pool_taken c.self.inside.arena c.self.inside.strands.entries c.args.strand apart c.self.invariant.0,
      hold_taken c.self.inside.arena c.self.inside.strands.entries c.args.strand apart c.self.invariant.0 c.self.invariant.1,
    )
