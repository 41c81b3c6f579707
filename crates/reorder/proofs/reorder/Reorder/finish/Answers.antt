use Rattle.std.proofs.Common.{◌∷◌, sym, subst}
use Rattle.reorder.specs.Pool.{IsLent, Lasts}
use Rattle.reorder.specs.Chunks.{IsTidy}
use Rattle.reorder.specs.Taking.{ReorderState}
use Rattle.reorder.proofs.reorder.Reorder.finish.Goals as goal

pub returns-clause-tidy : goal.returns-clause-tidy
returns-clause-tidy c = λ count held tidy. c.give_back.ensures.tidy count held (subst (λ (s : ReorderState). IsTidy count (c.args.ready ∷ held) s.strands) (sym c.self.view_is) tidy)

pub returns-clause-lent : goal.returns-clause-lent
returns-clause-lent c = λ lent is apart.
    subst (λ (s : ReorderState). Lasts s.strands.pool c.give_back.new.self.pool lent) c.self.view_is
    (c.give_back.ensures.lent lent (subst (λ (s : ReorderState). IsLent s.strands.pool lent) (sym c.self.view_is) is) apart)
