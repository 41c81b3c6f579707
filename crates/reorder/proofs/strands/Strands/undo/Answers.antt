use Rattle.std.proofs.Common.{◌==◌, ◌&&◌, sym, ap, subst, ◌∙◌}
use Rattle.reorder.specs.Chunks.{StaysWhole}
use Rattle.reorder.specs.Pool.{PoolState, StaysLent, entries_at}
use Rattle.reorder.proofs.Lending.{stays_lent}
use Rattle.std.specs.Map.{lookup}
use Rattle.reorder.specs.Strands.{StrandsState, above_standing, back_in, behind, is_in}
use Rattle.reorder.proofs.Tidying.{tidy_undone}
use Rattle.reorder.proofs.Lookups.{undone_after}
use Rattle.reorder.proofs.strands.Strands.undo.Goals as goal

pub returns-clause-undone : goal.returns-clause-undone
returns-clause-undone c = undone_after c.args.self.now c.self.inside.strands.entries c.self.inside.members.entries c.self.inside.pool c.give_back.new.self c.args.xid
    (ap (λ (s : StrandsState). s.strands) c.self.view_is ∙ c.give_back_under.ensures.strands) (ap (λ (s : StrandsState). s.members) c.self.view_is ∙ c.give_back_under.ensures.members)
    (λ x. ap (λ (s : StrandsState). entries_at s.pool x) c.self.view_is ∙ c.give_back_under.ensures.pool x) c.give_back.ensures.entries

pub returns-clause-tidy : goal.returns-clause-tidy
returns-clause-tidy c = tidy_undone c.args.self.now c.self.inside.strands.entries c.self.inside.members.entries c.self.inside.pool c.give_back.new.self c.args.xid
    (ap (λ (s : StrandsState). s.strands) c.self.view_is ∙ c.give_back_under.ensures.strands)
    (subst (λ (p : PoolState). StaysWhole c.args.self.now.pool p) (sym (ap (λ (s : StrandsState). s.pool) c.self.view_is)) c.give_back_under.ensures.whole) c.give_back.ensures.whole
    (λ x. is_in x (behind c.args.xid (back_in c.args.self.now c.args.xid)) && is_in c.args.xid (above_standing (lookup (λ k. x == k) c.args.self.now.strands)))
    (λ x. ap (λ (s : StrandsState). entries_at s.pool x) c.self.view_is ∙ c.give_back_under.ensures.pool x) c.give_back.ensures.entries

pub returns-clause-lent : goal.returns-clause-lent
returns-clause-lent c = stays_lent c.args.self.now.pool c.self.inside.pool c.give_back.new.self
    (subst (λ (p : PoolState). StaysLent c.args.self.now.pool p) (sym (ap (λ (s : StrandsState). s.pool) c.self.view_is)) c.give_back_under.ensures.lent) c.give_back.ensures.lent
