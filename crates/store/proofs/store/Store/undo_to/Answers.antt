use Rattle.std.proofs.Common.{ap, sym, subst, refl}
use Rattle.store.specs.Keeping.{StoreState, Keeps}
use Rattle.store.proofs.Storing.{state, undoing_more, undoing_done, same_rest}
use Rattle.store.proofs.store.Store.undo_to.Goals as goal

pub loop-undos-init : goal.loop-undos-init
loop-undos-init c = (ap (λ (s : StoreState). s.tables) c.self.view_is, λ h keeps. (h, subst (λ (s : StoreState). Keeps s h) (sym c.self.view_is) keeps, refl))

pub loop-undos-preserved : goal.loop-undos-preserved
loop-undos-preserved c = (
  c.loop-undos.invariant.0,
  λ h keeps. undoing_more (state c.loop-undos.self-inside.catalog c.loop-undos.self-inside.slots c.loop-undos.self-inside.journals)
      (state c.loop-undos.self-inside.catalog c.undo.new.self c.pop_after.new.self) c.args.top c.args.mark c.in-Some.undos h refl c.in-Some.ensures.last c.in-Some.ensures.others c.undo.ensures.slots c.undo.ensures.short
      c.in-Some.ensures.behind (c.loop-undos.invariant.1 h keeps),
)

pub returns-clause-keeps : goal.returns-clause-keeps
returns-clause-keeps c h keeps =
    let now : StoreState = state c.loop-undos.self-inside.catalog c.loop-undos.self-inside.slots c.loop-undos.self-inside.journals in
    undoing_done now (state c.loop-undos.self-inside.catalog c.loop-undos.self-inside.slots c.pop_after.new.self) c.args.top c.args.mark h
    (same_rest now c.args.top c.pop_after.new.self c.in_default.ensures.last c.in_default.ensures.others) c.in_default.ensures.behind (c.loop-undos.invariant.1 h keeps)
