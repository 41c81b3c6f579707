use Rattle.std.proofs.Common.{sym, subst, ◌∙◌}
use Rattle.store.specs.Keeping.{Journals}
use Rattle.store.specs.Snapshots.{Settling}
use Rattle.store.proofs.Snapshots.{AreApartTops, apart_tops, settling_next}
use Rattle.store.proofs.journals.Journals.undo_all.Goals as goal

pub loop-journal-init : goal.loop-journal-init
loop-journal-init c =
    let is = c.into_iter-journal-iterator.ensures.into_iter_gives ∙ c.iter-journal-items.ensures.rest in (
      subst AreApartTops (sym is) (apart_tops c.self.inside.by_top.entries c.iter-journal-items.ensures.unique),
      λ tables h settling. subst (λ (js : Journals). Settling tables c.args.slots.now js h) (sym c.self.view_is ∙ sym is) settling,
    )

pub loop-journal-preserved : goal.loop-journal-preserved
loop-journal-preserved c =
    let apart = subst AreApartTops c.in-Some.ensures.steps c.loop-journal.invariant.0 in (
      apart.1,
      λ tables h settling. settling_next tables c.undo_in.new.slots c.in-Some.field-0-0.now c.next.new.self h apart.0
          (c.in_ok-undo_in.ensures tables c.in-Some.field-0-0.now c.next.new.self h
          (subst (λ (js : Journals). Settling tables c.loop-journal.slots js h) c.in-Some.ensures.steps (c.loop-journal.invariant.1 tables h settling))),
    )

pub returns : goal.returns
returns c tables h settling = subst (λ (js : Journals). Settling tables c.loop-journal.slots js h) c.in-None.ensures.steps.0 (c.loop-journal.invariant.1 tables h settling)
