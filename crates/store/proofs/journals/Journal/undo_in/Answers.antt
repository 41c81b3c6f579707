use Rattle.std.proofs.Common.{◌≡◌, ◌-◌, ℕ, List, [], ◌∷◌, ◌++◌, take, get_or, sym, ap, subst, ◌∙◌, arith}
use Rattle.store.specs.declared.places.stored_place.Undo.{Undo}
use Rattle.store.specs.Snapshots.{Settling}
use Rattle.store.proofs.Snapshots.{settling_more, take_last}
use Rattle.store.proofs.journals.Journal.undo_in.Goals as goal

pub loop-left-preserved : goal.loop-left-preserved
loop-left-preserved c =
    let all : List (List Undo) = c.self.inside.changes.items in
    let n : ℕ = c.loop-left.left in
    let at : c.index.result.now ≡ get_or all (n - 1) c.index.result.now = c.index.ensures in
    let same : c.in_ok-copy_of.field-0 ≡ c.index.result.now = c.in_ok-copy_of.ensures ∙ c.as_slice.ensures in
    let copied : c.in_ok-copy_of.field-0 ≡ get_or all (n - 1) c.in_ok-copy_of.field-0 = same ∙ at ∙ ap (λ (u : List Undo). get_or all (n - 1) u) (sym same) in
    let parts : take n all ≡ take (n - 1) all ++ c.in_ok-copy_of.field-0 ∷ [] =
    take_last all n c.in_ok-copy_of.field-0 c.loop-left-test.true c.loop-left.invariant.0 copied in (
      omega (arith, c.loop-left.invariant.0),
      λ tables top rest h settling. settling_more tables c.loop-left.slots c.undo.new.self top (take n all) (take (n - 1) all) c.in_ok-copy_of.field-0 rest h parts c.undo.ensures.slots c.undo.ensures.short
          (c.loop-left.invariant.1 tables top rest h settling),
    )

pub returns : goal.returns
returns c tables top rest h settling =
    let none : c.loop-left.left ≡ 0 = omega (arith, c.loop-left-test.false) in
    subst (λ (n : ℕ). Settling tables c.loop-left.slots ((top, take n c.self.inside.changes.items) ∷ rest) h) none (c.loop-left.invariant.1 tables top rest h settling)
