use Rattle.std.proofs.Common.{ℕ, List, Some, sym, ap, subst, ◌∙◌}
use Rattle.std.specs.List.{AllByRecursion}
use Rattle.store.specs.Slots.{slot_at}
use Rattle.store.specs.Keeping.{all_emptied, put_at}
use Rattle.store.specs.Emptying.{taken_at, IsOf, AreNoted}
use Rattle.store.proofs.Truncating.{taken_all, filled_of, noted_none, noted_undone}
use Rattle.store.proofs.places.slots.Slots.empty.Goals as goal

pub returns-in-Ok-clause-ok : goal.returns-in-Ok-clause-ok
returns-in-Ok-clause-ok c place =
    c.in-Ok.ensures.ok place
    ∙ ap (λ (rows : List (List ℕ)). put_at (Some c.args.top) (all_emptied c.args.oids.now) place (taken_at c.args.top rows place (slot_at c.args.self.now place))) (c.as_slice.ensures ∙ c.in_ok-rows.ensures.rows)
    ∙ ap (put_at (Some c.args.top) (all_emptied c.args.oids.now) place) (taken_all c.args.top c.args.oids.now c.args.self.now place c.in_ok-rows.ensures.places)

pub returns-in-Ok-clause-noted : goal.returns-in-Ok-clause-noted
returns-in-Ok-clause-noted c =
    let rows : AllByRecursion (IsOf c.args.oids.now c.args.self.now) c.as_slice.result.now =
    subst (AllByRecursion (IsOf c.args.oids.now c.args.self.now)) (sym (c.as_slice.ensures ∙ c.in_ok-rows.ensures.rows)) (filled_of c.args.oids.now c.args.self.now c.args.self.now (λ all. all)) in
    let none = subst (AreNoted c.args.oids.now c.args.self.now c.args.self.now) (sym c.new-undos.ensures.items) (noted_none c.args.oids.now c.args.self.now) in
    subst (AreNoted c.args.oids.now c.args.self.now c.empty_noting.new.self) (sym c.new.ensures) (c.empty_noting.ensures.noted c.args.self.now rows none)

pub returns-clause-err : goal.returns-clause-err
returns-clause-err c =
    let rows : AllByRecursion (IsOf c.args.oids.now c.args.self.now) c.as_slice.result.now =
    subst (AllByRecursion (IsOf c.args.oids.now c.args.self.now)) (sym (c.as_slice.ensures ∙ c.in_ok-rows.ensures.rows)) (filled_of c.args.oids.now c.args.self.now c.args.self.now (λ all. all)) in
    let none = subst (AreNoted c.args.oids.now c.args.self.now c.args.self.now) (sym c.new-undos.ensures.items) (noted_none c.args.oids.now c.args.self.now) in
    noted_undone c.args.oids.now c.args.self.now c.empty_noting.new.self c.undo.new.self c.new-in-Err.result
    (subst (AreNoted c.args.oids.now c.args.self.now c.empty_noting.new.self) (sym c.new-in-Err.ensures) (c.empty_noting.ensures.noted c.args.self.now rows none)) c.undo.ensures.slots
    c.undo.ensures.short
