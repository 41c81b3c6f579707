use Rattle.std.proofs.Common.{sym, ap, subst, ◌∙◌}
use Rattle.std.specs.Cmp.Lexicographic.{pointwise}
use Rattle.std.specs.Prelude.{nat_eq}
use Rattle.std.specs.Map.{set_value}
use Rattle.store.specs.declared.places.stored_place.StoredPlace.{StoredPlace}
use Rattle.store.specs.declared.places.slots.Slots.TheInside.{Inside}
use Rattle.store.specs.Slots.{AreUsed, entries_of}
use Rattle.store.proofs.Undoing.{Frees, frees_there, frees_none, used_released}
use Rattle.store.proofs.places.slots.Slots.release.Goals as goal
use Rattle.store.proofs.places.slots.Slots.release.Goals.{in-Some, in_default}

freed : (c : goal.Joined-get_mut) → Frees c.args.top c.args.place.now c.args.self.now (entries_of c.match-get_mut.self-inside.by_place.entries)
freed c =
    elim c.match-get_mut.branch [
      | in-Some w ↦
          frees_there c.args.top c.args.place.now c.self.inside.by_place.entries c.match-get_mut.self-inside.by_place.entries c.args.self.now w.in-Some.slot.now c.self.view_is w.in-Some.ensures.value
          (ap (λ (i : Inside). i.by_place.entries) w.self-inside-is ∙ (c.get_mut.follows.holds w.release.new.self).0
          ∙ ap (λ (s : StoredPlace). set_value (λ k. pointwise nat_eq c.args.place.now k.items) c.self.inside.by_place.entries s) w.release.ensures)
      | in_default w ↦
          frees_none c.args.top c.args.place.now c.self.inside.by_place.entries c.match-get_mut.self-inside.by_place.entries c.args.self.now c.self.view_is w.in_default.ensures.value
          (ap (λ (i : Inside). i.by_place.entries) w.self-inside-is ∙ ap (λ m. m.entries) c.get_mut.follows.holds-at-none)
    ]

pub invariant_of-self : goal.invariant_of-self
invariant_of-self c =
    elim c.match-get_mut.branch [
      | in-Some w ↦
          used_released c.args.top c.args.place.now c.self.inside.by_place.entries c.match-get_mut.self-inside.by_place.entries c.args.self.now w.in-Some.slot.now c.self.view_is w.in-Some.ensures.value
          (ap (λ (i : Inside). i.by_place.entries) w.self-inside-is ∙ (c.get_mut.follows.holds w.release.new.self).0
          ∙ ap (λ (s : StoredPlace). set_value (λ k. pointwise nat_eq c.args.place.now k.items) c.self.inside.by_place.entries s) w.release.ensures) c.self.invariant c.requires
      | in_default w ↦
          subst (λ es. AreUsed (entries_of es)) (sym (ap (λ (i : Inside). i.by_place.entries) w.self-inside-is ∙ ap (λ m. m.entries) c.get_mut.follows.holds-at-none)) c.self.invariant
    ]

pub returns-clause-slots : goal.returns-clause-slots
returns-clause-slots c = (freed c).slots

pub returns-clause-short : goal.returns-clause-short
returns-clause-short c = (freed c).short
