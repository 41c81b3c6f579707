use Rattle.std.proofs.Common.{◌++◌, sym, ap, subst, ◌∙◌}
use Rattle.store.specs.Slots.{AreUsed, Entries, entries_of}
use Rattle.store.specs.Snapshots.{AreOnce}
use Rattle.store.proofs.Snapshots.{each_once, copied_next}
use Rattle.store.proofs.places.slots.Slots.copy.Goals as goal

pub loop-place-init : goal.loop-place-init
loop-place-init c = (
  subst (λ (es : Entries). AreOnce es) c.self.view_is (each_once c.self.inside.by_place.entries c.iter-place-items.ensures.unique),
  rw (c.new-by_place.ensures.empty, c.into_iter-place-iterator.ensures.into_iter_gives, c.iter-place-items.ensures.rest) c.self.view_is,
)

pub loop-place-preserved-in_ok-insert : goal.loop-place-preserved-in_ok-insert
loop-place-preserved-in_ok-insert c = (
  c.loop-place.invariant.0,
  copied_next c.loop-place.by_place.entries c.insert.new.self.entries c.args.self.now (entries_of c.next.new.self) c.in_ok-name.name c.in-Some.place.now.items c.in-Some.slot.now c.in_ok-copy.field-0
      (c.in_ok-name.ensures.items ∙ c.as_slice.ensures.value) c.in_ok-copy.ensures c.in_ok-insert.ensures.entries c.loop-place.invariant.0
      (ap (λ it. entries_of c.loop-place.by_place.entries ++ entries_of it) (sym c.in-Some.ensures.steps) ∙ c.loop-place.invariant.1),
)

pub loop-place-preserved-in_ok-insert-2 : goal.loop-place-preserved-in_ok-insert-2
loop-place-preserved-in_ok-insert-2 c = (
  c.loop-place.invariant.0,
  copied_next c.loop-place.by_place.entries c.insert.new.self.entries c.args.self.now (entries_of c.next.new.self) c.in_ok-name.name c.in-Some.place.now.items c.in-Some.slot.now c.in_ok-copy.field-0
      (c.in_ok-name.ensures.items ∙ c.as_slice.ensures.value) c.in_ok-copy.ensures c.in_ok-insert.ensures.entries c.loop-place.invariant.0
      (ap (λ it. entries_of c.loop-place.by_place.entries ++ entries_of it) (sym c.in-Some.ensures.steps) ∙ c.loop-place.invariant.1),
)

pub loop-place-preserved : goal.loop-place-preserved
loop-place-preserved c = (
  c.loop-place.invariant.0,
  copied_next c.loop-place.by_place.entries c.insert.new.self.entries c.args.self.now (entries_of c.next.new.self) c.in_ok-name.name c.in-Some.place.now.items c.in-Some.slot.now c.in_ok-copy.field-0
      (c.in_ok-name.ensures.items ∙ c.as_slice.ensures.value) c.in_ok-copy.ensures c.in_ok-insert.ensures.entries c.loop-place.invariant.0
      (ap (λ it. entries_of c.loop-place.by_place.entries ++ entries_of it) (sym c.in-Some.ensures.steps) ∙ c.loop-place.invariant.1),
)
