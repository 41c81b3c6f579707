use Rattle.std.proofs.Common.{cond, List, ℕ, ap, ◌∙◌}
use Rattle.store.specs.Slots.{same_key, slot_at}
use Rattle.store.specs.Keeping.{is_noted, slot_after_end}
use Rattle.store.proofs.Undoing.{freeing_next}
use Rattle.store.proofs.places.slots.Slots.free.Goals as goal

pub loop-undo-preserved : goal.loop-undo-preserved
loop-undo-preserved c = (
  λ place. freeing_next c.args.top c.loop-undo.self c.free_place.new.self c.loop-undo.undos.items c.pop.new.self.items c.in-Some.undo
      (cond (is_noted place c.args.undos) (slot_after_end c.args.top (slot_at c.args.self.now place)) (slot_at c.args.self.now place)) place c.in-Some.ensures.items
      (c.free_place.ensures.slots place ∙ ap (λ (k : List ℕ). cond (same_key place k) (slot_after_end c.args.top (slot_at c.loop-undo.self place)) (slot_at c.loop-undo.self place)) c.as_slice.ensures)
      (c.loop-undo.invariant.0 place),
  λ all. c.free_place.ensures.short (c.loop-undo.invariant.1 all),
)
