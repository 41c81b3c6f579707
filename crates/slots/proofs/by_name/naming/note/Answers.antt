use Rattle.std.proofs.Common.{◌<◌, length, sym, ap, subst, ◌∙◌}
use Rattle.slots.specs.declared.by_name.slot.Slot.{Slot}
use Rattle.slots.specs.Keeping.{slot_with_noted_position}
use Rattle.slots.proofs.Listing.{note_else, note_here, set_on}
use Rattle.slots.proofs.by_name.naming.note.Goals.{then-slot-place, else-slot-place}
use Rattle.slots.proofs.by_name.naming.note.Goals as goal

pub loop-slot-preserved : goal.loop-slot-preserved
loop-slot-preserved c =
    let f = slot_with_noted_position c.args.place c.args.confirmed in
    let xs = c.args.slots.now.items in
    let i = c.loop-slot.slot-index in
    let x = c.slot-item.result in
    let is = c.deref_mut-slot-items.ensures.value in
    let test = c.loop-slot-test.true in
    let low : i < length xs = subst (λ l. i < length l) is test in
    elim c.if-slot-place.branch [
      | then-slot-place w ↦ w.slot-items-is ∙ set_on f xs c.loop-slot.slot-items i x low c.loop-slot.invariant c.slot-item.is _ (ap (λ (s : Slot). record s { confirmed = c.args.confirmed }) (sym c.slot-item.is) ∙ note_here c.args.place c.args.confirmed x (ap (λ (s : Slot). s.place) c.slot-item.is ∙ w.if-slot-place.true))
      | else-slot-place w ↦ w.slot-items-is ∙ set_on f xs c.loop-slot.slot-items i x low c.loop-slot.invariant c.slot-item.is _ (sym c.slot-item.is ∙ note_else c.args.place c.args.confirmed x (λ e. w.if-slot-place.false (ap (λ (s : Slot). s.place) (sym c.slot-item.is) ∙ e)))
    ]
