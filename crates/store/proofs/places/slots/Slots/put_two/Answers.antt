use Rattle.std.proofs.Common.{None, Some, ◌∷◌, [], ◌++◌, List, refl, ap, ◌∙◌}
use Rattle.store.specs.declared.places.stored_place.StoredPlace.{StoredPlace}
use Rattle.store.specs.declared.places.stored_place.Undo.{Undo}
use Rattle.store.specs.Slots.{slot_at}
use Rattle.store.proofs.Undoing.{same_itself, undo_same}
use Rattle.store.proofs.places.slots.Slots.put_two.Goals as goal

pub returns-in-Err-clause-err : goal.returns-in-Err-clause-err
returns-in-Err-clause-err c =
    let slot : StoredPlace = record { row = None; owner = Some c.args.top } in
    let u : Undo = record { key = c.args.from.now; before = slot_at c.args.self.now c.args.from.now } in
    undo_same c.args.self.now c.note.new.self c.note-2.new.self c.undo.new.self c.args.from.now slot c.new-in-Err.result refl c.requires c.in_ok-note.ensures.ok (same_itself c.note.new.self c.note-2.new.self c.in-Err.ensures.err)
    (c.new-in-Err.ensures ∙ c.in-Err.ensures.err_notes ∙ c.in_ok-note.ensures.noted ∙ ap (λ (us : List Undo). us ++ u ∷ []) c.in_ok-undos.ensures.items)
    c.undo.ensures.slots c.undo.ensures.short
