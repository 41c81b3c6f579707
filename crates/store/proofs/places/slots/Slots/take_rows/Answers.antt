use Rattle.std.proofs.Common.{◌≡◌, ℕ, List, [], ◌∷◌, ◌++◌, None, Some, drop, ◌+◌, refl, sym, ap, ◌∙◌}
use Rattle.std.proofs.lemmas.List.{drop_more}
use Rattle.store.specs.declared.places.stored_place.StoredPlace.{StoredPlace}
use Rattle.store.specs.Slots.{slot_at, slots_with}
use Rattle.store.specs.Emptying.{IsOf, taken_at}
use Rattle.store.proofs.Truncating.{taken_next, noted_next, noted_same, all_at}
use Rattle.store.proofs.places.slots.Slots.take_rows.Goals as goal

pub returns-in_err-note-clause-noted : goal.returns-in_err-note-clause-noted
returns-in_err-note-clause-noted c oids start all h =
    noted_same oids start c.loop-row.self c.note.new.self c.loop-row.undos.items c.note.new.undos.items c.in_err-note.ensures.err c.in_err-note.ensures.err_notes (c.loop-row.invariant.1 oids start all h)

pub loop-row-preserved : goal.loop-row-preserved
loop-row-preserved c =
    let i : ℕ = c.loop-row.row-index in
    let p : List ℕ = c.row-item.result in
    let taken : StoredPlace = record { row = None; owner = Some c.args.top } in
    let at : c.as_slice.result.now ≡ p = c.as_slice.ensures in
    let made : c.note.new.self ≡ slots_with p taken c.loop-row.self = c.in_ok-note.ensures.ok ∙ ap (λ (k : List ℕ). slots_with k taken c.loop-row.self) at in
    let left : drop i c.args.rows.now ≡ p ∷ drop (i + 1) c.args.rows.now =
    drop_more c.args.rows.now i p c.loop-row-test.true ∙ ap (λ (k : List ℕ). k ∷ drop (i + 1) c.args.rows.now) (sym c.row-item.is) in (
      λ place. taken_next c.args.top c.args.rows.now i p c.loop-row.self c.note.new.self place (taken_at c.args.top c.args.rows.now place (slot_at c.args.self.now place)) left made
          (c.loop-row.invariant.0 place),
      λ oids start all h. noted_next oids start c.loop-row.self c.note.new.self c.loop-row.undos.items c.note.new.undos.items p taken refl
          (all_at (IsOf oids start) c.args.rows.now i p all c.loop-row-test.true c.row-item.is) made
          (c.in_ok-note.ensures.noted ∙ ap (λ (k : List ℕ). c.loop-row.undos.items ++ record { key = k; before = slot_at c.loop-row.self k } ∷ []) at) (c.loop-row.invariant.1 oids start all h),
    )
