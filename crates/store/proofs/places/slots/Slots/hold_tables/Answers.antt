use Rattle.std.proofs.Common.{◌≡◌, ℕ, List, [], ◌∷◌, ◌++◌, None, Some, get_or, refl, ap, ◌∙◌}
use Rattle.std.proofs.lemmas.List.{drop_more}
use Rattle.store.specs.declared.places.stored_place.StoredPlace.{StoredPlace}
use Rattle.store.specs.Slots.{slot_at, slots_with}
use Rattle.store.specs.History.{table_place}
use Rattle.store.specs.Keeping.{all_emptied, put_at}
use Rattle.store.proofs.Truncating.{held_next, noted_next, table_is_of}
use Rattle.store.proofs.places.slots.Slots.hold_tables.Goals as goal

pub loop-oid-preserved : goal.loop-oid-preserved
loop-oid-preserved c =
    let i : ℕ = c.loop-oid.oid-index in
    let oid : ℕ = get_or c.args.oids.now i 0 in
    let held : StoredPlace = record { row = None; owner = Some c.args.top } in
    let at : c.as_bytes.result.now ≡ table_place oid = c.as_bytes.ensures ∙ c.of_table-table.ensures in
    let made : c.note.new.self ≡ slots_with (table_place oid) held c.loop-oid.self = c.in_ok-note.ensures.ok ∙ ap (λ (k : List ℕ). slots_with k held c.loop-oid.self) at in (
      λ place. held_next c.args.top c.args.oids.now i oid c.loop-oid.self c.note.new.self place (put_at (Some c.args.top) (all_emptied c.args.oids.now) place (slot_at c.args.self.now place))
          (drop_more c.args.oids.now i 0 c.loop-oid-test.true) made (c.loop-oid.invariant.0 place),
      λ start h. noted_next c.args.oids.now start c.loop-oid.self c.note.new.self c.loop-oid.undos.items c.note.new.undos.items (table_place oid) held refl
          (table_is_of c.args.oids.now start i oid c.loop-oid-test.true refl) made
          (c.in_ok-note.ensures.noted ∙ ap (λ (k : List ℕ). c.loop-oid.undos.items ++ record { key = k; before = slot_at c.loop-oid.self k } ∷ []) at) (c.loop-oid.invariant.1 start h),
    )
