use Rattle.std.proofs.Common.{◌≡◌, ◌≤◌, true, false, length, arith, map, slice_range, sym, ap, subst, ◌∙◌}
use Rattle.store.specs.Slots.{Entries, entries_of}
use Rattle.store.specs.Snapshots.{standing_of, standing_within}
use Rattle.store.proofs.Snapshots.{range_of, length_of}
use Rattle.store.proofs.places.slots.Slots.rows_between.Goals as goal

pub returns-in_default : goal.returns-in_default
returns-in_default c =
    let small : c.args.end ≤ length c.self.inside.by_place.entries =
    omega (arith, c.requires, length_of c.self.inside.by_place.entries, ap (λ (es : Entries). length es) c.self.view_is) in
    let never : false ≡ true = c.in_default.ensures.found.1 (c.requires.0, small) in
    absurd cc

pub loop-place-init : goal.loop-place-init
loop-place-init c =
    rw c.new-rows.ensures.items (ap (λ (es : Entries). map (λ s. s.1) (standing_within c.args.oid (standing_of es)))
    (ap entries_of (c.into_iter-place-iterator.ensures.into_iter_gives ∙ c.iter-place-items.ensures.rest ∙ c.in-Some.ensures.entries) ∙ range_of c.self.inside.by_place.entries c.args.start c.args.end
    ∙ ap (λ (es : Entries). slice_range es c.args.start c.args.end) c.self.view_is))
