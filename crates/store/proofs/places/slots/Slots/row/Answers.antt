use Rattle.std.proofs.Common.{ap, ◌∙◌}
use Rattle.std.specs.Prelude.{Option, unwrap_or}
use Rattle.store.specs.declared.places.stored_place.StoredPlace.{StoredPlace}
use Rattle.store.specs.Slots.{Entries, slot_at, vacant}
use Rattle.store.proofs.Undoing.{found}
use Rattle.store.proofs.places.slots.Slots.row.Goals as goal

pub returns-in-Some : goal.returns-in-Some
returns-in-Some c =
    c.as_ref.ensures.value
    ∙ ap (λ (o : Option StoredPlace). (unwrap_or o vacant).row) (c.in-Some.ensures.value ∙ found c.self.inside.by_place.entries c.args.place.now)
    ∙ ap (λ (es : Entries). (slot_at es c.args.place.now).row) c.self.view_is

pub returns-in-None : goal.returns-in-None
returns-in-None c =
    ap (λ (o : Option StoredPlace). (unwrap_or o vacant).row) (c.in-None.ensures.value ∙ found c.self.inside.by_place.entries c.args.place.now)
    ∙ ap (λ (es : Entries). (slot_at es c.args.place.now).row) c.self.view_is
