use Rattle.std.proofs.Common.{◌+◌, ◌++◌, ◌∷◌, [], ℕ, List, is_some, map, sym, refl, subst, ap, ◌∙◌, arith}
use Rattle.slots.specs.declared.fault.SlotFault.{SlotFault}
use Rattle.slots.specs.declared.fault.SlotFault.TheVariants as faults
use Rattle.slots.specs.Directories as names
use Rattle.slots.specs.declared.by_name.slot.Slot.{Slot}
use Rattle.slots.specs.State.{IsRefusalOrMemory, create_refusal, slots_after_create, slots_after_refusal}
use Rattle.slots.specs.Keeping.{IsNamed, StandsIn, shown_slot}
use Rattle.slots.proofs.NamedCreating.{is_next, none_left, none_same}
use Rattle.slots.proofs.Listing.{more_names, same_names}
use Rattle.slots.proofs.Placing.{all_used, dropped_shown, dropped_stands, exists, if_err, named_shown, named_stands, none_of, not_refused, refused_no_place}
use Rattle.slots.proofs.NamedStanding.{shown_same, stands_same}
use Rattle.slots.proofs.by_name.named.NamedSlots.create.Goals as goal

pub returns-then-is_some-clause-refused : goal.returns-then-is_some-clause-refused
returns-then-is_some-clause-refused g c =
    let s = c.self.inside in
    ap (create_refusal c.args.name.now) (sym c.self.view_is) ∙ exists s.seat s.directory s.slots.items s.places c.args.name.now c.self.invariant.0 (ap is_some (sym c.find.ensures) ∙ sym c.is_some.ensures ∙ c.if-is_some.true)

pub invariant_of-self : goal.invariant_of-self
invariant_of-self g c =
    let s = c.self.inside in
    let none = c.in_err-place.ensures.1 in
    (c.self.invariant.0, stands_same s.seat c.create.new.seat (ap (λ z. z.number) none.steps) (ap (λ z. z.seats) none.steps) (none_same s.seat c.create.new.seat s.slots.items s.places c.self.invariant.1 none) s.slots.items s.places c.self.invariant.1)

pub returns-in_err-place-clause-err : goal.returns-in_err-place-clause-err
returns-in_err-place-clause-err g c =
    let s = c.self.inside in
    let none = c.in_err-place.ensures.1 in
    if_err _ c.from_residual.result c.in_err-place.field-0.0 c.from_residual.ensures.1
    (ap (λ ts. record { slots = ts; places = s.places }) (shown_same s.seat c.create.new.seat (ap (λ z. z.number) none.steps) (ap (λ z. z.seats) none.steps) (none_same s.seat c.create.new.seat s.slots.items s.places c.self.invariant.1 none) s.slots.items)
    ∙ c.self.view_is ∙ ap (λ f. slots_after_refusal f c.args.self.now) (sym c.in_err-place.ensures.0))

pub returns-in_err-place-clause-refused : goal.returns-in_err-place-clause-refused
returns-in_err-place-clause-refused g c =
    let s = c.self.inside in
    refused_no_place _ c.from_residual.result c.in_err-place.field-0.0 c.from_residual.ensures.1 c.in_err-place.ensures.0
    (ap (create_refusal c.args.name.now) (sym c.self.view_is)
    ∙ all_used s.seat s.directory s.slots.items s.places c.args.name.now c.self.invariant.0 (ap is_some (sym c.find.ensures) ∙ sym c.is_some.ensures ∙ c.if-is_some.false) (none_left s.seat c.create.new.seat s.slots.items s.places c.self.invariant.1 c.in_err-place.ensures.1))

pub invariant_of-self-in-Ok : goal.invariant_of-self-in-Ok
invariant_of-self-in-Ok g c =
    let s = c.self.inside in
    let p = c.in_ok-place.place in
    let made = c.in_ok-place.ensures.1 in
    let new : Slot = record { name = c.args.name.now; place = p; confirmed = c.args.position } in
    let next = is_next s.seat c.create.new.seat c.args.position p s.slots.items s.places c.self.invariant.1 c.in_ok-place.ensures.0 made in
    let items = c.in-Ok.ensures.ok in (
      subst (λ (l : List Slot). IsNamed c.name_place.new.directory l (s.places + 1)) (sym items)
          (subst (λ (n : ℕ). IsNamed c.name_place.new.directory (s.slots.items ++ new ∷ []) (n + 1)) next
          (more_names s.directory c.name_place.new.directory s.slots.items new (subst (IsNamed s.directory s.slots.items) (sym next) c.self.invariant.0) (none_of (names.place_of s.directory c.args.name.now) (ap is_some (sym c.find.ensures) ∙ sym c.is_some.ensures ∙ c.if-is_some.false)) c.in-Ok.ensures.named)),
      subst (λ (l : List Slot). StandsIn c.create.new.seat l (s.places + 1)) (sym items)
          (named_stands s.seat c.create.new.seat c.args.position p s.directory s.slots.items s.places c.self.invariant.0 c.self.invariant.1 c.in_ok-place.ensures.0 made new refl refl),
    )

pub invariant_of-self-in-Err : goal.invariant_of-self-in-Err
invariant_of-self-in-Err g c =
    let s = c.self.inside in
    let p = c.in_ok-place.place in
    let items = c.in-Err.ensures.err in (
      subst (λ (l : List Slot). IsNamed c.name_place.new.directory l (s.places + 1)) (sym items)
          (same_names s.directory c.name_place.new.directory s.slots.items s.places c.self.invariant.0 c.in-Err.ensures.unnamed),
      subst (λ (l : List Slot). StandsIn c.drop_slot-dropped.new.seat l (s.places + 1)) (sym items)
          (dropped_stands s.seat c.create.new.seat c.args.position p s.directory s.slots.items s.places c.self.invariant.0 c.self.invariant.1 c.in_ok-place.ensures.0 c.in_ok-place.ensures.1
          c.drop_slot-dropped.new.seat c.drop_slot-dropped.result c.drop_slot-dropped.ensures),
    )

pub returns-in-Ok-clause-ok : goal.returns-in-Ok-clause-ok
returns-in-Ok-clause-ok g c =
    let s = c.self.inside in
    let p = c.in_ok-place.place in
    let new : Slot = record { name = c.args.name.now; place = p; confirmed = c.args.position } in
    ap (λ ts. record { slots = ts; places = s.places + 1 }) (ap (map (shown_slot c.create.new.seat)) c.in-Ok.ensures.ok
    ∙ named_shown s.seat c.create.new.seat c.args.position p s.directory s.slots.items s.places c.self.invariant.0 c.self.invariant.1 c.in_ok-place.ensures.0 c.in_ok-place.ensures.1 new refl)
    ∙ ap (slots_after_create c.args.name.now c.args.position) c.self.view_is

pub returns-in-Ok-clause-refused : goal.returns-in-Ok-clause-refused
returns-in-Ok-clause-refused g c =
    let s = c.self.inside in
    let next = is_next s.seat c.create.new.seat c.args.position c.in_ok-place.place s.slots.items s.places c.self.invariant.1 c.in_ok-place.ensures.0 c.in_ok-place.ensures.1 in
    let low = c.in_ok-place.ensures.0 in
    ap (create_refusal c.args.name.now) (sym c.self.view_is)
    ∙ not_refused s.seat s.directory s.slots.items s.places c.args.name.now c.self.invariant.0 (ap is_some (sym c.find.ensures) ∙ sym c.is_some.ensures ∙ c.if-is_some.false) (omega (arith, next, low))

pub returns-in-Err-clause-err : goal.returns-in-Err-clause-err
returns-in-Err-clause-err g c =
    let s = c.self.inside in
    ap (λ ts. record { slots = ts; places = s.places + 1 }) (ap (map (shown_slot c.drop_slot-dropped.new.seat)) c.in-Err.ensures.err
    ∙ dropped_shown s.seat c.create.new.seat c.args.position c.in_ok-place.place s.directory s.slots.items s.places c.self.invariant.0 c.self.invariant.1 c.in_ok-place.ensures.0 c.in_ok-place.ensures.1
    c.drop_slot-dropped.new.seat c.drop_slot-dropped.result c.drop_slot-dropped.ensures)
    ∙ ap (slots_after_refusal faults.Memory) c.self.view_is
    ∙ ap (λ f. slots_after_refusal f c.args.self.now) (sym c.in-Err.ensures.fault)

pub returns-in-Err-clause-refused : goal.returns-in-Err-clause-refused
returns-in-Err-clause-refused g c =
    let s = c.self.inside in
    let next = is_next s.seat c.create.new.seat c.args.position c.in_ok-place.place s.slots.items s.places c.self.invariant.1 c.in_ok-place.ensures.0 c.in_ok-place.ensures.1 in
    let low = c.in_ok-place.ensures.0 in
    subst (λ (f : SlotFault). IsRefusalOrMemory (create_refusal c.args.name.now c.args.self.now) f) (sym c.in-Err.ensures.fault)
    (ap (create_refusal c.args.name.now) (sym c.self.view_is)
    ∙ not_refused s.seat s.directory s.slots.items s.places c.args.name.now c.self.invariant.0 (ap is_some (sym c.find.ensures) ∙ sym c.is_some.ensures ∙ c.if-is_some.false) (omega (arith, next, low)))
