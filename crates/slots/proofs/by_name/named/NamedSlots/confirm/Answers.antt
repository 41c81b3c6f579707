use Rattle.std.proofs.Common.{◌≡◌, List, map, sym, subst, ap, ◌∙◌}
use Rattle.slots.specs.declared.by_name.slot.Slot.{Slot}
use Rattle.slots.specs.State.{slot_with_confirmed, confirmed_of, holds_at, slots_after_raise, slot_at}
use Rattle.slots.specs.Keeping.{IsNamed, StandsIn, shown_slot, slot_with_noted_position}
use Rattle.slots.proofs.Claiming.{done_by_name}
use Rattle.slots.proofs.Confirming.{raised_shown, raised_stands, raised_value}
use Rattle.slots.proofs.Listing.{still_named}
use Rattle.slots.proofs.NamedStanding.{held_at}
use Rattle.slots.proofs.by_name.named.NamedSlots.confirm.Goals as goal

pub confirm-confirmed-requires : goal.confirm-confirmed-requires
confirm-confirmed-requires g c = (held_at c.self.inside.seat c.args.lease.now.place c.self.inside.slots.items c.self.invariant.1.each (ap (holds_at c.args.lease.now.place) c.self.view_is ∙ c.requires)).held

pub invariant_of-self : goal.invariant_of-self
invariant_of-self g c =
    let s = c.self.inside in
    let p = c.args.lease.now.place in
    let to = c.confirm-confirmed.result in
    let is = held_at s.seat p s.slots.items c.self.invariant.1.each (ap (holds_at p) c.self.view_is ∙ c.requires) in
    let noted_is : c.note.new.slots.items ≡ map (slot_with_noted_position p to) s.slots.items = c.note.ensures ∙ ap (λ l. map (slot_with_noted_position l.place to) s.slots.items) c.confirm-confirmed.ensures.lease.0 in (
      subst (λ (l : List Slot). IsNamed s.directory l s.places) (sym noted_is) (still_named s.directory s.slots.items s.places p to c.self.invariant.0),
      subst (λ (l : List Slot). StandsIn c.confirm-confirmed.new.seat l s.places) (sym noted_is)
          (raised_stands s.seat c.confirm-confirmed.new.seat p c.args.position to s.slots.items s.places c.self.invariant.1 is c.confirm-confirmed.ensures.raised),
    )

pub returns-clause-value : goal.returns-clause-value
returns-clause-value g c =
    let s = c.self.inside in
    let p = c.args.lease.now.place in
    let to = c.confirm-confirmed.result in
    let is = held_at s.seat p s.slots.items c.self.invariant.1.each (ap (holds_at p) c.self.view_is ∙ c.requires) in
    let noted_is : c.note.new.slots.items ≡ map (slot_with_noted_position p to) s.slots.items = c.note.ensures ∙ ap (λ l. map (slot_with_noted_position l.place to) s.slots.items) c.confirm-confirmed.ensures.lease.0 in
    raised_value s.seat c.confirm-confirmed.new.seat p c.args.position to s.slots.items s.places c.self.invariant.1 is c.confirm-confirmed.ensures.raised
    ∙ ap (λ (l : List Slot). confirmed_of (slot_at p (map (shown_slot c.confirm-confirmed.new.seat) l))) (sym noted_is)

pub returns-clause-raised : goal.returns-clause-raised
returns-clause-raised g c =
    let s = c.self.inside in
    let p = c.args.lease.now.place in
    let to = c.confirm-confirmed.result in
    let is = held_at s.seat p s.slots.items c.self.invariant.1.each (ap (holds_at p) c.self.view_is ∙ c.requires) in
    let noted_is : c.note.new.slots.items ≡ map (slot_with_noted_position p to) s.slots.items = c.note.ensures ∙ ap (λ l. map (slot_with_noted_position l.place to) s.slots.items) c.confirm-confirmed.ensures.lease.0 in
    ap (λ ts. record { slots = ts; places = s.places }) (ap (map (shown_slot c.confirm-confirmed.new.seat)) noted_is
    ∙ raised_shown s.seat c.confirm-confirmed.new.seat p c.args.position to s.slots.items s.places c.self.invariant.1 is c.confirm-confirmed.ensures.raised)
    ∙ ap (slots_after_raise p c.args.position) c.self.view_is

pub returns-clause-named : goal.returns-clause-named
returns-clause-named g c = λ name found.
    returns-clause-raised g c
    ∙ ap (λ ts. record { slots = ts; places = c.args.self.now.places })
    (done_by_name c.self.inside.seat c.self.inside.directory c.self.inside.slots.items c.self.inside.places c.args.self.now c.args.lease.now.place (slot_with_confirmed c.args.position) c.self.invariant.0 c.self.invariant.1 c.self.view_is name found)
