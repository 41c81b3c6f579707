use Rattle.std.proofs.Common.{sym, ap, ◌∙◌}
use Rattle.slots.specs.State.{SlotsState, confirmed_of, holds_at, slot_at}
use Rattle.slots.proofs.Confirming.{read_same}
use Rattle.slots.proofs.NamedStanding.{held_at, is_low, stands_same, shown_same}
use Rattle.slots.proofs.by_name.named.NamedSlots.confirmed.Goals as goal

pub confirmed-requires : goal.confirmed-requires
confirmed-requires g c = (held_at c.self.inside.seat c.args.lease.now.place c.self.inside.slots.items c.self.invariant.1.each (ap (holds_at c.args.lease.now.place) c.self.view_is ∙ c.requires)).held

pub invariant_of-self : goal.invariant_of-self
invariant_of-self g c =
    let v = c.self.inside.seat in
    let w = c.confirmed.new.seat in
    let read = c.confirmed.ensures.read in
    (c.self.invariant.0, stands_same v w (ap (λ z. z.number) read.0) (ap (λ z. z.seats) read.0) (read_same v w c.args.lease.now.place c.confirmed.result c.self.invariant.1.alone (is_low v c.args.lease.now.place c.self.inside.slots.items c.self.inside.places c.self.invariant.1 (held_at v c.args.lease.now.place c.self.inside.slots.items c.self.invariant.1.each (ap (holds_at c.args.lease.now.place) c.self.view_is ∙ c.requires))) read) c.self.inside.slots.items c.self.inside.places c.self.invariant.1)

pub returns-clause-value : goal.returns-clause-value
returns-clause-value g c =
    let v = c.self.inside.seat in
    let p = c.args.lease.now.place in
    let is = held_at v p c.self.inside.slots.items c.self.invariant.1.each (ap (holds_at p) c.self.view_is ∙ c.requires) in
    c.confirmed.ensures.read.1.alone c.self.invariant.1.alone (is_low v p c.self.inside.slots.items c.self.inside.places c.self.invariant.1 is) ∙ sym is.at.confirmed ∙ ap confirmed_of (sym is.found) ∙ ap (λ (s : SlotsState). confirmed_of (slot_at p s.slots)) c.self.view_is

pub returns-clause-same : goal.returns-clause-same
returns-clause-same g c =
    let v = c.self.inside.seat in
    let w = c.confirmed.new.seat in
    let read = c.confirmed.ensures.read in
    ap (λ ts. record { slots = ts; places = c.self.inside.places }) (shown_same v w (ap (λ z. z.number) read.0) (ap (λ z. z.seats) read.0) (read_same v w c.args.lease.now.place c.confirmed.result c.self.invariant.1.alone (is_low v c.args.lease.now.place c.self.inside.slots.items c.self.inside.places c.self.invariant.1 (held_at v c.args.lease.now.place c.self.inside.slots.items c.self.invariant.1.each (ap (holds_at c.args.lease.now.place) c.self.view_is ∙ c.requires))) read) c.self.inside.slots.items)
    ∙ c.self.view_is
