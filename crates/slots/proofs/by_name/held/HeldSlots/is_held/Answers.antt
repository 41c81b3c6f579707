use Rattle.std.proofs.Common.{refl, sym, ap, ◌∙◌}
use Rattle.slots.specs.State.{SlotsState, is_in_use, slot_of}
use Rattle.slots.proofs.Leases.{has_lease, is_low}
use Rattle.slots.proofs.Leasing.{found_at, unnamed_free}
use Rattle.slots.proofs.by_name.held.HeldSlots.is_held.Goals as goal

pub returns-in_default : goal.returns-in_default
returns-in_default g c =
    sym (unnamed_free c.args.name.now c.self.inside.slots.slots (c.in_default.ensures.none refl)) ∙ ap (λ (z : SlotsState). is_in_use (slot_of c.args.name.now z.slots)) c.self.view_is

pub returns : goal.returns
returns g c =
    let s = c.self.inside in
    let p = c.in-Some.place in
    let low = is_low (λ l. l.place) s.leases.len p s.leases.items c.self.invariant.0 s.leases.ok.0 c.in-Some.ensures.within in
    c.is_some.ensures ∙ has_lease (λ l. l.place) s.slots s.leases.items p c.index.result.now c.self.invariant.1 low c.index.ensures
    ∙ ap is_in_use (sym (found_at c.args.name.now p s.slots.slots c.in-Some.ensures.only))
    ∙ ap (λ (z : SlotsState). is_in_use (slot_of c.args.name.now z.slots)) c.self.view_is
