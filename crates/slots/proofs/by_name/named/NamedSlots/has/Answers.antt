use Rattle.std.proofs.Common.{sym, ap, ◌∙◌}
use Rattle.std.specs.Prelude.{is_some}
use Rattle.slots.specs.State.{SlotsState, slot_of}
use Rattle.slots.proofs.Names.{there_shown}
use Rattle.slots.proofs.by_name.named.NamedSlots.has.Goals as goal

pub returns : goal.returns
returns g c =
    let s = c.self.inside in
    c.is_some.ensures ∙ ap is_some c.find.ensures ∙ sym (there_shown s.seat s.directory s.slots.items s.places c.args.name.now c.self.invariant.0) ∙ ap (λ (z : SlotsState). is_some (slot_of c.args.name.now z.slots)) c.self.view_is
