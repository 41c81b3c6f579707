use Rattle.std.proofs.Common.{sym, ap, ◌∙◌, map}
use Rattle.slots.specs.Keeping.{confirmed_slot}
use Rattle.slots.specs.State.{SlotsState}
use Rattle.slots.proofs.Names.{lent}
use Rattle.slots.proofs.by_name.named.NamedSlots.slots.Goals as goal

pub returns : goal.returns
returns g c = c.as_slice.ensures.value ∙ sym (lent c.self.inside.seat c.self.inside.slots.items) ∙ ap (λ (s : SlotsState). map confirmed_slot s.slots) c.self.view_is
