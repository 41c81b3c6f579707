use Rattle.std.proofs.Common.{List, sym, subst}
use Rattle.slots.specs.declared.by_name.slot.Slot.{Slot}
use Rattle.slots.specs.Keeping.{IsNamed, StandsIn}
use Rattle.slots.proofs.Opening.{none_named, none_stand}
use Rattle.slots.proofs.by_name.named.NamedSlots.open.Goals as goal

pub invariant_of-result : goal.invariant_of-result
invariant_of-result g c =
    let seats = c.in_ok-table.ensures.2 in
    subst (λ (slots : List Slot). IsNamed c.new.result slots 0 × StandsIn c.in-Some.seat slots 0) (sym c.new-2.ensures.items)
    (none_named c.new.result c.new.ensures.none, none_stand c.in-Some.seat c.in_ok-table.seats.items c.pop.new.self.items seats.0 c.in-Some.ensures.items seats.1)
