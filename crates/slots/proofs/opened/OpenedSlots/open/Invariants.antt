use Rattle.std.proofs.Common.{◌≡◌, All, suc, [], length}
use Rattle.slots.specs.Seats.{IsFresh}
use Rattle.slots.proofs.opened.OpenedSlots.open.Given as goal

abbrev pub invariant-loop : goal.invariant-loop
invariant-loop g l = (l.first.table_id ≡ l.initial.first.table_id)
    × (l.first.me ≡ (record { number = 0; seats = suc (length l.others.items); steps = [] }, []))
    × (suc (length l.others.items) ≡ l.counter)
    × All (IsFresh l.seats) l.others.items
