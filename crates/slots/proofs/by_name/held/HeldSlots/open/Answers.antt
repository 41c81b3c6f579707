use Rattle.std.proofs.Common.{map, option_map, ap}
use Rattle.slots.specs.State.{holds_at}
use Rattle.slots.proofs.Leases.{none_leased}
use Rattle.slots.proofs.by_name.held.HeldSlots.open.Goals as goal

pub invariant_of-result : goal.invariant_of-result
invariant_of-result g c =
    (c.in-Ok.ensures.0, none_leased c.in_ok-slots.slots (map (option_map (λ lease. lease.place)) c.in-Ok.leases.items) (λ q. ap (holds_at q) c.in_ok-slots.ensures) c.in-Ok.ensures.1)
