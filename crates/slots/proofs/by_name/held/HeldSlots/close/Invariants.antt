use Rattle.std.proofs.Common.{map, option_map, vec_len}
use Rattle.slots.specs.Leasing.{AreLeases}
use Rattle.slots.proofs.by_name.held.HeldSlots.close.Given as goal

abbrev pub invariant-loop-lease : goal.invariant-loop-lease
invariant-loop-lease g l = AreLeases l.slots (map (option_map (λ lease. lease.place)) l.leases.items)

abbrev pub decreases-loop-lease : goal.decreases-loop-lease
decreases-loop-lease g l = vec_len l.leases
