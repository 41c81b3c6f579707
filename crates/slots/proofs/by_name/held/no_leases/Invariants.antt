use Rattle.std.proofs.Common.{◌≡◌, ◌≤◌, ℕ, Option, None, map, option_map, vec_capacity, vec_len}
use Rattle.std.specs.List.{AllByRecursion}
use Rattle.slots.proofs.by_name.held.no_leases.Given as goal

abbrev pub invariant-loop : goal.invariant-loop
invariant-loop g l = (vec_len l.leases ≡ l.counter) × (16 ≤ vec_capacity l.leases) × AllByRecursion (λ (o : Option ℕ). o ≡ None) (map (option_map (λ lease. lease.place)) l.leases.items)
