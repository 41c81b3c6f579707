use Rattle.std.proofs.Common.{◌≡◌, ◌+◌, ◌∷◌, [], ℕ, List, Option, None, map, option_map, sym, ap, subst, ◌∙◌, arith}
use Rattle.std.specs.List.{AllByRecursion}
use Rattle.std.proofs.lemmas.List.{map-append}
use Rattle.slots.proofs.Leases.{none_after}
use Rattle.slots.proofs.by_name.held.no_leases.Goals as goal

pub loop-preserved : goal.loop-preserved
loop-preserved g c =
    let capacity = c.push_reserved.ensures.capacity in
    let room = c.loop.invariant.1 in (
      c.push_reserved.ensures.len ∙ ap (λ (n : ℕ). n + 1) c.loop.invariant.0,
      omega (arith, capacity, room),
      subst (λ (l : List (Option ℕ)). AllByRecursion (λ (o : Option ℕ). o ≡ None) l)
          (sym (ap (map (option_map (λ lease. lease.place))) c.push_reserved.ensures.items ∙ map-append (option_map (λ lease. lease.place)) c.loop.leases.items (None ∷ [])))
          (none_after (map (option_map (λ lease. lease.place)) c.loop.leases.items) c.loop.invariant.2),
    )
