use Rattle.std.proofs.Common.{ℕ, length, option_map, refl, ap, subst, ◌∙◌, arith}
use Rattle.slots.specs.State.{holds_at}
use Rattle.slots.specs.Leasing.{IsLeasedAs}
use Rattle.slots.proofs.Leases.{last_there, without_last}
use Rattle.slots.proofs.Claims.{released_else}
use Rattle.slots.proofs.by_name.held.HeldSlots.close.Goals as goal

pub release-requires : goal.release-requires
release-requires g c =
    let s = c.loop-lease.slots in
    let new = c.pop.new.self.items in
    let there = subst (λ o. IsLeasedAs s (length new) (option_map (λ l. l.place) o)) c.in-Some-lease.is (last_there (λ l. l.place) s c.loop-lease.leases.items new c.in-Some.lease c.in-Some.ensures.items c.loop-lease.invariant) in
    ap (λ (q : ℕ). holds_at q s) there.0 ∙ there.1

pub loop-lease-preserved-in-Some-lease : goal.loop-lease-preserved-in-Some-lease
loop-lease-preserved-in-Some-lease g c =
    let s = c.loop-lease.slots in
    let new = c.pop.new.self.items in
    let there = subst (λ o. IsLeasedAs s (length new) (option_map (λ l. l.place) o)) c.in-Some-lease.is (last_there (λ l. l.place) s c.loop-lease.leases.items new c.in-Some.lease c.in-Some.ensures.items c.loop-lease.invariant) in
    let last = there.0 in
    without_last (λ l. l.place) s c.release.new.self c.loop-lease.leases.items c.in-Some.lease new c.in-Some.ensures.items c.loop-lease.invariant
    (λ q low. released_else c.in-Some-lease.lease.place s c.release.new.self c.release.ensures.released q (λ is. omega (arith, is, low, last)))

pub loop-lease-preserved : goal.loop-lease-preserved
loop-lease-preserved g c = without_last (λ l. l.place) c.loop-lease.slots c.loop-lease.slots c.loop-lease.leases.items c.in-Some.lease c.pop.new.self.items c.in-Some.ensures.items c.loop-lease.invariant (λ q low. refl)
