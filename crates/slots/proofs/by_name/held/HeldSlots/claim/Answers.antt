use Rattle.std.proofs.Common.{◌≡◌, true, false, option_map, refl, sym, ap, subst, ◌∙◌}
use Rattle.slots.specs.State.{SlotsState, confirmed_of, holds_at, slot_of}
use Rattle.slots.specs.Leasing.{IsLeasedAs}
use Rattle.slots.proofs.Leases.{is_low, lease_there, with_lease}
use Rattle.slots.proofs.Claims.{claimed_else, claimed_value}
use Rattle.slots.proofs.by_name.held.HeldSlots.claim.Goals as goal

pub unreachable-requires : goal.unreachable-requires
unreachable-requires g c =
    let s = c.self.inside in
    let p = c.in_ok-lease.lease.place in
    let low = is_low (λ l. l.place) s.leases.len p s.leases.items c.self.invariant.0 s.leases.ok.0 c.in_ok-lease.ensures.within in
    let there = lease_there (λ l. l.place) s.slots s.leases.items p c.index_mut.result.now c.in-Some._other c.self.invariant.1 low c.index_mut.ensures.value (sym c.replace.ensures.value ∙ c.in-Some.is) in
    let never : true ≡ false = sym there.1 ∙ c.in_ok-lease.ensures.lease.1 in cc

pub invariant_of-self-2 : goal.invariant_of-self-2
invariant_of-self-2 g c =
    let s = c.self.inside in
    let p = c.in_ok-lease.lease.place in
    let t = c.confirmed-confirmed.new.self in (
      c.self.invariant.0,
      with_lease (λ l. l.place) s.slots t s.leases.items p c.replace.new.dest c.self.invariant.1
          (subst (λ o. IsLeasedAs t p (option_map (λ l. l.place) o)) (sym c.replace.ensures.after) (refl, ap (holds_at p) c.confirmed-confirmed.ensures.same ∙ c.in_ok-lease.ensures.lease.2))
          (claimed_else c.args.name.now p s.slots t c.in_ok-lease.ensures.only (c.confirmed-confirmed.ensures.same ∙ c.in_ok-lease.ensures.ok)),
    )

pub returns-clause-value : goal.returns-clause-value
returns-clause-value g c =
    c.confirmed-confirmed.ensures.value ∙ claimed_value c.args.name.now c.in_ok-lease.lease.place c.self.inside.slots c.claim.new.self c.in_ok-lease.ensures.only c.in_ok-lease.ensures.ok
    ∙ ap (λ (z : SlotsState). confirmed_of (slot_of c.args.name.now z.slots)) c.self.view_is
