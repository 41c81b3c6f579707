use Rattle.std.proofs.Common.{◌≡◌, ℕ, Bool, Option, Some, option_map, sym, ap, subst, ◌∙◌, refl}
use Rattle.slots.specs.State.{IsHeldAs, holds_at, slots_after_raise_by_name}
use Rattle.slots.specs.Leasing.{IsLeasedAs}
use Rattle.slots.proofs.Leases.{is_low, lease_there, no_lease, with_lease}
use Rattle.slots.proofs.Claims.{held_confirmed, none_raised, raised_at}
use Rattle.slots.proofs.by_name.held.HeldSlots.confirm.Goals as goal

pub returns-in_default : goal.returns-in_default
returns-in_default g c = none_raised c.args.name.now c.args.position c.self.inside.slots c.args.self.now (c.in_default.ensures.none refl) c.self.view_is

pub confirm-confirmed-requires : goal.confirm-confirmed-requires
confirm-confirmed-requires g c =
    let s = c.self.inside in
    let p = c.in-Some.place in
    let low = is_low (λ l. l.place) s.leases.len p s.leases.items c.self.invariant.0 s.leases.ok.0 c.in-Some.ensures.within in
    let there = lease_there (λ l. l.place) s.slots s.leases.items p c.index_mut.result.now c.in-Some-index_mut.lease c.self.invariant.1 low c.index_mut.ensures.value c.in-Some-index_mut.is in
    ap (λ (q : ℕ). holds_at q s.slots) there.0 ∙ there.1

pub invariant_of-self : goal.invariant_of-self
invariant_of-self g c =
    let s = c.self.inside in
    let p = c.in-Some.place in
    let t = c.confirm-confirmed.new.self in
    let low = is_low (λ l. l.place) s.leases.len p s.leases.items c.self.invariant.0 s.leases.ok.0 c.in-Some.ensures.within in
    let there = lease_there (λ l. l.place) s.slots s.leases.items p c.index_mut.result.now c.in-Some-index_mut.lease c.self.invariant.1 low c.index_mut.ensures.value c.in-Some-index_mut.is in
    let same : (q : ℕ) → holds_at q t ≡ holds_at q s.slots = held_confirmed c.in-Some-index_mut.lease.place c.args.position s.slots t c.confirm-confirmed.ensures.raised in (
      c.self.invariant.0,
      with_lease (λ l. l.place) s.slots t s.leases.items p (Some c.confirm-confirmed.new.lease) c.self.invariant.1
          (ap (λ l. l.place) c.confirm-confirmed.ensures.lease ∙ there.0, same p ∙ there.1) (λ q not. same q),
    )

pub confirm_free-requires-clause-free : goal.confirm_free-requires-clause-free
confirm_free-requires-clause-free g c =
    let s = c.self.inside in
    let p = c.in-Some.place in
    let low = is_low (λ l. l.place) s.leases.len p s.leases.items c.self.invariant.0 s.leases.ok.0 c.in-Some.ensures.within in
    subst (λ (b : Bool). IsHeldAs b p s.slots.slots) (no_lease (λ l. l.place) s.slots s.leases.items p c.index_mut.result.now c.self.invariant.1 low c.index_mut.ensures.value c.in-None.is) c.in-Some.ensures.alike

pub invariant_of-self-in-None : goal.invariant_of-self-in-None
invariant_of-self-in-None g c =
    let s = c.self.inside in
    let p = c.in-Some.place in
    let t = c.confirm_free.new.slots in
    let low = is_low (λ l. l.place) s.leases.len p s.leases.items c.self.invariant.0 s.leases.ok.0 c.in-Some.ensures.within in
    let free = no_lease (λ l. l.place) s.slots s.leases.items p c.index_mut.result.now c.self.invariant.1 low c.index_mut.ensures.value c.in-None.is in
    let same : (q : ℕ) → holds_at q t ≡ holds_at q s.slots = held_confirmed p c.args.position s.slots t (raised_at c.args.name.now p c.args.position s.slots t c.in-Some.ensures.only c.confirm_free.ensures) in (
      c.self.invariant.0,
      with_lease (λ l. l.place) s.slots t s.leases.items p c.index_mut.result.now c.self.invariant.1
          (subst (λ o. IsLeasedAs t p (option_map (λ l. l.place) o)) (sym c.in-None.is) (same p ∙ free)) (λ q not. same q),
    )

pub returns-in-Some-index_mut : goal.returns-in-Some-index_mut
returns-in-Some-index_mut g c =
    let s = c.self.inside in
    let p = c.in-Some.place in
    let low = is_low (λ l. l.place) s.leases.len p s.leases.items c.self.invariant.0 s.leases.ok.0 c.in-Some.ensures.within in
    let there = lease_there (λ l. l.place) s.slots s.leases.items p c.index_mut.result.now c.in-Some-index_mut.lease c.self.invariant.1 low c.index_mut.ensures.value c.in-Some-index_mut.is in
    c.confirm-confirmed.ensures.named c.args.name.now (c.in-Some.ensures.found ∙ ap (λ (q : ℕ). Option.Some q) (sym there.0)) ∙ ap (slots_after_raise_by_name c.args.name.now c.args.position) c.self.view_is
