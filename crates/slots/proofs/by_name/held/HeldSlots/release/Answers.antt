use Rattle.std.proofs.Common.{◌≡◌, ℕ, Bool, Option, option_map, sym, ap, subst, ◌∙◌, refl}
use Rattle.slots.specs.State.{IsHeldAs, holds_at, slots_after_release, slots_after_release_by_name}
use Rattle.slots.specs.Leasing.{IsLeasedAs}
use Rattle.slots.proofs.Leases.{is_low, lease_there, no_lease, with_lease}
use Rattle.slots.proofs.Claims.{free_already, none_released, released_else, released_here}
use Rattle.slots.proofs.by_name.held.HeldSlots.release.Goals as goal

pub returns-in_default : goal.returns-in_default
returns-in_default g c = none_released c.args.name.now c.self.inside.slots c.args.self.now (c.in_default.ensures.none refl) c.self.view_is

pub release-requires : goal.release-requires
release-requires g c =
    let s = c.self.inside in
    let p = c.in-Some.place in
    let low = is_low (λ l. l.place) s.leases.len p s.leases.items c.self.invariant.0 s.leases.ok.0 c.in-Some.ensures.within in
    let there = lease_there (λ l. l.place) s.slots s.leases.items p c.index_mut.result.now c.in-Some-replace.lease c.self.invariant.1 low c.index_mut.ensures.value (sym c.replace.ensures.value ∙ c.in-Some-replace.is) in
    ap (λ (q : ℕ). holds_at q s.slots) there.0 ∙ there.1

pub invariant_of-self : goal.invariant_of-self
invariant_of-self g c =
    let s = c.self.inside in
    let p = c.in-Some.place in
    let t = c.release.new.self in
    let low = is_low (λ l. l.place) s.leases.len p s.leases.items c.self.invariant.0 s.leases.ok.0 c.in-Some.ensures.within in
    let there = lease_there (λ l. l.place) s.slots s.leases.items p c.index_mut.result.now c.in-Some-replace.lease c.self.invariant.1 low c.index_mut.ensures.value (sym c.replace.ensures.value ∙ c.in-Some-replace.is) in
    let is : t ≡ slots_after_release p s.slots = c.release.ensures.released ∙ ap (λ (q : ℕ). slots_after_release q s.slots) there.0 in (
      c.self.invariant.0,
      with_lease (λ l. l.place) s.slots t s.leases.items p c.replace.new.dest c.self.invariant.1
          (subst (λ o. IsLeasedAs t p (option_map (λ l. l.place) o)) (sym c.replace.ensures.after) (released_here p s.slots t is)) (released_else p s.slots t is),
    )

pub returns-in-Some-replace : goal.returns-in-Some-replace
returns-in-Some-replace g c =
    let s = c.self.inside in
    let p = c.in-Some.place in
    let low = is_low (λ l. l.place) s.leases.len p s.leases.items c.self.invariant.0 s.leases.ok.0 c.in-Some.ensures.within in
    let there = lease_there (λ l. l.place) s.slots s.leases.items p c.index_mut.result.now c.in-Some-replace.lease c.self.invariant.1 low c.index_mut.ensures.value (sym c.replace.ensures.value ∙ c.in-Some-replace.is) in
    c.release.ensures.named c.args.name.now (c.in-Some.ensures.found ∙ ap (λ (q : ℕ). Option.Some q) (sym there.0)) ∙ ap (slots_after_release_by_name c.args.name.now) c.self.view_is

pub returns-in_default-replace : goal.returns-in_default-replace
returns-in_default-replace g c =
    let s = c.self.inside in
    let p = c.in-Some.place in
    let low = is_low (λ l. l.place) s.leases.len p s.leases.items c.self.invariant.0 s.leases.ok.0 c.in-Some.ensures.within in
    let free = no_lease (λ l. l.place) s.slots s.leases.items p c.index_mut.result.now c.self.invariant.1 low c.index_mut.ensures.value (sym c.replace.ensures.value ∙ c.in_default-replace.is) in
    free_already c.args.name.now p s.slots c.in-Some.ensures.only (subst (λ (b : Bool). IsHeldAs b p s.slots.slots) free c.in-Some.ensures.alike) ∙ ap (slots_after_release_by_name c.args.name.now) c.self.view_is
