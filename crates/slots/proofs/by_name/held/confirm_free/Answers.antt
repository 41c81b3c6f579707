use Rattle.std.proofs.Common.{◌≡◌, ℕ, false, sym, ap, subst, ◌∙◌}
use Rattle.slots.specs.State.{IsHeldAs, holds_at, slots_after_release}
use Rattle.slots.proofs.Claims.{around_free, claim_place, claims_free, held_confirmed}
use Rattle.slots.proofs.by_name.held.confirm_free.Goals as goal

pub unreachable-requires : goal.unreachable-requires
unreachable-requires g c = claims_free c.args.name.now c.args.place c.args.slots.now c.requires.only c.requires.free c.requires.found c.in_default.field-0 c.in_default.ensures.refused

pub release-requires : goal.release-requires
release-requires g c =
    ap (λ l. holds_at l.place c.confirm-confirmed.new.self) c.confirm-confirmed.ensures.lease
    ∙ held_confirmed c.in-Ok.lease.place c.args.position c.claim.new.self c.confirm-confirmed.new.self c.confirm-confirmed.ensures.raised c.in-Ok.lease.place
    ∙ c.in-Ok.ensures.lease.2

pub returns : goal.returns
returns g c =
    let p = c.in-Ok.lease.place in
    let here : p ≡ c.args.place = claim_place c.args.name.now c.args.place p c.args.slots.now c.claim.new.self c.in-Ok.ensures.ok c.in-Ok.ensures.lease.0 c.requires.found in
    around_free c.args.name.now p c.args.position c.args.slots.now c.claim.new.self c.confirm-confirmed.new.self c.release.new.self c.in-Ok.ensures.only
    (subst (λ (q : ℕ). IsHeldAs false q c.args.slots.now.slots) (sym here) c.requires.free) c.in-Ok.ensures.ok c.confirm-confirmed.ensures.raised
    (c.release.ensures.released ∙ ap (λ l. slots_after_release l.place c.confirm-confirmed.new.self) c.confirm-confirmed.ensures.lease)
