use Rattle.std.proofs.Common.{◌≡◌, ℕ, suc, ◌+◌, ap, subst, ◌∙◌, arith}
use Rattle.slots.specs.declared.words_kept.step.SlotKind.TheVariants.{Raise, Release}
use Rattle.slots.specs.Rule.{slot_step, with_step}
use Rattle.slots.specs.Seats.{DidAt}
use Rattle.slots.specs.Standings.{held_by}
use Rattle.slots.proofs.Creating.{Passed, one_passed, one_created}
use Rattle.slots.proofs.table.SlotTable.create.Goals as goal

pub returns-in-Some : goal.returns-in-Some
returns-in-Some g c =
    let at = c.in-Some.ensures.0 in
    let raised = c.confirm.ensures.raised in
    let kept = ap (λ l. l.place) c.confirm.ensures.lease.0 in
    let low = c.loop-place-test.true in (
      omega (arith, low),
      one_created c.args.seat.now c.loop-place.place c.loop-place.seat c.loop-place.invariant c.take_new.new.seat c.confirm.new.seat c.release.new.seat raised.0 c.args.position c.confirm.result
          c.in-Some.ensures.2
          raised.1
          (subst (λ (p : ℕ). DidAt Raise p raised.0 c.confirm.result c.take_new.new.seat c.confirm.new.seat) at raised.2)
          (subst (λ (p : ℕ). c.release.new.seat ≡ with_step c.confirm.new.seat (slot_step Release p (held_by c.confirm.new.seat.number) 1)) (kept ∙ at) c.release.ensures),
    )

pub loop-place-preserved : goal.loop-place-preserved
loop-place-preserved g c =
    let passed = c.in_default.ensures in
    let next : suc c.loop-place.place ≡ c.loop-place.place + 1 = omega arith in
    subst (λ (n : ℕ). Passed c.args.seat.now n c.take_new.new.seat) next (one_passed c.args.seat.now c.loop-place.place c.loop-place.seat c.loop-place.invariant c.take_new.new.seat passed.0 passed.1 passed.2)
