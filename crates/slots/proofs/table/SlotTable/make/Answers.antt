use Rattle.std.proofs.Common.{◌≡◌, ℕ, ap, subst, ◌∙◌}
use Rattle.slots.specs.declared.words_kept.step.SlotKind.TheVariants.{Raise, Release}
use Rattle.slots.specs.Rule.{slot_step, with_step}
use Rattle.slots.specs.Seats.{DidAt}
use Rattle.slots.specs.Standings.{held_by}
use Rattle.slots.proofs.Creating.{one_made}
use Rattle.slots.proofs.table.SlotTable.make.Goals as goal

pub returns-in-Some : goal.returns-in-Some
returns-in-Some g c =
    let at = c.in-Some.ensures.0 in
    let raised = c.confirm-confirmed.ensures.raised in
    let kept = ap (λ l. l.place) c.confirm-confirmed.ensures.lease.0 in
    one_made c.args.seat.now c.take_new.new.seat c.confirm-confirmed.new.seat c.release.new.seat c.args.place raised.0 c.args.position c.confirm-confirmed.result
    c.in-Some.ensures.2
    raised.1
    (subst (λ (p : ℕ). DidAt Raise p raised.0 c.confirm-confirmed.result c.take_new.new.seat c.confirm-confirmed.new.seat) at raised.2)
    (subst (λ (p : ℕ). c.release.new.seat ≡ with_step c.confirm-confirmed.new.seat (slot_step Release p (held_by c.confirm-confirmed.new.seat.number) 1)) (kept ∙ at) c.release.ensures)
