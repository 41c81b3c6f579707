use Rattle.std.proofs.Common.{◌≡◌, ℕ, suc, ◌+◌, ◌<◌, All, [], ◌∷◌, ◌++◌, length, sym, ap, subst, ◌∙◌, arith}
use Rattle.std.proofs.lemmas.List.{length_push}
use Rattle.std.proofs.lemmas.List.Elements.{All-push}
use Rattle.slots.specs.declared.words_kept.step.SeatView.{SeatView}
use Rattle.slots.specs.Rule.{newest, one_more}
use Rattle.slots.specs.Seats.{IsFresh}
use Rattle.slots.proofs.Seating.{splits, newest_is_fresh, first_is_fresh}
use Rattle.slots.proofs.opened.OpenedSlots.open.Goals as goal

abbrev with_seats : ℕ → SeatView
with_seats n = record { number = 0; seats = n; steps = [] }

pub split_seat-seat-requires : goal.split_seat-seat-requires
split_seat-seat-requires g c =
    let wide = c.args.self.wide in
    let view = c.loop.invariant.1 in
    (c.loop.invariant.0 ∙ c.args.self.same, omega (arith, wide), splits _ _ (subst (λ m. 0 < m.0.seats) (sym view) (omega arith)) (subst (λ m. m.0.seats < 2048) (sym view) (let count = c.loop.invariant.2 in let test = c.loop-test.true in let few = c.requires.few in omega (arith, count, test, few))))

pub invariant_of-push : goal.invariant_of-push
invariant_of-push g c =
    let split = c.split_seat-seat.ensures in
    let me = split.4 ∙ ap (λ m. (newest m.0, [])) c.loop.invariant.1 in
    let len = c.len.ensures in
    let ok = c.loop.others.ok in
    let small = c.loop.others.small in
    let number : suc (length c.loop.others.items) ≡ c.len.result + 1 = omega (arith, len, ok) in
    (split.3 ∙ c.loop.invariant.0 ∙ c.requires.name, ap (λ m. m.0.number) me ∙ number, ap (λ m. m.1) me, (let count = c.loop.invariant.2 in let test = c.loop-test.true in let few = c.requires.few in omega (arith, len, ok, small, count, test, few)))

pub loop-preserved : goal.loop-preserved
loop-preserved g c =
    let split = c.split_seat-seat.ensures in
    let me = split.4 ∙ ap (λ m. (newest m.0, [])) c.loop.invariant.1 in
    let items = c.in_ok-push.ensures.items in
    let longer : length c.push.new.self.items ≡ length c.loop.others.items + 1 = ap length items ∙ length_push c.loop.others.items _ in
    let count = c.loop.invariant.2 in
    let seats : suc (length c.loop.others.items) + 1 ≡ suc (length c.push.new.self.items) = omega (arith, longer) in (
      split.0 ∙ c.loop.invariant.0,
      split.2 ∙ ap (λ m. (one_more m.0, m.1)) c.loop.invariant.1 ∙ ap (λ (n : ℕ). (with_seats n, [])) seats,
      omega (arith, longer, count),
      subst (All (IsFresh c.args.seats)) (sym items) (All-push (IsFresh c.args.seats) c.loop.others.items _ c.loop.invariant.3 (newest_is_fresh c.args.seats (length c.loop.others.items) _ (ap (λ m. m.0) me))),
    )

pub returns : goal.returns
returns g c =
    let items = c.in_ok-push-2.ensures.items in
    let longer : length c.push-2.new.self.items ≡ length c.loop.others.items + 1 = ap length items ∙ length_push c.loop.others.items _ in
    let count = c.loop.invariant.2 in
    let ends = c.loop.auto.counter-end c.requires.seats in
    let reached = c.loop-test.false in
    let ok = c.push-2.new.self.ok in
    let done : suc (length c.loop.others.items) ≡ c.args.seats = omega (arith, count, ends, reached) in (
      omega (arith, longer, done, ok),
      subst (All (IsFresh c.args.seats)) (sym items) (All-push (IsFresh c.args.seats) c.loop.others.items _ c.loop.invariant.3 (first_is_fresh c.args.seats (suc (length c.loop.others.items)) _ done (ap (λ m. m.0) c.loop.invariant.1))),
      (c.loop.others.items, items ∙ ap (λ (v : SeatView). c.loop.others.items ++ v ∷ []) (ap (λ m. m.0) c.loop.invariant.1 ∙ ap with_seats done)),
    )
