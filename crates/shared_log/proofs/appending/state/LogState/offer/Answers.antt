use Rattle.std.proofs.Common.{◌≡◌, ◌<◌, arith, List, ◌++◌, ◌∷◌, [], length, refl, ap, sym, subst, ◌∙◌}
use Rattle.std.specs.Arc.{arc_value}
use Rattle.shared_log.specs.declared.histories.entry.Entry.{Entry}
use Rattle.shared_log.specs.declared.histories.entry.Entry.TheVariants.{Offered}
use Rattle.shared_log.specs.SeenPrefixes.{settled_records}
use Rattle.shared_log.specs.Writing.{IsOutline}
use Rattle.shared_log.proofs.Writing.{few_settled, offered_is, restart_is, stands_offered, stands_still}
use Rattle.shared_log.proofs.appending.state.LogState.offer.Goals as goal

pub invariant_of-self : goal.invariant_of-self
invariant_of-self g c = stands_still _ _ _ _ c.self.inside.openings c.reserve.new.self c.self.invariant c.reserve.ensures.same c.reserve.ensures.stays

pub invariant_of-self-then-next-ge-MOST_STEPS : goal.invariant_of-self-then-next-ge-MOST_STEPS
invariant_of-self-then-next-ge-MOST_STEPS g c = stands_still _ _ _ _ c.self.inside.openings c.reserve.new.self c.self.invariant c.reserve.ensures.same c.reserve.ensures.stays

pub restart_after-restart-requires : goal.restart_after-restart-requires
restart_after-restart-requires g c =
    record { few = omega (arith, few_settled c.self.inside.count 2305843009213693952 c.self.inside.front c.next.inside.seen.log c.next.inside.count c.self.invariant.counted (c.next.view_is ∙ c.again-next.ensures) c.next.invariant.0 c.if-next-ge-MOST_STEPS.false) }

pub invariant_of-self-2 : goal.invariant_of-self-2
invariant_of-self-2 g c =
    let front = c.self.inside.front in
    let next : c.offer.new.self ≡ front ++ Offered (arc_value c.args.entry) ∷ [] = rw (c.again-next.ensures, c.deref.ensures) at c.if-not-offer.ensures in
    stands_offered front _ _ (arc_value c.args.entry) _ _ c.self.inside.openings c.reserve.new.self c.self.invariant next c.reserve.ensures.same c.in_ok-reserve.ensures.room

pub returns-clause-put : goal.returns-clause-put
returns-clause-put g c =
    let front = c.self.inside.front in
    let r = arc_value c.args.entry in
    let fits : IsOutline (settled_records front) r c.args.outline = subst (λ (es : List Entry). IsOutline (settled_records es) r c.args.outline) (sym c.self.view_is) c.requires in
    rw (← c.self.view_is)
    (record {
      place = c.self.invariant.counted;
      entry = refl;
      restart = restart_is (settled_records front) r c.self.inside.openings.items.items _ c.args.outline _ _ fits c.self.invariant.counted c.reserve.ensures.same c.restart_after-restart.ensures c.self.invariant.progress;
      named = c.mark.ensures.1;
      says = c.mark.ensures.0;
    })

pub returns-clause-ok : goal.returns-clause-ok
returns-clause-ok g c =
    let front = c.self.inside.front in
    let r = arc_value c.args.entry in
    let next : c.offer.new.self ≡ front ++ Offered r ∷ [] = rw (c.again-next.ensures, c.deref.ensures) at c.if-not-offer.ensures in
    let fits : IsOutline (settled_records front) r c.args.outline = subst (λ (es : List Entry). IsOutline (settled_records es) r c.args.outline) (sym c.self.view_is) c.requires in
    let short : length front < 2305843009213693952 = omega (arith, c.next.invariant.0, ap length (c.next.view_is ∙ c.again-next.ensures), c.if-next-ge-MOST_STEPS.false) in
    rw (← c.self.view_is) (next, offered_is front c.offer.new.self r c.args.outline fits next short)
