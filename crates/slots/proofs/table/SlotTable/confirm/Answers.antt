use Rattle.std.proofs.Common.{sym, subst, refl, ◌∙◌, arith}
use Rattle.slots.specs.Seats.{Holds}
use Rattle.slots.proofs.Steps.{may_raise}
use Rattle.slots.proofs.Holding.{raised_holds}
use Rattle.slots.proofs.table.SlotTable.confirm.Goals as goal

pub fetch_max-found-requires : goal.fetch_max-found-requires
fetch_max-found-requires g c =
    let s = c.seat.inside in
    let kept = c.seat.invariant in
    let table = c.args.self.now in
    let wide = table.wide in
    let word = c.position_word-word.ensures in
    let mine = subst (Holds c.args.lease.now.place) (sym c.seat.view_is) c.requires in
    (kept.0 ∙ sym table.named, omega (arith, wide, word), may_raise _ c.args.lease.now.place s.seat.id s.number s.seat.me.0 s.seat.me.1 kept.1 mine _ c.args.position word)

pub returns-clause-lease : goal.returns-clause-lease
returns-clause-lease g c = let mine = subst (Holds c.args.lease.now.place) (sym c.seat.view_is) c.requires in (refl, raised_holds c.args.lease.now.place c.args.lease.now.place _ _ _ _ _ refl (c.fetch_max-found.ensures.2 c.args.lease.now.place (c.position_word-word.ensures, mine)).0 mine)
