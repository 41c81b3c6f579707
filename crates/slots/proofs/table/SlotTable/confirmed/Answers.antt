use Rattle.std.proofs.Common.{sym, subst, refl, ◌∙◌, arith}
use Rattle.slots.specs.Seats.{Holds}
use Rattle.slots.proofs.Steps.{may_read}
use Rattle.slots.proofs.Holding.{read_holds}
use Rattle.slots.proofs.table.SlotTable.confirmed.Goals as goal

pub load-requires : goal.load-requires
load-requires g c =
    let s = c.seat.inside in
    let kept = c.seat.invariant in
    let table = c.args.self.now in
    let wide = table.wide in
    let word = c.position_word-word.ensures in
    let mine = subst (Holds c.args.lease.now.place) (sym c.seat.view_is) c.requires in
    (kept.0 ∙ sym table.named, omega (arith, wide, word), may_read _ c.args.lease.now.place s.seat.id s.number s.seat.me.0 s.seat.me.1 kept.1 mine _ word)

pub returns-clause-lease : goal.returns-clause-lease
returns-clause-lease g c = let mine = subst (Holds c.args.lease.now.place) (sym c.seat.view_is) c.requires in read_holds c.args.lease.now.place c.args.lease.now.place _ _ _ _ _ refl (c.load.ensures.2 c.args.lease.now.place (c.position_word-word.ensures, mine)).0 mine
