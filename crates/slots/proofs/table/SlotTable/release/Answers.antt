use Rattle.std.proofs.Common.{ℕ, sym, ap, subst, ◌∙◌, arith}
use Rattle.slots.specs.Rule.{word_at}
use Rattle.slots.specs.Seats.{Holds}
use Rattle.slots.proofs.Steps.{may_release}
use Rattle.slots.proofs.table.SlotTable.release.Goals as goal

pub store-requires : goal.store-requires
store-requires g c =
    let s = c.seat.inside in
    let kept = c.seat.invariant in
    let table = c.args.self.now in
    let wide = table.wide in
    let word = c.state_word-word.ensures in
    let mine = subst (Holds c.args.lease.place) (sym c.seat.view_is) c.requires in
    (kept.0 ∙ sym table.named, omega (arith, wide, word), may_release _ c.args.lease.place s.seat.id s.number s.seat.me.0 s.seat.me.1 kept.1 mine _ _ word (c.word_at-new.ensures ∙ ap (λ (n : ℕ). word_at c.args.lease.place n) c.word-free.ensures.word))
