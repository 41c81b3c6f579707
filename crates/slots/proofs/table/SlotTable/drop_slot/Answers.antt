use Rattle.std.proofs.Common.{ℕ, sym, ap, ◌∙◌, arith}
use Rattle.slots.specs.Rule.{word_at}
use Rattle.slots.proofs.Steps.{may_retire}
use Rattle.slots.proofs.table.SlotTable.drop_slot.Goals as goal

pub compare_exchange-found-requires : goal.compare_exchange-found-requires
compare_exchange-found-requires g c =
    let s = c.seat.inside in
    let kept = c.seat.invariant in
    let table = c.args.self.now in
    let wide = table.wide in
    let word = c.state_word-word.ensures in
    (kept.0 ∙ sym table.named, omega (arith, wide, word), may_retire _ c.args.place s.seat.id s.number s.seat.me.0 s.seat.me.1 kept.1 _ _ _ word (c.word_at-old.ensures ∙ ap (λ (n : ℕ). word_at c.args.place n) c.word-free.ensures.word) (c.word_past-new.ensures))
