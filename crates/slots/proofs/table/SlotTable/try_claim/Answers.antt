use Rattle.std.proofs.Common.{ℕ, sym, ap, subst, cond, eqb, ◌∙◌, arith}
use Rattle.slots.specs.declared.words_kept.step.SlotKind.TheVariants.{Claim}
use Rattle.slots.specs.declared.words_kept.step.SeatView.{SeatView}
use Rattle.slots.specs.Rule.{word_at}
use Rattle.slots.specs.Seats.{Did}
use Rattle.slots.specs.Standings.{held_by}
use Rattle.slots.proofs.Holding.{claimed_so}
use Rattle.slots.proofs.Steps.{may_claim}
use Rattle.slots.proofs.table.SlotTable.try_claim.Goals as goal

pub compare_exchange-found-requires : goal.compare_exchange-found-requires
compare_exchange-found-requires g c =
    let s = c.seat.inside in
    let kept = c.seat.invariant in
    let table = c.args.self.now in
    let wide = table.wide in
    let word = c.state_word-word.ensures in
    (kept.0 ∙ sym table.named, omega (arith, wide, word), may_claim _ c.args.place s.seat.id s.number s.seat.me.0 s.seat.me.1 kept.1 _ _ _ word (c.word_at-old.ensures ∙ ap (λ (n : ℕ). word_at c.args.place n) c.word-free.ensures.word) (c.word_at-new.ensures ∙ ap (λ (n : ℕ). word_at c.args.place n) c.word-mine.ensures.word))

pub returns : goal.returns
returns g c =
    let s = c.seat.inside in
    let kept = c.seat.invariant in
    let low = kept.3 in
    subst (λ (v : SeatView). Did Claim c.args.place c.state_at.result (cond (eqb c.state_at.result 1) (held_by v.number) c.state_at.result) v c.compare_exchange-found.new.seat.me.0) c.seat.view_is
    (subst (λ (n : ℕ). Did Claim c.args.place c.state_at.result (cond (eqb c.state_at.result 1) (held_by n) c.state_at.result) s.seat.me.0 c.compare_exchange-found.new.seat.me.0) (sym kept.1)
    (claimed_so 0 c.state_word-word.result 0 c.word_at-new.result c.args.place s.number c.compare_exchange-found.result s.seat.me c.compare_exchange-found.new.seat.me c.state_word-word.ensures (c.word_at-new.ensures ∙ ap (λ (n : ℕ). word_at c.args.place n) c.word-mine.ensures.word) (omega (arith, low)) c.state_at.ensures c.compare_exchange-found.ensures.2))
