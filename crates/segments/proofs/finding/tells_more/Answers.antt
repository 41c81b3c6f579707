use Rattle.std.proofs.Common.{◌≡◌, ℕ, List, drop, inl, inr, subst, sym, ap, ◌∙◌, arith}
use Rattle.std.proofs.lemmas.Bool.{cases_lt}
use Rattle.segments.specs.Contents.{Tells}
use Rattle.segments.proofs.Reading.{none_after}
use Rattle.segments.proofs.finding.tells_more.Goals as goal

pub loop-later-preserved : goal.loop-later-preserved
loop-later-preserved c = λ later low high told. elim (cases_lt later c.loop-later.later) [
  | inl before ↦ c.loop-later.invariant later low before told
  | inr after ↦
      let here : c.loop-later.later ≡ later = omega (arith, high, after) in
      c.if-tells.ensures (subst (λ (l : List ℕ). Tells c.args.key l c.args.at) (sym (c.split_at.ensures.back ∙ ap (λ (n : ℕ). drop n c.args.content.now) here)) told)
]

pub returns : goal.returns
returns c = λ told. elim (cases_lt told.later c.loop-later.later) [
  | inl before ↦ c.loop-later.invariant told.later told.after before told.told
  | inr after ↦
      let end = c.loop-later-test.false in
      none_after c.args.key c.args.at told.later c.args.content.now (omega (arith, after, end)) told.told
]
