-- What one step more leaves at each place, as far as the slots ask for it.
use Rattle.std.proofs.Common.{◌≡◌, ℕ, refl, sym, ap, ◌∙◌}
use Rattle.slots.specs.declared.words_kept.step.SlotStep.{SlotStep}
use Rattle.slots.specs.declared.words_kept.step.SeatView.{SeatView}
use Rattle.slots.specs.Facts.{Facts, facts, facts_after}
use Rattle.slots.specs.Rule.{with_step}
use Rattle.slots.proofs.Facts.{facts_here, facts_there}

-- two facts that say the same of a place's words, and of whether it is held
pub record Alike (f g : Facts) : Type 0 where
  pub state : g.state ≡ f.state
  pub position : g.position ≡ f.position
  pub held : g.held ≡ f.held

pub alike : (f g : Facts) → g ≡ f → Alike f g
alike f g e = record { state = ap (λ (h : Facts). h.state) e; position = ap (λ (h : Facts). h.position) e; held = ap (λ (h : Facts). h.held) e }

pub alike_then : (f g h : Facts) → Alike f g → Alike g h → Alike f h
alike_then f g h a b = record { state = b.state ∙ a.state; position = b.position ∙ a.position; held = b.held ∙ a.held }

-- What the steps from one view to the next did: at this place they left these facts, and nothing elsewhere.
pub record Changes (v w : SeatView) (p : ℕ) (g : Facts) : Type 0 where
  pub number : w.number ≡ v.number
  pub seats : w.seats ≡ v.seats
  pub here : Alike g (facts p w.steps)
  pub there : (q : ℕ) → (q ≡ p → ⊥) → Alike (facts q v.steps) (facts q w.steps)

pub one_step : (v w : SeatView) (s : SlotStep) → w ≡ with_step v s → Changes v w s.place (facts_after s (facts s.place v.steps))
one_step v w s is = record {
  number = ap (λ (z : SeatView). z.number) is;
  seats = ap (λ (z : SeatView). z.seats) is;
  here = alike _ _ (ap (λ (z : SeatView). facts s.place z.steps) is ∙ facts_here s.place v.steps s refl);
  there = λ q not. alike _ _ (ap (λ (z : SeatView). facts q z.steps) is ∙ facts_there q v.steps s (λ e. not (sym e)));
}

-- two steps at one place
pub changes_then : (u v w : SeatView) (p : ℕ) (f g : Facts) → Changes u v p f → Changes v w p g → Changes u w p g
changes_then u v w p f g a b = record {
  number = b.number ∙ a.number;
  seats = b.seats ∙ a.seats;
  here = b.here;
  there = λ q not. alike_then (facts q u.steps) (facts q v.steps) (facts q w.steps) (a.there q not) (b.there q not);
}

pub at_place : (v w : SeatView) (p q : ℕ) (g : Facts) → p ≡ q → Changes v w p g → Changes v w q g
at_place v w p q g e c = record {
  number = c.number;
  seats = c.seats;
  here = alike_then g (facts p w.steps) (facts q w.steps) c.here (alike (facts p w.steps) (facts q w.steps) (ap (λ (r : ℕ). facts r w.steps) (sym e)));
  there = λ r not. c.there r (λ h. not (h ∙ e));
}
