-- Which steps keep a place held.
use Rattle.std.proofs.Common.{◌≡◌, ℕ, ◌+◌, ◌*◌, ◌/◌, ◌%◌, ◌<◌, cond, eqb, List, sym, refl, ap, ◌∙◌, subst, arith}
use mathlib.Core.Option.{none}
use Rattle.atomic_table.specs.Table.{step}
use Rattle.slots.specs.declared.words_kept.step.SlotKind.{SlotKind}
use Rattle.slots.specs.declared.words_kept.step.SlotKind.TheVariants.{Create, Claim, Read, Raise}
use Rattle.slots.specs.declared.words_kept.step.SeatView.{SeatView}
use Rattle.slots.specs.Facts.{Facts}
use Rattle.slots.specs.Standings.{held_by}
use Rattle.slots.specs.Rule.{claims, creates, place_at, slot_step, state_at, state_word, steps_on, with_step, word_at}
use Rattle.slots.specs.Seats.{Did, Holds}
use Rattle.slots.proofs.Facts.{facts_here}
use Rattle.slots.proofs.Lines.{place_back}

pub created_holds : (p y : ℕ) (v w : SeatView) → w ≡ with_step v (slot_step Create p 0 y) → Holds p w
created_holds p y v w is = subst (Holds p) (sym is) (ap (λ (f : Facts). f.held) (facts_here p v.steps (slot_step Create p 0 y) refl))

pub claimed_holds : (p y : ℕ) (v w : SeatView) → w ≡ with_step v (slot_step Claim p 1 y) → Holds p w
claimed_holds p y v w is = subst (Holds p) (sym is) (ap (λ (f : Facts). f.held) (facts_here p v.steps (slot_step Claim p 1 y) refl))

pub raised_holds : (p q x y : ℕ) (v : SeatView) (w : SeatView × List (ℕ × Unit {0})) (c : List (ℕ × Unit {0})) → q ≡ p → w ≡ (with_step v (slot_step Raise q x y), c) → Holds p v → Holds p w.0
raised_holds p q x y v w c here is old = subst (Holds p) (sym (ap (λ (m : SeatView × List (ℕ × Unit {0})). m.0) is))
    (ap (λ (f : Facts). f.held) (facts_here p v.steps (slot_step Raise q x y) here) ∙ old)

pub read_holds : (p q x y : ℕ) (v : SeatView) (w : SeatView × List (ℕ × Unit {0})) (c : List (ℕ × Unit {0})) → q ≡ p → w ≡ (with_step v (slot_step Read q x y), c) → Holds p v → Holds p w.0
read_holds p q x y v w c here is old = subst (Holds p) (sym (ap (λ (m : SeatView × List (ℕ × Unit {0})). m.0) is))
    (ap (λ (f : Facts). f.held) (facts_here p v.steps (slot_step Read q x y) here) ∙ old)

-- ---- What a step on a line's word did to the place.

did_on : (kind : SlotKind) (want left l p q found x : ℕ) (m m' : SeatView × List (ℕ × Unit {0})) → q ≡ p → l ≡ left → x ≡ state_at p found → steps_on kind want l q found m m' → Did kind p x (cond (eqb x want) left x) m.0 m'.0
did_on kind want left l p q found x m m' here leaves is did = subst (λ (z : ℕ). Did kind p z (cond (eqb z want) left z) m.0 m'.0) (sym is)
    (let told = subst (λ (z : ℕ × ℕ). steps_on kind want z.1 z.0 found m m') (λ i. (here i, leaves i)) did in (ap (λ (z : SeatView × List (ℕ × Unit {0})). z.0) told.0, told.1))

module _ (slots w old new p number found : ℕ) (m m' : SeatView × List (ℕ × Unit {0})) (here : w ≡ state_word p) (mine : new ≡ word_at p (held_by number)) (low : held_by number < 4096) where
  place_is : place_at w new ≡ p
  place_is = subst (λ (z : ℕ × ℕ). place_at z.0 z.1 ≡ p) (λ i. (sym here i, sym mine i)) (place_back p (held_by number) low)

  left_is : new % 4096 ≡ held_by number
  left_is = omega (arith, mine, low)

  pub created_so : {x : ℕ} → x ≡ state_at p found → creates (step slots w old new none) m found m' → Did Create p x (cond (eqb x 0) (held_by number) x) m.0 m'.0
  created_so is did = did_on Create 0 (held_by number) (new % 4096) p (place_at w new) found _ m m' place_is left_is is did

  pub claimed_so : {x : ℕ} → x ≡ state_at p found → claims (step slots w old new none) m found m' → Did Claim p x (cond (eqb x 1) (held_by number) x) m.0 m'.0
  claimed_so is did = did_on Claim 1 (held_by number) (new % 4096) p (place_at w new) found _ m m' place_is left_is is did
