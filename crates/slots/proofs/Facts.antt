-- What one more step adds to the facts of a place.
use Rattle.std.proofs.Common.{◌≡◌, ℕ, Bool, cond, eqb, List, [], ◌∷◌, ◌++◌, refl, ap, ◌∙◌, eq-eqb, ne_eqb}
use Rattle.slots.specs.declared.words_kept.step.SlotStep.{SlotStep}
use Rattle.slots.specs.Facts.{Facts, facts, facts_from, facts_after, no_facts}

facts_snoc : (p : ℕ) (f : Facts) (ss : List SlotStep) (s : SlotStep) → facts_from p f (ss ++ s ∷ []) ≡ cond (eqb s.place p) (facts_after s (facts_from p f ss)) (facts_from p f ss)
facts_snoc p f [] s = refl
facts_snoc p f (x ∷ xs) s = facts_snoc p (cond (eqb x.place p) (facts_after x f) f) xs s

pub facts_here : (p : ℕ) (ss : List SlotStep) (s : SlotStep) → s.place ≡ p → facts p (ss ++ s ∷ []) ≡ facts_after s (facts p ss)
facts_here p ss s is = facts_snoc p no_facts ss s ∙ ap (λ (b : Bool). cond b (facts_after s (facts p ss)) (facts p ss)) (eq-eqb s.place p is)

pub facts_there : (p : ℕ) (ss : List SlotStep) (s : SlotStep) → (s.place ≡ p → ⊥) → facts p (ss ++ s ∷ []) ≡ facts p ss
facts_there p ss s not = facts_snoc p no_facts ss s ∙ ap (λ (b : Bool). cond b (facts_after s (facts p ss)) (facts p ss)) (ne_eqb s.place p not)
