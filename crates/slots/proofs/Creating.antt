-- A create, place by place.
use Rattle.std.proofs.Common.{◌≡◌, ℕ, suc, ◌+◌, ◌≤◌, max, List, [], ◌∷◌, ◌++◌, length, sym, refl, ap, ◌∙◌, subst, arith, append_assoc, append-nil}
use Rattle.std.proofs.lemmas.List.{length_push}
use Rattle.slots.specs.declared.words_kept.step.SlotKind.TheVariants.{Create, Raise, Release}
use Rattle.slots.specs.declared.words_kept.step.SlotStep.{SlotStep}
use Rattle.slots.specs.declared.words_kept.step.SeatView.{SeatView}
use Rattle.slots.specs.Standings.{held_by}
use Rattle.slots.specs.Facts.{Facts, facts, facts_after}
use Rattle.slots.specs.Rule.{StandsAs, slot_step, with_step}
use Rattle.slots.specs.Seats.{Did, DidAt, with_steps, steps_past, AreTaken, Created, Made}
use Rattle.slots.proofs.Facts.{facts_here, facts_there}

passed_snoc : (i : ℕ) (xs : List ℕ) (x : ℕ) → steps_past i (xs ++ x ∷ []) ≡ steps_past i xs ++ slot_step Create (i + length xs) x x ∷ []
passed_snoc i [] x = ap (λ (p : ℕ). slot_step Create p x x ∷ []) (omega arith)
passed_snoc i (y ∷ ys) x = ap (λ (l : List SlotStep). slot_step Create i y y ∷ l) (passed_snoc (suc i) ys x ∙ ap (λ (p : ℕ). steps_past (suc i) ys ++ slot_step Create p x x ∷ []) (omega arith))

taken_snoc : (v : SeatView) (i : ℕ) (xs : List ℕ) (x : ℕ) → AreTaken v i xs → (x ≡ 0 → ⊥) → StandsAs v (i + length xs) x → AreTaken v i (xs ++ x ∷ [])
taken_snoc v i [] x all not stands = (not, subst (λ (p : ℕ). StandsAs v p x) (omega arith) stands, tt)
taken_snoc v i (y ∷ ys) x all not stands = (all.0, all.1, taken_snoc v (suc i) ys x all.2 not (subst (λ (p : ℕ). StandsAs v p x) (omega arith) stands))

-- the steps at lower places say nothing of a higher one
facts_passed : (q i : ℕ) (xs : List ℕ) (ss : List SlotStep) → i + length xs ≤ q → facts q (ss ++ steps_past i xs) ≡ facts q ss
facts_passed q i [] ss high = ap (facts q) (append-nil ss)
facts_passed q i (x ∷ xs) ss high = ap (facts q) (sym (append_assoc ss (slot_step Create i x x ∷ []) (steps_past (suc i) xs)))
    ∙ facts_passed q (suc i) xs (ss ++ slot_step Create i x x ∷ []) (omega arith) ∙ facts_there q ss (slot_step Create i x x) (λ e. omega arith)

stands_back : (v w : SeatView) (p x : ℕ) → facts p w.steps ≡ facts p v.steps → w.number ≡ v.number → w.seats ≡ v.seats → StandsAs w p x → StandsAs v p x
stands_back v w p x e n c s = record {
  named = λ h. s.named (ap (λ (f : Facts). f.held) e ∙ h) ∙ ap held_by n;
  held = λ h. sym (ap (λ (f : Facts). f.held) e) ∙ s.held (h ∙ ap held_by (sym n));
  stays = λ h. s.stays (ap (λ (f : Facts). f.gone) e ∙ h);
  alone = λ h low. s.alone (c ∙ h) low ∙ ap (λ (f : Facts). f.state) e;
}

-- after n places, each of which was found taken
pub record Passed (old : SeatView) (n : ℕ) (now : SeatView) : Type 0 where
  pub founds : List ℕ
  pub count : length founds ≡ n
  pub taken : AreTaken old 0 founds
  pub steps : now ≡ with_steps old (steps_past 0 founds)

pub none_passed : (v : SeatView) → Passed v 0 v
none_passed v = record { founds = []; count = refl; taken = tt; steps = ap (λ (l : List SlotStep). record { number = v.number; seats = v.seats; steps = l }) (sym (append-nil v.steps)) }

module _ (v : SeatView) (n : ℕ) (u : SeatView) (so_far : Passed v n u) where
  same_facts : facts n u.steps ≡ facts n v.steps
  same_facts = let c = so_far.count in ap (λ (w : SeatView). facts n w.steps) so_far.steps ∙ facts_passed n 0 so_far.founds v.steps (omega arith)

  same_number : u.number ≡ v.number
  same_number = ap (λ (w : SeatView). w.number) so_far.steps

  same_seats : u.seats ≡ v.seats
  same_seats = ap (λ (w : SeatView). w.seats) so_far.steps

  pub one_passed : (w : SeatView) (x : ℕ) → (x ≡ 0 → ⊥) → Did Create n x x u w → Passed v (suc n) w
  one_passed w x not did = let c = so_far.count in let at : 0 + length so_far.founds ≡ n = omega (arith, c) in record {
    founds = so_far.founds ++ x ∷ [];
    count = let l = length_push so_far.founds x in omega arith;
    taken = taken_snoc v 0 so_far.founds x so_far.taken not (subst (λ (p : ℕ). StandsAs v p x) (sym at) (stands_back v u n x same_facts same_number same_seats did.1));
    steps = did.0 ∙ ap (λ (z : SeatView). with_step z (slot_step Create n x x)) so_far.steps
        ∙ ap (λ (l : List SlotStep). record { number = v.number; seats = v.seats; steps = l })
        (append_assoc v.steps (steps_past 0 so_far.founds) (slot_step Create n x x ∷ [])
        ∙ ap (λ (l : List SlotStep). v.steps ++ l) (ap (λ (p : ℕ). steps_past 0 so_far.founds ++ slot_step Create p x x ∷ []) (sym at) ∙ sym (passed_snoc 0 so_far.founds x)));
  }

  pub one_created : (a b w : SeatView) (found position to : ℕ) → Did Create n 0 (held_by u.number) u a → to ≡ max found position → DidAt Raise n found to a b
      → w ≡ with_step b (slot_step Release n (held_by b.number) 1) → Created v position n w
  one_created a b w found position to did is raised released = record {
    founds = so_far.founds;
    count = so_far.count;
    taken = so_far.taken;
    never = never;
    found = found;
    follows = record {
      above = subst (λ (f : Facts). f.top ≤ found) created_facts raised.1.above;
      last = λ h. let held = never.named h in absurd (omega arith);
      alone = λ one low. raised.1.alone (ap (λ (z : SeatView). z.seats) did.0 ∙ same_seats ∙ one) low ∙ ap (λ (f : Facts). f.position) created_facts;
    };
    steps = released ∙ ap (λ (z : SeatView). with_step z (slot_step Release n (held_by z.number) 1)) (raised.0 ∙ ap (λ (t : ℕ). with_step a (slot_step Raise n found t)) is)
        ∙ ap (λ (z : SeatView). with_step (with_step z (slot_step Raise n found (max found position))) (slot_step Release n (held_by z.number) 1)) did.0
        ∙ ap (λ (z : SeatView). with_step (with_step (with_step z (slot_step Create n 0 (held_by z.number))) (slot_step Raise n found (max found position))) (slot_step Release n (held_by z.number) 1)) so_far.steps
        ∙ ap (λ (l : List SlotStep). record { number = v.number; seats = v.seats; steps = l }) (three v.steps (steps_past 0 so_far.founds) _ _ _);
  }
    where
      never : StandsAs v n 0
      never = stands_back v u n 0 same_facts same_number same_seats did.1

      created_facts : facts n a.steps ≡ facts_after (slot_step Create n 0 (held_by u.number)) (facts n v.steps)
      created_facts = ap (λ (z : SeatView). facts n z.steps) did.0 ∙ facts_here n u.steps (slot_step Create n 0 (held_by u.number)) refl ∙ ap (facts_after (slot_step Create n 0 (held_by u.number))) same_facts

      three : (ss ps : List SlotStep) (x y z : SlotStep) → (((ss ++ ps) ++ x ∷ []) ++ y ∷ []) ++ z ∷ [] ≡ ss ++ (ps ++ x ∷ y ∷ z ∷ [])
      three ss ps x y z = append_assoc ((ss ++ ps) ++ x ∷ []) (y ∷ []) (z ∷ []) ∙ append_assoc (ss ++ ps) (x ∷ []) (y ∷ z ∷ []) ∙ append_assoc ss ps (x ∷ y ∷ z ∷ [])

-- one place was taken, raised and released
pub one_made : (u a b w : SeatView) (n found position to : ℕ) → Did Create n 0 (held_by u.number) u a → to ≡ max found position → DidAt Raise n found to a b
    → w ≡ with_step b (slot_step Release n (held_by b.number) 1) → Made u position n w
one_made u a b w n found position to did is raised released = record {
  never = did.1;
  found = found;
  follows = record {
    above = subst (λ (f : Facts). f.top ≤ found) created_facts raised.1.above;
    last = λ h. let held = did.1.named h in absurd (omega (arith, held));
    alone = λ one low. raised.1.alone (ap (λ (z : SeatView). z.seats) did.0 ∙ one) low ∙ ap (λ (f : Facts). f.position) created_facts;
  };
  steps = released ∙ ap (λ (z : SeatView). with_step z (slot_step Release n (held_by z.number) 1)) (raised.0 ∙ ap (λ (t : ℕ). with_step a (slot_step Raise n found t)) is)
      ∙ ap (λ (z : SeatView). with_step (with_step z (slot_step Raise n found (max found position))) (slot_step Release n (held_by z.number) 1)) did.0
      ∙ ap (λ (l : List SlotStep). record { number = u.number; seats = u.seats; steps = l }) (two u.steps _ _ _);
}
  where
    created_facts : facts n a.steps ≡ facts_after (slot_step Create n 0 (held_by u.number)) (facts n u.steps)
    created_facts = ap (λ (z : SeatView). facts n z.steps) did.0 ∙ facts_here n u.steps (slot_step Create n 0 (held_by u.number)) refl

    two : (ss : List SlotStep) (x y z : SlotStep) → ((ss ++ x ∷ []) ++ y ∷ []) ++ z ∷ [] ≡ ss ++ (x ∷ y ∷ z ∷ [])
    two ss x y z = append_assoc (ss ++ x ∷ []) (y ∷ []) (z ∷ []) ∙ append_assoc ss (x ∷ []) (y ∷ z ∷ [])
