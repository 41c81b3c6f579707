-- What a create at a table's only seat leaves: it takes the place after those that were made.
use Rattle.std.proofs.Common.{◌≡◌, ℕ, zero, suc, ◌+◌, ◌<◌, ◌≤◌, max, Bool, ◌||◌, List, [], ◌∷◌, ◌++◌, length, refl, sym, ap, subst, ◌∙◌, arith, append_assoc, append-nil, ⊎_elim, ne_eqb}
use Rattle.std.proofs.lemmas.Bool.{cases_eq, cases_lt}
use Rattle.slots.specs.declared.words_kept.step.SlotKind.TheVariants.{Create, Raise, Release}
use Rattle.slots.specs.declared.words_kept.step.SlotStep.{SlotStep}
use Rattle.slots.specs.declared.words_kept.step.SeatView.{SeatView}
use Rattle.slots.specs.Facts.{Facts, facts, facts_after}
use Rattle.slots.specs.Rule.{slot_step}
use Rattle.slots.specs.Seats.{AreTaken, Created, NoneLeft, steps_past}
use Rattle.slots.specs.Standings.{held_by}
use Rattle.slots.proofs.Facts.{facts_here, facts_there}
use Rattle.slots.specs.declared.by_name.slot.Slot.{Slot}
use Rattle.slots.specs.Keeping.{StandsIn}
use Rattle.slots.proofs.NamedFacts.{Alike, Changes, alike, alike_then}
use Rattle.slots.proofs.NamedStanding.{used_made}

module _ (v : SeatView) (one : v.seats ≡ 1) where
  -- places that were found taken are as they were
  taken_step : (i x : ℕ) (ss : List SlotStep) → (x ≡ 0 → ⊥) → x ≡ (facts i v.steps).state → ((q : ℕ) → Alike (facts q v.steps) (facts q ss))
      → (q : ℕ) → Alike (facts q v.steps) (facts q (ss ++ slot_step Create i x x ∷ []))
  taken_step i x ss not is all q = ⊎_elim
      (λ e. subst (λ (r : ℕ). Alike (facts r v.steps) (facts r (ss ++ slot_step Create i x x ∷ []))) (sym e)
      (alike_then (facts i v.steps) (facts_after (slot_step Create i x x) (facts i ss)) (facts i (ss ++ slot_step Create i x x ∷ []))
      (record { state = is; position = (all i).position; held = ap (λ (b : Bool). b || (facts i ss).held) (ne_eqb x 0 not) ∙ (all i).held })
      (alike _ _ (facts_here i ss (slot_step Create i x x) refl))))
      (λ n. alike_then (facts q v.steps) (facts q ss) (facts q (ss ++ slot_step Create i x x ∷ [])) (all q) (alike _ _ (facts_there q ss (slot_step Create i x x) (λ e. n (sym e)))))
      (cases_eq q i)

  passed_from : (i : ℕ) (xs : List ℕ) (ss : List SlotStep) → i + length xs ≤ 1024 → AreTaken v i xs → ((q : ℕ) → Alike (facts q v.steps) (facts q ss)) → (q : ℕ) → Alike (facts q v.steps) (facts q (ss ++ steps_past i xs))
  passed_from i [] ss few taken all q = subst (λ (l : List SlotStep). Alike (facts q v.steps) (facts q l)) (sym (append-nil ss)) (all q)
  passed_from i (x ∷ xs) ss few taken all q = subst (λ (l : List SlotStep). Alike (facts q v.steps) (facts q l)) (append_assoc ss (slot_step Create i x x ∷ []) (steps_past (suc i) xs))
      (passed_from (suc i) xs (ss ++ slot_step Create i x x ∷ []) (omega (arith, few)) taken.2 (taken_step i x ss taken.0 (taken.1.alone one (omega (arith, few))) all) q)

  pub passed_alike : (xs : List ℕ) → length xs ≤ 1024 → AreTaken v 0 xs → (q : ℕ) → Alike (facts q v.steps) (facts q (v.steps ++ steps_past 0 xs))
  passed_alike xs few taken = passed_from 0 xs v.steps (omega (arith, few)) taken (λ q. alike _ _ refl)

  taken_from : (i : ℕ) (xs : List ℕ) → i + length xs ≤ 1024 → AreTaken v i xs → (k : ℕ) → k < length xs → (facts (i + k) v.steps).state ≡ 0 → ⊥
  taken_from i [] few taken k low zero_there = omega (arith, low)
  taken_from i (x ∷ xs) few taken zero low zero_there = taken.0 (taken.1.alone one (omega (arith, few)) ∙ ap (λ (r : ℕ). (facts r v.steps).state) (let e : i ≡ i + 0 = omega arith in e) ∙ zero_there)
  taken_from i (x ∷ xs) few taken (suc k) low zero_there = taken_from (suc i) xs (omega (arith, few)) taken.2 k (omega (arith, low)) (ap (λ (r : ℕ). (facts r v.steps).state) (let e : suc i + k ≡ i + suc k = omega arith in e) ∙ zero_there)

  pub was_taken : (xs : List ℕ) → length xs ≤ 1024 → AreTaken v 0 xs → (k : ℕ) → k < length xs → (facts k v.steps).state ≡ 0 → ⊥
  was_taken xs few taken k low zero_there = taken_from 0 xs (omega (arith, few)) taken k low (ap (λ (r : ℕ). (facts r v.steps).state) (let e : 0 + k ≡ k = omega arith in e) ∙ zero_there)

module _ (v w : SeatView) (position p : ℕ) (ss : List Slot) (places : ℕ) (stands : StandsIn v ss places) (within : p < 16) (made : Created v position p w) where
  few : length made.founds ≤ 1024
  few = let n = made.count in omega (arith, n, within)

  -- the place is the first one that was never made
  pub is_next : p ≡ places
  is_next = ⊎_elim
      (λ low. absurd (used_made v ss places stands p low (sym (made.never.alone stands.alone (omega (arith, within))))))
      (λ high. ⊎_elim
      (λ more. let n = made.count in absurd (was_taken v stands.alone made.founds few made.taken places (omega (arith, n, more)) (stands.unused places (let e : places ≤ places = omega arith in e)).0))
      (λ less. omega (arith, high, less))
      (cases_lt places p))
      (cases_lt p places)

  abbrev pub take : SlotStep
  take = slot_step Create p 0 (held_by v.number)

  abbrev pub raise : SlotStep
  raise = slot_step Raise p made.found (max made.found position)

  abbrev pub let_go : SlotStep
  let_go = slot_step Release p (held_by v.number) 1

  abbrev pub before : List SlotStep
  before = v.steps ++ steps_past 0 made.founds

  abbrev pub left : Facts
  left = facts_after let_go (facts_after raise (facts_after take (facts p before)))

  all_steps : w.steps ≡ ((before ++ take ∷ []) ++ raise ∷ []) ++ let_go ∷ []
  all_steps = ap (λ (z : SeatView). z.steps) made.steps
      ∙ sym (append_assoc (before ++ take ∷ []) (raise ∷ []) (let_go ∷ []) ∙ append_assoc before (take ∷ []) (raise ∷ let_go ∷ []) ∙ append_assoc v.steps (steps_past 0 made.founds) (take ∷ raise ∷ let_go ∷ []))

  pub created_changes : Changes v w p left
  created_changes = record {
    number = ap (λ (z : SeatView). z.number) made.steps;
    seats = ap (λ (z : SeatView). z.seats) made.steps;
    here = alike _ _ (ap (facts p) all_steps ∙ facts_here p ((before ++ take ∷ []) ++ raise ∷ []) let_go refl
        ∙ ap (facts_after let_go) (facts_here p (before ++ take ∷ []) raise refl ∙ ap (facts_after raise) (facts_here p before take refl)));
    there = λ q not. alike_then (facts q v.steps) (facts q before) (facts q w.steps) (passed_alike v stands.alone made.founds few made.taken q)
        (alike _ _ (ap (facts q) all_steps ∙ facts_there q ((before ++ take ∷ []) ++ raise ∷ []) let_go (λ e. not (sym e))
        ∙ facts_there q (before ++ take ∷ []) raise (λ e. not (sym e)) ∙ facts_there q before take (λ e. not (sym e))));
  }

  pub left_position : left.position ≡ position
  left_position = let e = made.follows.alone stands.alone (omega (arith, within)) in let u = (stands.unused p (let n = is_next in omega (arith, n))).1 in omega (arith, e, u)

pub none_left : (v w : SeatView) (ss : List Slot) (places : ℕ) → StandsIn v ss places → NoneLeft v w → places ≡ 16
none_left v w ss places stands none = ⊎_elim
    (λ low. let n = none.count in absurd (was_taken v stands.alone none.founds (omega (arith, n)) none.taken places (omega (arith, n, low)) (stands.unused places (let e : places ≤ places = omega arith in e)).0))
    (λ high. let f = stands.few in omega (arith, high, f))
    (cases_lt places 16)

pub none_same : (v w : SeatView) (ss : List Slot) (places : ℕ) → StandsIn v ss places → NoneLeft v w → (q : ℕ) → Alike (facts q v.steps) (facts q w.steps)
none_same v w ss places stands none q = subst (λ (l : List SlotStep). Alike (facts q v.steps) (facts q l)) (sym (ap (λ (z : SeatView). z.steps) none.steps)) (passed_alike v stands.alone none.founds (let n = none.count in omega (arith, n)) none.taken q)
