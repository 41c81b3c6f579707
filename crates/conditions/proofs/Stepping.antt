-- What the steps of a condition come to is the condition.
use Rattle.std.proofs.Common.{◌≡◌, ℕ, suc, ◌+◌, ◌-◌, ◌<◌, ◌≤◌, Bool, true, false, ◌&&◌, ◌||◌, List, [], ◌∷◌, ◌++◌, ◌==◌, length, map, take, drop, get_or, drop-cons, append_assoc, refl, sym, ap, subst, ◌∙◌, arith, length-append}
use Rattle.std.specs.Prelude.{reverse, if◌then◌else◌}
use Rattle.std.proofs.lemmas.List.{length-map, length-reverse, length-take-le, map-append, reverse-append, take-append-drop}
use Rattle.std.proofs.lemmas.Bool.{le-ltb, lt-ltb}
use Rattle.tables.specs.declared.kinds.Value.{Value}
use Rattle.conditions.specs.declared.flat.step.Step.{Step}
use Rattle.conditions.specs.Conditions.{Condition, Column, Literal, Compare, Is, Not, And, Or}
use Rattle.conditions.specs.Steps.{Turn, AreStepsOf, LeadDown, condition_asked, next_number, outcome, turn_of, turns, turns_of, highest_number}
use Rattle.conditions.specs.Truth.{is_true, truth}
use Rattle.conditions.proofs.Truths.{true_of_both, true_of_either, truth_again}

-- ---- any steps
module _ (answers : Condition → Bool) where
  -- the uppermost is asked
  asked : (next : ℕ) (turn : Turn) (below : List Turn) → highest_number below < next → outcome answers next (turn ∷ below) ≡ outcome answers (next_number (answers turn.asked) turn) below
  asked next turn below h = rw (lt-ltb (highest_number below) next h) refl

  -- those above the next are not
  passed : (next : ℕ) (above below : List Turn) → next ≤ highest_number below → outcome answers next (above ++ below) ≡ outcome answers next below
  passed next [] below h = refl
  passed next (turn ∷ above) below h = rw (le-ltb (highest_number (above ++ below)) next (omega (arith, length-append above below, h))) (passed next above below h)

  -- nothing is next
  pub ended : (next : ℕ) (ts : List Turn) → next ≤ 1 → outcome answers next ts ≡ (next == 1)
  ended next [] h = refl
  ended next (turn ∷ below) h = rw (le-ltb (highest_number below) next (omega (arith, h))) (ended next below h)

-- ---- steps of a condition
longer : (c : Condition) (m n : ℕ) (below : List Turn) → length below ≤ length (turns_of c m n below)
longer (Column place) m n below = omega arith
longer (Literal datum) m n below = omega arith
longer (Compare how a b) m n below = omega arith
longer (Is question negated a) m n below = omega arith
longer (Not a) m n below = omega arith
longer (And a b) m n below =
    let others = turns_of b m n below in
    omega (arith, longer b m n below, longer a (highest_number others) n others)
longer (Or a b) m n below =
    let others = turns_of b m n below in
    omega (arith, longer b m n below, longer a m (highest_number others) others)

passed_all : (answers : Condition → Bool) (next : ℕ) (c : Condition) (m n : ℕ) (below : List Turn) → next ≤ highest_number below
    → outcome answers next (turns_of c m n below) ≡ outcome answers next below
passed_all answers next (Column place) m n below h = passed answers next (record { asked = Column place; next_if_true = m; next_if_not = n } ∷ []) below h
passed_all answers next (Literal datum) m n below h = passed answers next (record { asked = Literal datum; next_if_true = m; next_if_not = n } ∷ []) below h
passed_all answers next (Compare how d e) m n below h = passed answers next (record { asked = Compare how d e; next_if_true = m; next_if_not = n } ∷ []) below h
passed_all answers next (Is question negated d) m n below h = passed answers next (record { asked = Is question negated d; next_if_true = m; next_if_not = n } ∷ []) below h
passed_all answers next (Not d) m n below h = passed answers next (record { asked = Not d; next_if_true = m; next_if_not = n } ∷ []) below h
passed_all answers next (And d e) m n below h =
    let others = turns_of e m n below in
    passed_all answers next d (highest_number others) n others (omega (arith, h, longer e m n below)) ∙ passed_all answers next e m n below h
passed_all answers next (Or d e) m n below h =
    let others = turns_of e m n below in
    passed_all answers next d m (highest_number others) others (omega (arith, h, longer e m n below)) ∙ passed_all answers next e m n below h

-- they lead down
down : (c : Condition) (m n : ℕ) (below : List Turn) → m ≤ highest_number below → n ≤ highest_number below → LeadDown below → LeadDown (turns_of c m n below)
down (Column place) m n below h k lead = (h, k, lead)
down (Literal datum) m n below h k lead = (h, k, lead)
down (Compare how a b) m n below h k lead = (h, k, lead)
down (Is question negated a) m n below h k lead = (h, k, lead)
down (Not a) m n below h k lead = (h, k, lead)
down (And a b) m n below h k lead =
    let others = turns_of b m n below in
    down a (highest_number others) n others (omega arith) (omega (arith, k, longer b m n below)) (down b m n below h k lead)
down (Or a b) m n below h k lead =
    let others = turns_of b m n below in
    down a m (highest_number others) others (omega (arith, h, longer b m n below)) (omega arith) (down b m n below h k lead)

pub all_down : (steps : List Step) (c : Condition) → AreStepsOf steps c → LeadDown (turns steps)
all_down steps c are = subst LeadDown (sym are) (down c 1 0 [] (omega arith) (omega arith) tt)

-- ---- by the truth of conditions in a row
module _ (row : List Value) where
  abbrev holds : Condition → Bool
  holds c = is_true (truth c row)

  holds_both : (a b : Condition) → holds (And a b) ≡ (holds a && holds b)
  holds_both a b = ap is_true (truth_again _) ∙ true_of_both (truth a row) (truth b row)

  holds_either : (a b : Condition) → holds (Or a b) ≡ (holds a || holds b)
  holds_either a b = ap is_true (truth_again _) ∙ true_of_either (truth a row) (truth b row)

  -- where an AND goes on, by its sides
  led_both : (p q : Bool) (m n middle : ℕ) (others below : List Turn)
      → outcome holds middle others ≡ outcome holds (if q then m else n) below
      → outcome holds n others ≡ outcome holds n below
      → outcome holds (if p then middle else n) others ≡ outcome holds (if p && q then m else n) below
  led_both true q m n middle others below on past = on
  led_both false q m n middle others below on past = past

  led_either : (p q : Bool) (m n middle : ℕ) (others below : List Turn)
      → outcome holds middle others ≡ outcome holds (if q then m else n) below
      → outcome holds m others ≡ outcome holds m below
      → outcome holds (if p then m else middle) others ≡ outcome holds (if p || q then m else n) below
  led_either true q m n middle others below on past = past
  led_either false q m n middle others below on past = on

  -- the steps of a condition lead on by what it is
  led : (c : Condition) (m n : ℕ) (below : List Turn) → m ≤ highest_number below → n ≤ highest_number below
      → outcome holds (highest_number (turns_of c m n below)) (turns_of c m n below) ≡ outcome holds (if holds c then m else n) below
  led (Column place) m n below h k = asked holds (suc (length below) + 1) (record { asked = Column place; next_if_true = m; next_if_not = n }) below (omega arith)
  led (Literal datum) m n below h k = asked holds (suc (length below) + 1) (record { asked = Literal datum; next_if_true = m; next_if_not = n }) below (omega arith)
  led (Compare how d e) m n below h k = asked holds (suc (length below) + 1) (record { asked = Compare how d e; next_if_true = m; next_if_not = n }) below (omega arith)
  led (Is question negated d) m n below h k = asked holds (suc (length below) + 1) (record { asked = Is question negated d; next_if_true = m; next_if_not = n }) below (omega arith)
  led (Not d) m n below h k = asked holds (suc (length below) + 1) (record { asked = Not d; next_if_true = m; next_if_not = n }) below (omega arith)
  led (And d e) m n below h k =
      let others = turns_of e m n below in
      led d (highest_number others) n others (omega arith) (omega (arith, k, longer e m n below))
      ∙ led_both (holds d) (holds e) m n (highest_number others) others below (led e m n below h k) (passed_all holds n e m n below k)
      ∙ ap (λ r. outcome holds (if r then m else n) below) (sym (holds_both d e))
  led (Or d e) m n below h k =
      let others = turns_of e m n below in
      led d m (highest_number others) others (omega (arith, h, longer e m n below)) (omega arith)
      ∙ led_either (holds d) (holds e) m n (highest_number others) others below (led e m n below h k) (passed_all holds m e m n below h)
      ∙ ap (λ r. outcome holds (if r then m else n) below) (sym (holds_either d e))

-- ---- steps as they lie
pub pushed : (steps : List Step) (step : Step) → turns (steps ++ step ∷ []) ≡ turn_of step ∷ turns steps
pushed steps step = ap reverse (map-append turn_of steps (step ∷ [])) ∙ reverse-append (map turn_of steps) (turn_of step ∷ [])

pub count_of_turns : (steps : List Step) → length (turns steps) ≡ length steps
count_of_turns steps = length-reverse (map turn_of steps) ∙ length-map steps turn_of

-- those of two lists, one after the other
parted : (steps others : List Step) → turns (steps ++ others) ≡ turns others ++ turns steps
parted steps others = ap reverse (map-append turn_of steps others) ∙ reverse-append (map turn_of steps) (map turn_of others)

-- a step among others
laid : (steps : List Step) (k : ℕ) (step : Step) → k < length steps → step ≡ get_or steps k step → turns steps ≡ turns (drop (suc k) steps) ++ turn_of step ∷ turns (take k steps)
laid steps k step h is =
    let later = drop (suc k) steps in
    let cut : steps ≡ take k steps ++ step ∷ later = sym (take-append-drop k steps) ∙ ap (λ (rest : List Step). take k steps ++ rest) (drop-cons steps k step h ∙ ap (λ (s : Step). s ∷ later) (sym is)) in
    ap turns cut ∙ parted (take k steps) (step ∷ later) ∙ ap (λ (ts : List Turn). ts ++ turns (take k steps)) (parted (step ∷ []) later) ∙ append_assoc (turns later) (turn_of step ∷ []) (turns (take k steps))

down_below : (above below : List Turn) → LeadDown (above ++ below) → LeadDown below
down_below [] below lead = lead
down_below (turn ∷ above) below lead = down_below above below lead.2

next_down : (answer : Bool) (turn : Turn) (below : List Turn) → LeadDown (turn ∷ below) → next_number answer turn ≤ highest_number below
next_down true turn below lead = lead.0
next_down false turn below lead = lead.1

lower : (steps : List Step) (k : ℕ) (step : Step) (answer : Bool) → k < length steps → step ≡ get_or steps k step → LeadDown (turns steps) → next_number answer (turn_of step) ≤ k + 1
lower steps k step answer h is lead =
    let below = turns (take k steps) in
    let count : length below ≡ k = count_of_turns (take k steps) ∙ length-take-le k steps (omega (arith, h)) in
    let led_down = down_below (turns (drop (suc k) steps)) (turn_of step ∷ below) (subst LeadDown (laid steps k step h is) lead) in
    omega (arith, count, next_down answer (turn_of step) below led_down)

stepped : (answers : Condition → Bool) (steps : List Step) (k : ℕ) (step : Step) → k < length steps → step ≡ get_or steps k step → LeadDown (turns steps)
    → outcome answers (k + 2) (turns steps) ≡ outcome answers (next_number (answers (condition_asked step.asked)) (turn_of step)) (turns steps)
stepped answers steps k step h is lead =
    let above = turns (drop (suc k) steps) in
    let below = turns (take k steps) in
    let turn = turn_of step in
    let next = next_number (answers turn.asked) turn in
    let count : length below ≡ k = count_of_turns (take k steps) ∙ length-take-le k steps (omega (arith, h)) in
    let small = lower steps k step (answers turn.asked) h is lead in
    let as_laid = laid steps k step h is in
    ap (λ (ts : List Turn). outcome answers (k + 2) ts) as_laid
    ∙ passed answers (k + 2) above (turn ∷ below) (omega (arith, count))
    ∙ asked answers (k + 2) turn below (omega (arith, count))
    ∙ sym (passed answers next (turn ∷ []) below (omega (arith, count, small)))
    ∙ sym (passed answers next above (turn ∷ below) (omega (arith, count, small)))
    ∙ ap (λ (ts : List Turn). outcome answers next ts) (sym as_laid)

-- the step of a number, and which is next by its answer
pub next_lower : (steps : List Step) (from : ℕ) (step : Step) (answer : Bool) → 1 < from → from ≤ length steps + 1 → step ≡ get_or steps (from - 2) step → LeadDown (turns steps)
    → next_number answer (turn_of step) < from
next_lower steps from step answer h k is lead = omega (arith, h, lower steps (from - 2) step answer (omega (arith, h, k)) is lead)

pub next_same : (answers : Condition → Bool) (steps : List Step) (from : ℕ) (step : Step) (answer : Bool) → 1 < from → from ≤ length steps + 1 → step ≡ get_or steps (from - 2) step
    → LeadDown (turns steps) → answer ≡ answers (condition_asked step.asked)
    → outcome answers (next_number answer (turn_of step)) (turns steps) ≡ outcome answers from (turns steps)
next_same answers steps from step answer h k is lead e =
    let number : from - 2 + 2 ≡ from = omega (arith, h) in
    ap (λ (b : Bool). outcome answers (next_number b (turn_of step)) (turns steps)) e
    ∙ sym (stepped answers steps (from - 2) step (omega (arith, h, k)) is lead)
    ∙ ap (λ (n : ℕ). outcome answers n (turns steps)) number

told : (answer : Bool) → ((if answer then 1 else 0) == 1) ≡ answer
told true = refl
told false = refl

pub all_led : (row : List Value) (steps : List Step) (c : Condition) → AreStepsOf steps c → outcome (holds row) (length steps + 1) (turns steps) ≡ holds row c
all_led row steps c are =
    ap (λ (n : ℕ). outcome (holds row) (n + 1) (turns steps)) (sym (count_of_turns steps))
    ∙ ap (λ (ts : List Turn). outcome (holds row) (highest_number ts) ts) are
    ∙ led row c 1 0 [] (omega arith) (omega arith)
    ∙ told (holds row c)

pub ruleset stepping = (pushed, count_of_turns)
