-- What a start is judged by tells its refusal, the first in the order in which a beginning asks.
use Rattle.std.proofs.Common.{◌≡◌, ◌+◌, ℕ, Bool, true, false, cond, eqb, List, Option, Some, None, refl, sym, ap, ◌∙◌, ⊎_elim, arith, eq-eqb, ne_eqb}
use Rattle.std.specs.Prelude.{◌==◌, Result, Ok, Err, not}
use Rattle.std.proofs.lemmas.Bool.{cases_eq}
use Rattle.publication_config.specs.declared.fault.PubFault.{PubFault}
use Rattle.publication_config.specs.declared.fault.PubFault.TheVariants as pubs
use Rattle.publication.specs.Publications.{PublicationSet}
use Rattle.publication.specs.Choosing.{conflicts, is_unknown, judgement_of_names, selected_publications}
use Rattle.slots.specs.declared.fault.SlotFault.TheVariants as slot_faults
use Rattle.world.specs.declared.printed.answer.Answer.{Answer}
use Rattle.world.specs.declared.printed.answer.Answer.TheVariants as answers
use Rattle.walsender.specs.declared.beginning.StartFault.{StartFault}
use Rattle.walsender.specs.declared.beginning.StartFault.TheVariants as faults
use Rattle.walsender.specs.Beginning.{AreAsked, fault_of, questions}
use Rattle.slots.specs.State.{SlotsState}
use Rattle.slots.specs.Words.{is_held, is_missing, slot_named}
use Rattle.world.specs.Start.{running_count}
use Rattle.world.specs.declared.limits.TheConstants.{MAX_SENDERS}
use Rattle.world.specs.declared.stepping.starting.StartFacts.{StartFacts}
use Rattle.world.specs.State.{WorldState}
use Rattle.world.specs.Starting.{Told, if_held}
use Rattle.world.specs.ConnectionLines.{start_refusal}

abbrev pub answer_by : Result (Unit {0}) StartFault → Option Answer
answer_by (Ok done) = None
answer_by (Err faults.NoSlot) = Some (answers.Slot slot_faults.Missing)
answer_by (Err (faults.Publication fault)) = Some (answers.Publication fault)
answer_by (Err faults.NoReader) = Some answers.NoReader
answer_by (Err (faults.Claim fault)) = Some (answers.Slot slot_faults.InUse)

abbrev refusal_by : Bool → Result (Unit {0}) PubFault → Bool → Bool → Option Answer
refusal_by true judged has_reader held = Some (answers.Slot slot_faults.Missing)
refusal_by false (Err fault) has_reader held = Some (answers.Publication fault)
refusal_by false (Ok done) false held = Some answers.NoReader
refusal_by false (Ok done) true true = Some (answers.Slot slot_faults.InUse)
refusal_by false (Ok done) true false = None

-- ---- What each question tells.

absent : (missing : Bool) (j : Result (Unit {0}) PubFault) (r h : Bool) → false ≡ not missing → Some (answers.Slot slot_faults.Missing) ≡ refusal_by missing j r h
absent true j r h e = refl
absent false j r h e = let never : false ≡ true = e in cc

unfit : (missing : Bool) (j : Result (Unit {0}) PubFault) (r h : Bool) (fault : PubFault) → true ≡ not missing → Some fault ≡ fault_of j → Some (answers.Publication fault) ≡ refusal_by missing j r h
unfit true j r h fault e f = let never : true ≡ false = e in cc
unfit false (Ok done) r h fault e f = let never : Option.Some fault ≡ Option.None = f in cc
unfit false (Err other) r h fault e f = let same : Option.Some fault ≡ Option.Some other = f in cc

crowded : (missing : Bool) (j : Result (Unit {0}) PubFault) (r h : Bool) → true ≡ not missing → None ≡ fault_of j → false ≡ r → Some answers.NoReader ≡ refusal_by missing j r h
crowded true j r h e f g = let never : true ≡ false = e in cc
crowded false (Ok done) false h e f g = refl
crowded false (Ok done) true h e f g = let never : false ≡ true = g in cc
crowded false (Err other) r h e f g = let never : Option.None ≡ Option.Some other = f in cc

taken_already : (missing : Bool) (j : Result (Unit {0}) PubFault) (r h : Bool) → true ≡ not missing → None ≡ fault_of j → true ≡ r → true ≡ h → Some (answers.Slot slot_faults.InUse) ≡ refusal_by missing j r h
taken_already true j r h e f g k = let never : true ≡ false = e in cc
taken_already false (Ok done) false h e f g k = let never : true ≡ false = g in cc
taken_already false (Ok done) true true e f g k = refl
taken_already false (Ok done) true false e f g k = let never : true ≡ false = k in cc
taken_already false (Err other) r h e f g k = let never : Option.None ≡ Option.Some other = f in cc

let_in : (missing : Bool) (j : Result (Unit {0}) PubFault) (r h : Bool) → true ≡ not missing → None ≡ fault_of j → true ≡ r → false ≡ h → None ≡ refusal_by missing j r h
let_in true j r h e f g k = let never : true ≡ false = e in cc
let_in false (Ok done) false h e f g k = let never : true ≡ false = g in cc
let_in false (Ok done) true true e f g k = let never : false ≡ true = k in cc
let_in false (Ok done) true false e f g k = refl
let_in false (Err other) r h e f g k = let never : Option.None ≡ Option.Some other = f in cc

if_free : (h : Bool) → None ≡ if_held h → false ≡ h
if_free true e = let never : Option.None ≡ if_held true = e in cc
if_free false e = refl

if_used : {fault : _} (h : Bool) → Some fault ≡ if_held h → true ≡ h
if_used true e = refl
if_used {fault} false e = let never : Option.Some fault ≡ Option.None = e in cc

-- ---- One after the other.

module _ {L : Type 0} (f new : StartFacts L) where
  abbrev pub missing : StartFacts L → Bool
  missing g = is_missing (slot_named g.slot.now) g.slots.now

  abbrev pub agree : StartFacts L → Result (Unit {0}) PubFault
  agree g = judgement_of_names g.publications.now g.names.now

  abbrev pub held : StartFacts L → Bool
  held g = is_held (slot_named g.slot.now) g.slots.now

  pub first_refusal : (r : Result (Unit {0}) StartFault) → AreAsked Told f (questions r) new → answer_by r ≡ refusal_by (missing f) (agree f) f.has_reader (held f)
  first_refusal (Ok done) a =
      let one = a.1.0 in
      let two = a.2.1.0 ∙ one in
      let three = a.2.2.1.0 ∙ two in
      let_in (missing f) (agree f) f.has_reader (held f) a.1.1 (a.2.1.1 ∙ ap (λ (g : StartFacts L). fault_of (agree g)) one) (a.2.2.1.1 ∙ ap (λ (g : StartFacts L). g.has_reader) two)
      (if_free (held f) (a.2.2.2.1.1 ∙ ap (λ (g : StartFacts L). if_held (held g)) three))
  first_refusal (Err faults.NoSlot) a = absent (missing f) (agree f) f.has_reader (held f) a.1.1
  first_refusal (Err (faults.Publication fault)) a = unfit (missing f) (agree f) f.has_reader (held f) fault a.1.1 (a.2.1.1 ∙ ap (λ (g : StartFacts L). fault_of (agree g)) a.1.0)
  first_refusal (Err faults.NoReader) a =
      let one = a.1.0 in
      let two = a.2.1.0 ∙ one in
      crowded (missing f) (agree f) f.has_reader (held f) a.1.1 (a.2.1.1 ∙ ap (λ (g : StartFacts L). fault_of (agree g)) one) (a.2.2.1.1 ∙ ap (λ (g : StartFacts L). g.has_reader) two)
  first_refusal (Err (faults.Claim fault)) a =
      let one = a.1.0 in
      let two = a.2.1.0 ∙ one in
      let three = a.2.2.1.0 ∙ two in
      taken_already (missing f) (agree f) f.has_reader (held f) a.1.1 (a.2.1.1 ∙ ap (λ (g : StartFacts L). fault_of (agree g)) one) (a.2.2.1.1 ∙ ap (λ (g : StartFacts L). g.has_reader) two)
      (if_used (held f) (a.2.2.2.1.1 ∙ ap (λ (g : StartFacts L). if_held (held g)) three))

-- ---- The same in the words of the world.

pub as_judged : (slot : Option (List ℕ)) (names : List (List ℕ)) (w : WorldState)
    → refusal_by (is_missing slot w.slots) (judgement_of_names w.publications names) (not (running_count w.starts == MAX_SENDERS)) (is_held slot w.slots) ≡ start_refusal slot names w
as_judged slot names w = by_tests (is_missing slot w.slots) (is_unknown w.publications names) (conflicts (selected_publications w.publications names).publications) (running_count w.starts == MAX_SENDERS) (is_held slot w.slots)
  where
    by_tests : (m u c n h : Bool) → refusal_by m (cond u (Err pubs.Unknown) (cond c (Err pubs.ListConflict) (Ok tt))) (not n) h
        ≡ cond m (Some (answers.Slot slot_faults.Missing)) (cond u (Some (answers.Publication pubs.Unknown)) (cond c (Some (answers.Publication pubs.ListConflict)) (cond n (Some answers.NoReader) (cond h (Some (answers.Slot slot_faults.InUse)) None))))
    by_tests true u c n h = refl
    by_tests false true c n h = refl
    by_tests false false true n h = refl
    by_tests false false false true h = refl
    by_tests false false false false true = refl
    by_tests false false false false false = refl

-- where the pool and the open starts have all readers, the one is empty where the others have them all
none_left : (a b n : ℕ) → a + b ≡ n → eqb a 0 ≡ eqb b n
none_left a b n all = ⊎_elim
    (λ none. let whole : b ≡ n = omega (arith, all, none) in eq-eqb a 0 none ∙ sym (eq-eqb b n whole))
    (λ some. ne_eqb a 0 some ∙ sym (ne_eqb b n (λ whole. let none : a ≡ 0 = omega (arith, all, whole) in some none)))
    (cases_eq a 0)

pub told_refusal : {L : Type 0} (f new : StartFacts L) (w : WorldState) (readers : ℕ) (r : Result (Unit {0}) StartFault) → AreAsked Told f (questions r) new
    → f.publications.now ≡ w.publications → f.slots.now ≡ w.slots → f.has_reader ≡ not (readers == 0) → readers + running_count w.starts ≡ MAX_SENDERS
    → answer_by r ≡ start_refusal (slot_named f.slot.now) f.names.now w
told_refusal f new w readers r asked publications_is slots_is has all =
    let slot = slot_named f.slot.now in
    let has_is : f.has_reader ≡ not (running_count w.starts == MAX_SENDERS) = has ∙ ap not (none_left readers (running_count w.starts) MAX_SENDERS all) in
    first_refusal f new r asked
    ∙ ap (λ (s : SlotsState). refusal_by (is_missing slot s) (judgement_of_names f.publications.now f.names.now) f.has_reader (is_held slot s)) slots_is
    ∙ ap (λ (p : PublicationSet). refusal_by (is_missing slot w.slots) (judgement_of_names p f.names.now) f.has_reader (is_held slot w.slots)) publications_is
    ∙ ap (λ (has : Bool). refusal_by (is_missing slot w.slots) (judgement_of_names w.publications f.names.now) has (is_held slot w.slots)) has_is
    ∙ as_judged slot f.names.now w

-- ---- What a start isn't refused by.

passed : {A : Type 0} (b : Bool) (x : A) (rest : Option A) → cond b (Some x) rest ≡ None → (b ≡ false) × (rest ≡ None)
passed true x rest e = let never : Option.Some x ≡ Option.None = e in absurd cc
passed false x rest e = (refl, e)

pub record MayStart (slot : Option (List ℕ)) (names : List (List ℕ)) (w : WorldState) : Type 0 where
  pub there : is_missing slot w.slots ≡ false
  pub known : is_unknown w.publications names ≡ false
  pub agree : conflicts (selected_publications w.publications names).publications ≡ false
  pub reader : (running_count w.starts == MAX_SENDERS) ≡ false
  pub free : is_held slot w.slots ≡ false

pub may_start : (slot : Option (List ℕ)) (names : List (List ℕ)) (w : WorldState) → start_refusal slot names w ≡ None → MayStart slot names w
may_start slot names w none =
    let one = passed (is_missing slot w.slots) (answers.Slot slot_faults.Missing) _ none in
    let two = passed (is_unknown w.publications names) (answers.Publication pubs.Unknown) _ one.1 in
    let three = passed (conflicts (selected_publications w.publications names).publications) (answers.Publication pubs.ListConflict) _ two.1 in
    let four = passed (running_count w.starts == MAX_SENDERS) answers.NoReader _ three.1 in
    let five = passed (is_held slot w.slots) (answers.Slot slot_faults.InUse) None four.1 in
    record { there = one.0; known = two.0; agree = three.0; reader = four.0; free = five.0 }
