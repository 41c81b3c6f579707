-- What a phrase comes to: its condition and levels exactly where it is within the limits, and read from the same words.
use Rattle.std.proofs.Common.{◌≡◌, ℕ, suc, max, nat_lt, ◌≤◌, ◌<◌, ℤ, pos, negsuc, ◌^◌, Bool, true, false, cond, List, [], ◌∷◌, map, Option, Some, None, Result, Ok, Err, FitsSigned, refl, sym, ap, subst, ◌∙◌, arith, lit≤}
use Rattle.std.proofs.lemmas.Bool.{ltb-true, ltb-false, lt-ltb}
use Rattle.std.specs.Prelude.{option_and_then, option_map}
use Rattle.std.specs.Int.{w64}
use Rattle.tables.specs.declared.column.Column.{Column as TableColumn}
use Rattle.conditions.specs.declared.fault.FilterFault.{FilterFault}
use Rattle.conditions.specs.declared.fault.FilterFault.TheVariants.{NumberRange, TooDeep}
use Rattle.conditions.specs.declared.trees.joint.Joint.TheVariants as joints
use Rattle.conditions.specs.Conditions.{Condition, Literal, Compare, Is, Not, And, Or, Number}
use Rattle.conditions.specs.Words.{Saying, SayAnd, SayOr, SayNot, SayIs, SayNull, SayBool, SayUnknown, SayName, SayNumber, SayText, SayComparison, SayOpen, SayClose}
use Rattle.conditions.specs.Grammar.{Phrase, InName, InUnknown, InNumber, InText, InBool, InNull, InParentheses, InCompare, InIs, InNot, InAnd, InOr, tightness, meaning_of, levels, IsInRange}
use Rattle.conditions.specs.Stacks.{binds, left_of, Word, Joins, Denies, Asks, Opens, Closes, Operand, Stray, Pending, Enclosing, Denying, Joining, wants, completed, State, Wanting, Having, Asking, wanted_by, folded, joins, asks, closes_over, ends_over, step, outcome, run, word_of}
use Rattle.conditions.specs.Parts.{phrases, leaf_of, Grown, raised, over, beside, parts, fits_64, integer_if, number_if, grown}

-- ---- within the limits

-- The condition with its levels where it is in range and has no more levels than it may, and else why there is none.
abbrev pub IsTree : Type 0 → ℕ → Condition → Result (Condition × ℕ) FilterFault → Type 0
IsTree R n c (Ok x) = (x.0 ≡ c) × (x.1 ≡ n) × (R × (n ≤ 64))
IsTree R n c (Err NumberRange) = R → ⊥
IsTree R n c (Err TooDeep) = R × (64 < n)
IsTree R n c (Err fault) = ⊥

raised_tree : (R : Type 0) (n : ℕ) (c : Condition) → R → IsTree R (suc n) c (raised c n)
raised_tree R n c range = by_test (nat_lt n 64) refl
  where
    by_test : (t : Bool) → nat_lt n 64 ≡ t → IsTree R (suc n) c (cond t (Ok (c, suc n)) (Err TooDeep))
    by_test true is = (refl, refl, (range, omega (arith, ltb-true n 64 is)))
    by_test false is = (range, omega (arith, ltb-false n 64 is))

over_tree : (make : Condition → Condition) (R : Type 0) (n : ℕ) (c : Condition) (t : Result (Condition × ℕ) FilterFault) → IsTree R n c t → IsTree R (suc n) (make c) (over make t)
over_tree make R n c (Ok x) tree =
    let P : Condition → ℕ → Type 0 = λ d m. IsTree R (suc n) (make c) (raised (make d) m) in
    let at_levels : P c x.1 = subst (λ (m : ℕ). P c m) (sym tree.1) (raised_tree R n (make c) tree.2.0) in
    subst (λ (d : Condition). P d x.1) (sym tree.0) at_levels
over_tree make R n c (Err NumberRange) tree = tree
over_tree make R n c (Err TooDeep) tree = (tree.0, omega (arith, tree.1))
over_tree make R n c (Err fault) tree = absurd tree

beside_tree : (make : Condition → Condition → Condition) (R S : Type 0) (m n : ℕ) (c d : Condition) (t u : Result (Condition × ℕ) FilterFault)
    → IsTree R m c t → IsTree S n d u → IsTree (R × S) (suc (max m n)) (make c d) (beside make t u)
beside_tree make R S m n c d (Ok x) (Ok y) left right =
    let P : Condition → Condition → ℕ → ℕ → Type 0 = λ a b k l. IsTree (R × S) (suc (max m n)) (make c d) (raised (make a b) (max k l)) in
    let whole : P c d m n = raised_tree (R × S) (max m n) (make c d) (left.2.0, right.2.0) in
    let first : P c d x.1 n = subst (λ (k : ℕ). P c d k n) (sym left.1) whole in
    let second : P c d x.1 y.1 = subst (λ (k : ℕ). P c d x.1 k) (sym right.1) first in
    let third : P x.0 d x.1 y.1 = subst (λ (a : Condition). P a d x.1 y.1) (sym left.0) second in
    subst (λ (b : Condition). P x.0 b x.1 y.1) (sym right.0) third
beside_tree make R S m n c d (Ok x) (Err NumberRange) left right = λ range. right range.1
beside_tree make R S m n c d (Ok x) (Err TooDeep) left right = ((left.2.0, right.0), omega (arith, right.1))
beside_tree make R S m n c d (Ok x) (Err fault) left right = absurd right
beside_tree make R S m n c d (Err NumberRange) (Ok y) left right = λ range. left range.0
beside_tree make R S m n c d (Err TooDeep) (Ok y) left right = ((left.0, right.2.0), omega (arith, left.1))
beside_tree make R S m n c d (Err fault) (Ok y) left right = absurd left
beside_tree make R S m n c d (Err NumberRange) (Err other) left right = λ range. left range.0
beside_tree make R S m n c d (Err TooDeep) (Err NumberRange) left right = λ range. right range.1
beside_tree make R S m n c d (Err TooDeep) (Err TooDeep) left right = ((left.0, right.0), omega (arith, left.1))
beside_tree make R S m n c d (Err TooDeep) (Err other) left right = absurd right
beside_tree make R S m n c d (Err fault) (Err other) left right = absurd left

-- ---- integers

pub fits_tested : (n : ℤ) → fits_64 n ≡ true → FitsSigned w64 n
fits_tested (pos n) is = record { sfits = ltb-true n (2 ^ 63) is }
fits_tested (negsuc n) is = record { sfits = ltb-true n (2 ^ 63) is }

pub tested_fits : (n : ℤ) → FitsSigned w64 n → fits_64 n ≡ true
tested_fits (pos n) fits = lt-ltb n (2 ^ 63) fits.sfits
tested_fits (negsuc n) fits = lt-ltb n (2 ^ 63) fits.sfits

number_tree : (n : ℤ) → IsTree (FitsSigned w64 n) 1 (Literal (Number n)) (number_if (integer_if n)).tree
number_tree n = by_test (fits_64 n) refl
  where
    by_test : (t : Bool) → fits_64 n ≡ t → IsTree (FitsSigned w64 n) 1 (Literal (Number n)) (number_if (cond t (Some n) None)).tree
    by_test true is = (refl, refl, (fits_tested n is, lit≤ tt))
    by_test false is = λ fits. absurd (let never : true ≡ false = sym (tested_fits n fits) ∙ is in cc)

pub grown_tree : (columns : List TableColumn) (a : Phrase) → IsTree (IsInRange a) (levels a) (meaning_of columns a) (grown columns a).tree
grown_tree columns (InName name) = (refl, refl, (tt, lit≤ tt))
grown_tree columns InUnknown = (refl, refl, (tt, lit≤ tt))
grown_tree columns (InNumber n) = number_tree n
grown_tree columns (InText text) = (refl, refl, (tt, lit≤ tt))
grown_tree columns (InBool b) = (refl, refl, (tt, lit≤ tt))
grown_tree columns InNull = (refl, refl, (tt, lit≤ tt))
grown_tree columns (InParentheses a) = over_tree (λ c. c) (IsInRange a) (levels a) (meaning_of columns a) (grown columns a).tree (grown_tree columns a)
grown_tree columns (InCompare how a b) = beside_tree (λ c d. Compare how c d) (IsInRange a) (IsInRange b) (levels a) (levels b) (meaning_of columns a) (meaning_of columns b) (grown columns a).tree (grown columns b).tree (grown_tree columns a) (grown_tree columns b)
grown_tree columns (InIs question negated a) = over_tree (λ c. Is question negated c) (IsInRange a) (levels a) (meaning_of columns a) (grown columns a).tree (grown_tree columns a)
grown_tree columns (InNot a) = over_tree (λ c. Not c) (IsInRange a) (levels a) (meaning_of columns a) (grown columns a).tree (grown_tree columns a)
grown_tree columns (InAnd a b) = beside_tree (λ c d. And c d) (IsInRange a) (IsInRange b) (levels a) (levels b) (meaning_of columns a) (meaning_of columns b) (grown columns a).tree (grown columns b).tree (grown_tree columns a) (grown_tree columns b)
grown_tree columns (InOr a b) = beside_tree (λ c d. Or c d) (IsInRange a) (IsInRange b) (levels a) (levels b) (meaning_of columns a) (meaning_of columns b) (grown columns a).tree (grown columns b).tree (grown_tree columns a) (grown_tree columns b)

-- ---- the same words

abbrev grows : List TableColumn → Pending Phrase → Pending Grown
grows columns Enclosing = Enclosing
grows columns Denying = Denying
grows columns (Joining joint a) = Joining joint (grown columns a)

abbrev grows_all : List TableColumn → List (Pending Phrase) → List (Pending Grown)
grows_all columns [] = []
grows_all columns (item ∷ stack) = grows columns item ∷ grows_all columns stack

abbrev grows_pair : List TableColumn → List (Pending Phrase) × Phrase → List (Pending Grown) × Grown
grows_pair columns x = (grows_all columns x.0, grown columns x.1)

abbrev grows_state : List TableColumn → State Phrase → State Grown
grows_state columns (Wanting stack) = Wanting (grows_all columns stack)
grows_state columns (Having stack a) = Having (grows_all columns stack) (grown columns a)
grows_state columns (Asking stack a negated) = Asking (grows_all columns stack) (grown columns a) negated

abbrev grows_word : List TableColumn → Word Phrase → Word Grown
grows_word columns (Joins joint) = Joins joint
grows_word columns Denies = Denies
grows_word columns Asks = Asks
grows_word columns Opens = Opens
grows_word columns Closes = Closes
grows_word columns (Operand a question) = Operand (grown columns a) question
grows_word columns Stray = Stray

number_tight : (o : Option ℤ) → (number_if o).tight ≡ 5
number_tight None = refl
number_tight (Some n) = refl

tight_same : (columns : List TableColumn) (a : Phrase) → (grown columns a).tight ≡ tightness a
tight_same columns (InName name) = refl
tight_same columns InUnknown = refl
tight_same columns (InNumber n) = number_tight (integer_if n)
tight_same columns (InText text) = refl
tight_same columns (InBool b) = refl
tight_same columns InNull = refl
tight_same columns (InParentheses a) = refl
tight_same columns (InCompare how a b) = refl
tight_same columns (InIs question negated a) = refl
tight_same columns (InNot a) = refl
tight_same columns (InAnd a b) = refl
tight_same columns (InOr a b) = refl

wants_same : (columns : List TableColumn) (item : Pending Phrase) → wants (grows columns item) ≡ wants item
wants_same columns Enclosing = refl
wants_same columns Denying = refl
wants_same columns (Joining joint a) = refl

wanted_same : (columns : List TableColumn) (stack : List (Pending Phrase)) → wanted_by (grows_all columns stack) ≡ wanted_by stack
wanted_same columns [] = refl
wanted_same columns (item ∷ stack) = wants_same columns item

completed_same : (columns : List TableColumn) (item : Pending Phrase) (a : Phrase) → completed parts (grows columns item) (grown columns a) ≡ grown columns (completed phrases item a)
completed_same columns Enclosing a = refl
completed_same columns Denying a = refl
completed_same columns (Joining joints.Or b) a = refl
completed_same columns (Joining joints.And b) a = refl
completed_same columns (Joining (joints.Comparison how) b) a = refl

cond_same : {A B : Type 0} (f : A → B) (t : Bool) (x y : A) → cond t (f x) (f y) ≡ f (cond t x y)
cond_same f true x y = refl
cond_same f false x y = refl

folded_same : (columns : List TableColumn) (m : ℕ) (stack : List (Pending Phrase)) (a : Phrase) → folded parts m (grows_all columns stack) (grown columns a) ≡ grows_pair columns (folded phrases m stack a)
folded_same columns m [] a = refl
folded_same columns m (item ∷ stack) a =
    let more = folded_same columns m stack (completed phrases item a) in
    let inner : folded parts m (grows_all columns stack) (completed parts (grows columns item) (grown columns a)) ≡ grows_pair columns (folded phrases m stack (completed phrases item a)) =
    ap (folded parts m (grows_all columns stack)) (completed_same columns item a) ∙ more in
    ap (λ (n : ℕ). cond (nat_lt m n) (folded parts m (grows_all columns stack) (completed parts (grows columns item) (grown columns a))) (grows_pair columns (item ∷ stack, a))) (wants_same columns item)
    ∙ ap (λ (x : List (Pending Grown) × Grown). cond (nat_lt m (wants item)) x (grows_pair columns (item ∷ stack, a))) inner
    ∙ cond_same (grows_pair columns) (nat_lt m (wants item)) (folded phrases m stack (completed phrases item a)) (item ∷ stack, a)

unless_less : (columns : List TableColumn) (m n : ℕ) (k : ℕ) (to : State Phrase) → m ≡ n → cond (nat_lt m k) None (Some (grows_state columns to)) ≡ option_map (grows_state columns) (cond (nat_lt n k) None (Some to))
unless_less columns m n k to is =
    ap (λ (l : ℕ). cond (nat_lt l k) None (Some (grows_state columns to))) is
    ∙ cond_same (λ (o : Option (State Phrase)). option_map (grows_state columns) o) (nat_lt n k) None (Some to)

closes_same : (columns : List TableColumn) (stack : List (Pending Phrase)) (a : Phrase) → closes_over parts (grows_all columns stack) (grown columns a) ≡ option_map (grows_state columns) (closes_over phrases stack a)
closes_same columns [] a = refl
closes_same columns (Enclosing ∷ stack) a = refl
closes_same columns (Denying ∷ stack) a = refl
closes_same columns (Joining joint b ∷ stack) a = refl

ends_same : (columns : List TableColumn) (stack : List (Pending Phrase)) (a : Phrase) → ends_over (grows_all columns stack) (grown columns a) ≡ option_map (grown columns) (ends_over stack a)
ends_same columns [] a = refl
ends_same columns (item ∷ stack) a = refl

step_same : (columns : List TableColumn) (state : State Phrase) (word : Word Phrase) → step parts (grows_state columns state) (grows_word columns word) ≡ option_map (grows_state columns) (step phrases state word)
step_same columns (Wanting stack) (Operand a question) = refl
step_same columns (Wanting stack) Opens = refl
step_same columns (Wanting stack) Denies =
    ap (λ (n : ℕ). cond (nat_lt 2 n) None (Some (grows_state columns (Wanting (Denying ∷ stack))))) (wanted_same columns stack)
    ∙ cond_same (λ (o : Option (State Phrase)). option_map (grows_state columns) o) (nat_lt 2 (wanted_by stack)) None (Some (Wanting (Denying ∷ stack)))
step_same columns (Wanting stack) word = refl
step_same columns (Having stack a) (Joins joint) =
    let x = folded phrases (binds joint) stack a in
    ap (joins parts joint) (folded_same columns (binds joint) stack a)
    ∙ unless_less columns (grown columns x.1).tight (tightness x.1) (left_of joint) (Wanting (Joining joint x.1 ∷ x.0)) (tight_same columns x.1)
step_same columns (Having stack a) Asks =
    let x = folded phrases 3 stack a in
    ap (asks parts) (folded_same columns 3 stack a)
    ∙ unless_less columns (grown columns x.1).tight (tightness x.1) 4 (Asking x.0 x.1 false) (tight_same columns x.1)
step_same columns (Having stack a) Closes =
    let x = folded phrases 0 stack a in
    ap (λ (y : List (Pending Grown) × Grown). closes_over parts y.0 y.1) (folded_same columns 0 stack a) ∙ closes_same columns x.0 x.1
step_same columns (Having stack a) word = refl
step_same columns (Asking stack a false) Denies = refl
step_same columns (Asking stack a negated) (Operand b (Some question)) = refl
step_same columns (Asking stack a negated) word = refl

outcome_same : (columns : List TableColumn) (state : State Phrase) → outcome parts (grows_state columns state) ≡ option_map (grown columns) (outcome phrases state)
outcome_same columns (Wanting stack) = refl
outcome_same columns (Having stack a) =
    let x = folded phrases 0 stack a in
    ap (λ (y : List (Pending Grown) × Grown). ends_over y.0 y.1) (folded_same columns 0 stack a) ∙ ends_same columns x.0 x.1
outcome_same columns (Asking stack a negated) = refl

word_same : (columns : List TableColumn) (saying : Saying) → word_of (λ s. grown columns (leaf_of s)) saying ≡ grows_word columns (word_of leaf_of saying)
word_same columns SayAnd = refl
word_same columns SayOr = refl
word_same columns SayNot = refl
word_same columns SayIs = refl
word_same columns SayNull = refl
word_same columns (SayBool b) = refl
word_same columns SayUnknown = refl
word_same columns (SayName name) = refl
word_same columns (SayNumber n) = refl
word_same columns (SayText text) = refl
word_same columns (SayComparison how) = refl
word_same columns SayOpen = refl
word_same columns SayClose = refl

abbrev grows_run : List TableColumn → State Phrase → List Saying → Option Grown
grows_run columns state sayings = run parts (grows_state columns state) (map (word_of (λ s. grown columns (leaf_of s))) sayings)

run_same : (columns : List TableColumn) (state : State Phrase) (sayings : List Saying) → grows_run columns state sayings ≡ option_map (grown columns) (run phrases state (map (word_of leaf_of) sayings))
run_same columns state [] = outcome_same columns state
run_same columns state (saying ∷ sayings) =
    ap (λ (w : Word Grown). option_and_then (λ to. run parts to (map (word_of (λ s. grown columns (leaf_of s))) sayings)) (step parts (grows_state columns state) w)) (word_same columns saying)
    ∙ ap (option_and_then (λ to. run parts to (map (word_of (λ s. grown columns (leaf_of s))) sayings))) (step_same columns state (word_of leaf_of saying))
    ∙ by_step (λ to. run_same columns to sayings) (step phrases state (word_of leaf_of saying))
  where
    by_step : ((to : State Phrase) → grows_run columns to sayings ≡ option_map (grown columns) (run phrases to (map (word_of leaf_of) sayings)))
        → (next : Option (State Phrase)) → option_and_then (λ to. run parts to (map (word_of (λ s. grown columns (leaf_of s))) sayings)) (option_map (grows_state columns) next)
        ≡ option_map (grown columns) (option_and_then (λ to. run phrases to (map (word_of leaf_of) sayings)) next)
    by_step more None = refl
    by_step more (Some to) = more to

pub grown_run : (columns : List TableColumn) (sayings : List Saying) → run parts (Wanting []) (map (word_of (λ s. grown columns (leaf_of s))) sayings) ≡ option_map (grown columns) (run phrases (Wanting []) (map (word_of leaf_of) sayings))
grown_run columns sayings = run_same columns (Wanting []) sayings
