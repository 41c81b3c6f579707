-- Reading the words of a filter from left to right, with a stack of what waits for its right side. It is told of any trees:
-- the law speaks of phrases, the code makes conditions of the same words.
use Rattle.std.specs.Prelude.{ℕ, nat_lt, List, [], ◌∷◌, Option, Some, None, option_and_then, Bool, true, false, if◌then◌else◌}
use Rattle.conditions.specs.declared.trees.joint.Joint.{Joint}
use Rattle.conditions.specs.declared.trees.joint.Joint.TheVariants as joints
use Rattle.conditions.specs.declared.values.is_test.IsTest.{IsTest}
use Rattle.conditions.specs.declared.values.is_test.IsTest.TheVariants as questions
use Rattle.conditions.specs.Words.{Saying, SayAnd, SayOr, SayNot, SayIs, SayNull, SayBool, SayUnknown, SayName, SayNumber, SayText, SayComparison, SayOpen, SayClose}

-- how tight it binds, and its two sides at least: OR, AND, and a comparison, whose sides are operands
abbrev pub binds : Joint → ℕ
binds joints.Or = 0
binds joints.And = 1
binds (joints.Comparison how) = 4

abbrev pub left_of : Joint → ℕ
left_of joints.Or = 0
left_of joints.And = 1
left_of (joints.Comparison how) = 5

abbrev pub right_of : Joint → ℕ
right_of joints.Or = 1
right_of joints.And = 2
right_of (joints.Comparison how) = 5

-- a tree of some kind: how tight it binds, and how trees are made of others
pub record Trees (A : Type 0) : Type 0 where
  pub tight : A → ℕ
  pub joined : Joint → A → A → A
  pub denied : A → A
  pub asked : IsTest → Bool → A → A
  pub enclosed : A → A

-- A word of a filter. NULL, TRUE, FALSE and a bare unknown are operands, and after IS they are what it asks.
pub data Word (A : Type 0) : Type 0 where
  Joins : Joint → Word A
  Denies : Word A
  Asks : Word A
  Opens : Word A
  Closes : Word A
  Operand : A → Option IsTest → Word A
  Stray : Word A

-- what waits for what stands on its right: a parenthesis, NOT, or a joint with its left side
pub data Pending (A : Type 0) : Type 0 where
  Enclosing : Pending A
  Denying : Pending A
  Joining : Joint → A → Pending A

-- how tight its right side binds at least
abbrev pub wants : {A : Type 0} → Pending A → ℕ
wants Enclosing = 0
wants Denying = 2
wants (Joining joint a) = right_of joint

abbrev pub completed : {A : Type 0} → Trees A → Pending A → A → A
completed trees Enclosing a = trees.enclosed a
completed trees Denying a = trees.denied a
completed trees (Joining joint b) a = trees.joined joint b a

-- What was read: the stack, its top first, and after it what the next word meets.
pub data State (A : Type 0) : Type 0 where
  -- an operand is wanted
  Wanting : List (Pending A) → State A
  -- a tree stands there
  Having : List (Pending A) → A → State A
  -- IS stands after a tree; where the flag is set, IS NOT
  Asking : List (Pending A) → A → Bool → State A

abbrev pub wanted_by : {A : Type 0} → List (Pending A) → ℕ
wanted_by [] = 0
wanted_by (item ∷ stack) = wants item

-- what waits for a tighter tree than this one's use is completed with the tree
abbrev pub folded : {A : Type 0} → Trees A → ℕ → List (Pending A) → A → List (Pending A) × A
folded trees use_tight [] a = ([], a)
folded trees use_tight (item ∷ stack) a = if nat_lt use_tight (wants item) then folded trees use_tight stack (completed trees item a) else (item ∷ stack, a)

abbrev pub joins : {A : Type 0} → Trees A → Joint → List (Pending A) × A → Option (State A)
joins trees joint x = if nat_lt (trees.tight x.1) (left_of joint) then None else Some (Wanting (Joining joint x.1 ∷ x.0))

abbrev pub asks : {A : Type 0} → Trees A → List (Pending A) × A → Option (State A)
asks trees x = if nat_lt (trees.tight x.1) 4 then None else Some (Asking x.0 x.1 false)

abbrev pub closes_over : {A : Type 0} → Trees A → List (Pending A) → A → Option (State A)
closes_over trees (Enclosing ∷ stack) a = Some (Having stack (trees.enclosed a))
closes_over trees stack a = None

abbrev pub closes : {A : Type 0} → Trees A → List (Pending A) × A → Option (State A)
closes trees x = closes_over trees x.0 x.1

abbrev pub ends_over : {A : Type 0} → List (Pending A) → A → Option A
ends_over [] a = Some a
ends_over (item ∷ stack) a = None

abbrev pub ends : {A : Type 0} → List (Pending A) × A → Option A
ends x = ends_over x.0 x.1

abbrev pub step : {A : Type 0} → Trees A → State A → Word A → Option (State A)
step trees (Wanting stack) (Operand a question) = Some (Having stack a)
step trees (Wanting stack) Opens = Some (Wanting (Enclosing ∷ stack))
step trees (Wanting stack) Denies = if nat_lt 2 (wanted_by stack) then None else Some (Wanting (Denying ∷ stack))
step trees (Wanting stack) word = None
step trees (Having stack a) (Joins joint) = joins trees joint (folded trees (binds joint) stack a)
step trees (Having stack a) Asks = asks trees (folded trees 3 stack a)
step trees (Having stack a) Closes = closes trees (folded trees 0 stack a)
step trees (Having stack a) word = None
step trees (Asking stack a false) Denies = Some (Asking stack a true)
step trees (Asking stack a negated) (Operand b (Some question)) = Some (Having stack (trees.asked question negated a))
step trees (Asking stack a negated) word = None

abbrev pub outcome : {A : Type 0} → Trees A → State A → Option A
outcome trees (Having stack a) = ends (folded trees 0 stack a)
outcome trees state = None

-- the tree that the words spell after what was read
abbrev pub run : {A : Type 0} → Trees A → State A → List (Word A) → Option A
run trees state [] = outcome trees state
run trees state (word ∷ words) = option_and_then (λ next. run trees next words) (step trees state word)

-- ---- the word that is said; leaf gives the tree of an operand

abbrev pub asked_by : Bool → IsTest
asked_by true = questions.True
asked_by false = questions.False

abbrev pub word_of : {A : Type 0} → (Saying → A) → Saying → Word A
word_of leaf SayAnd = Joins joints.And
word_of leaf SayOr = Joins joints.Or
word_of leaf SayNot = Denies
word_of leaf SayIs = Asks
word_of leaf SayNull = Operand (leaf SayNull) (Some questions.Null)
word_of leaf (SayBool b) = Operand (leaf (SayBool b)) (Some (asked_by b))
word_of leaf SayUnknown = Operand (leaf SayUnknown) (Some questions.Unknown)
word_of leaf (SayName name) = Operand (leaf (SayName name)) None
word_of leaf (SayNumber n) = Operand (leaf (SayNumber n)) None
word_of leaf (SayText text) = Operand (leaf (SayText text)) None
word_of leaf (SayComparison how) = Joins (joints.Comparison how)
word_of leaf SayOpen = Opens
word_of leaf SayClose = Closes

abbrev pub word_said : {A : Type 0} → (Saying → A) → Option Saying → Word A
word_said leaf None = Stray
word_said leaf (Some saying) = word_of leaf saying
