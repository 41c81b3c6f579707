-- A phrase whose parts bind so is read again from its words, by the reading with a stack.
use Rattle.std.proofs.Common.{◌≡◌, ℕ, zero, suc, nat_lt, ◌≤◌, ◌<◌, Bool, true, false, List, [], ◌∷◌, ◌++◌, map, Option, Some, None, refl, sym, ap, ◌∙◌, arith, lit≤, append_assoc}
use Rattle.std.proofs.lemmas.Bool.{lt-ltb, le-ltb}
use Rattle.std.proofs.lemmas.List.{append-nil}
use Rattle.std.specs.Prelude.{option_and_then, if◌then◌else◌}
use Rattle.conditions.specs.declared.trees.joint.Joint.{Joint}
use Rattle.conditions.specs.declared.trees.joint.Joint.TheVariants as joints
use Rattle.conditions.specs.declared.values.is_test.IsTest.{IsTest}
use Rattle.conditions.specs.declared.values.is_test.IsTest.TheVariants as questions
use Rattle.conditions.specs.Words.{Saying, SayAnd, SayOr, SayNot, SayIs, SayComparison, SayOpen, SayClose}
use Rattle.conditions.specs.Grammar.{Phrase, InName, InUnknown, InNumber, InText, InBool, InNull, InParentheses, InCompare, InIs, InNot, InAnd, InOr, saying_of_question, sayings_of, tightness, IsBound}
use Rattle.conditions.specs.Stacks.{binds, left_of, Pending, Enclosing, Denying, Joining, wants, completed, State, Wanting, Having, Asking, wanted_by, folded, joins, asks, closes_over, ends_over, run, word_of}
use Rattle.conditions.specs.Parts.{phrases, leaf_of}
use Rattle.pqformat.proofs.Quoting.{if_true, if_false}
use Rattle.conditions.proofs.Phrases.{Items, at_least_zero}

abbrev Sayings : Type 0
Sayings = List Saying

-- how the words are read
abbrev reads : State Phrase → Sayings → Option Phrase
reads state sayings = run phrases state (map (word_of leaf_of) sayings)

-- how tight a tree the first word takes on its left: what waits for a tighter one is completed first
abbrev uses : Sayings → ℕ
uses (SayAnd ∷ rest) = 1
uses (SayIs ∷ rest) = 3
uses (SayComparison how ∷ rest) = 4
uses rest = 0

-- how tight a joint after a phrase of this tightness must be looser than, so that it takes the whole phrase
abbrev opening_at : ℕ → ℕ
opening_at zero = 1
opening_at (suc zero) = 2
opening_at (suc (suc zero)) = 2
opening_at (suc (suc (suc n))) = 5

abbrev opening : Phrase → ℕ
opening a = opening_at (tightness a)

opens_tighter : (k n : ℕ) → k ≤ n → k ≤ 1 → suc k ≤ opening_at n
opens_tighter k zero tight small = omega arith
opens_tighter k (suc zero) tight small = omega arith
opens_tighter k (suc (suc zero)) tight small = omega arith
opens_tighter k (suc (suc (suc n))) tight small = omega arith

opens_as : (k n : ℕ) → k ≤ n → k ≤ 2 → k ≤ opening_at n
opens_as k zero tight small = omega arith
opens_as k (suc zero) tight small = omega arith
opens_as k (suc (suc zero)) tight small = omega arith
opens_as k (suc (suc (suc n))) tight small = omega arith

-- a phrase that binds tighter than NOT is taken whole by IS too
opens_all : (n : ℕ) → 3 ≤ n → opening_at n ≡ 5
opens_all zero tight = absurd (omega arith)
opens_all (suc zero) tight = absurd (omega arith)
opens_all (suc (suc zero)) tight = absurd (omega arith)
opens_all (suc (suc (suc n))) tight = refl

abbrev Reads : Phrase → Type 0
Reads a = (stack : Items) (rest : Sayings) → wanted_by stack ≤ tightness a → uses rest < opening a → reads (Wanting stack) (sayings_of a ++ rest) ≡ reads (Having stack a) rest

folded_on : (m : ℕ) (item : Pending Phrase) (stack : Items) (a : Phrase) → m < wants item → folded phrases m (item ∷ stack) a ≡ folded phrases m stack (completed phrases item a)
folded_on m item stack a less = if_true (nat_lt m (wants item)) (folded phrases m stack (completed phrases item a)) (item ∷ stack, a) (lt-ltb m (wants item) less)

folded_stops : (m : ℕ) (stack : Items) (a : Phrase) → wanted_by stack ≤ m → folded phrases m stack a ≡ (stack, a)
folded_stops m [] a most = refl
folded_stops m (item ∷ stack) a most = if_false (nat_lt m (wants item)) (folded phrases m stack (completed phrases item a)) (item ∷ stack, a) (le-ltb m (wants item) most)

-- a tree completes what waits on top, if that is tighter than the use of it
completes_first : (item : Pending Phrase) (stack : Items) (a : Phrase) (rest : Sayings) → uses rest < wants item → reads (Having (item ∷ stack) a) rest ≡ reads (Having stack (completed phrases item a)) rest
completes_first item stack a [] less = ap (λ (x : Items × Phrase). ends_over x.0 x.1) (folded_on 0 item stack a less)
completes_first item stack a (SayAnd ∷ rest) less = ap (λ (x : Items × Phrase). option_and_then (λ to. reads to rest) (joins phrases joints.And x)) (folded_on 1 item stack a less)
completes_first item stack a (SayOr ∷ rest) less = ap (λ (x : Items × Phrase). option_and_then (λ to. reads to rest) (joins phrases joints.Or x)) (folded_on 0 item stack a less)
completes_first item stack a (SayIs ∷ rest) less = ap (λ (x : Items × Phrase). option_and_then (λ to. reads to rest) (asks phrases x)) (folded_on 3 item stack a less)
completes_first item stack a (SayComparison how ∷ rest) less = ap (λ (x : Items × Phrase). option_and_then (λ to. reads to rest) (joins phrases (joints.Comparison how) x)) (folded_on 4 item stack a less)
completes_first item stack a (SayClose ∷ rest) less = ap (λ (x : Items × Phrase). option_and_then (λ to. reads to rest) (closes_over phrases x.0 x.1)) (folded_on 0 item stack a less)
completes_first item stack a (saying ∷ rest) less = refl

-- a joint takes the tree that stands there
joins_on : (joint : Joint) (stack : Items) (a : Phrase) (rest : Sayings) → wanted_by stack ≤ binds joint → left_of joint ≤ tightness a
    → option_and_then (λ to. reads to rest) (joins phrases joint (folded phrases (binds joint) stack a)) ≡ reads (Wanting (Joining joint a ∷ stack)) rest
joins_on joint stack a rest most tight =
    ap (λ (x : Items × Phrase). option_and_then (λ to. reads to rest) (joins phrases joint x)) (folded_stops (binds joint) stack a most)
    ∙ ap (option_and_then (λ to. reads to rest)) (if_false (nat_lt (tightness a) (left_of joint)) None (Some (Wanting (Joining joint a ∷ stack))) (le-ltb (tightness a) (left_of joint) tight))

asks_on : (stack : Items) (a : Phrase) (rest : Sayings) → wanted_by stack ≤ 3 → 4 ≤ tightness a
    → option_and_then (λ to. reads to rest) (asks phrases (folded phrases 3 stack a)) ≡ reads (Asking stack a false) rest
asks_on stack a rest most tight =
    ap (λ (x : Items × Phrase). option_and_then (λ to. reads to rest) (asks phrases x)) (folded_stops 3 stack a most)
    ∙ ap (option_and_then (λ to. reads to rest)) (if_false (nat_lt (tightness a) 4) None (Some (Asking stack a false)) (le-ltb (tightness a) 4 tight))

answers_on : (stack : Items) (a : Phrase) (question : IsTest) (negated : Bool) (rest : Sayings)
    → reads (Asking stack a false) ((if negated then (SayNot ∷ []) else []) ++ saying_of_question question ∷ rest) ≡ reads (Having stack (InIs question negated a)) rest
answers_on stack a questions.Null false rest = refl
answers_on stack a questions.True false rest = refl
answers_on stack a questions.False false rest = refl
answers_on stack a questions.Unknown false rest = refl
answers_on stack a questions.Null true rest = refl
answers_on stack a questions.True true rest = refl
answers_on stack a questions.False true rest = refl
answers_on stack a questions.Unknown true rest = refl

-- words that a phrase is written by stand before others
moved : (state : State Phrase) (a : Sayings) (w : Saying) (b rest : Sayings) → reads state ((a ++ w ∷ b) ++ rest) ≡ reads state (a ++ w ∷ (b ++ rest))
moved state a w b rest = ap (reads state) (append_assoc a (w ∷ b) rest)

complete : (a : Phrase) → IsBound a → Reads a
complete (InName name) bound stack rest most less = refl
complete InUnknown bound stack rest most less = refl
complete (InNumber n) bound stack rest most less = refl
complete (InText text) bound stack rest most less = refl
complete (InBool true) bound stack rest most less = refl
complete (InBool false) bound stack rest most less = refl
complete InNull bound stack rest most less = refl
complete (InParentheses a) bound stack rest most less =
    let opened : 0 < opening a = opens_tighter 0 (tightness a) (at_least_zero (tightness a)) (lit≤ tt) in
    moved (Wanting stack) (SayOpen ∷ sayings_of a) SayClose [] rest
    ∙ complete a bound (Enclosing ∷ stack) (SayClose ∷ rest) (at_least_zero (tightness a)) opened
complete (InNot a) bound stack rest most less =
    ap (option_and_then (λ to. reads to (sayings_of a ++ rest))) (if_false (nat_lt 2 (wanted_by stack)) None (Some (Wanting (Denying ∷ stack))) (le-ltb 2 (wanted_by stack) most))
    ∙ complete a bound.1 (Denying ∷ stack) rest bound.0 (omega (arith, less, opens_as 2 (tightness a) bound.0 (lit≤ tt)))
    ∙ completes_first Denying stack a rest less
complete (InAnd a b) bound stack rest most less =
    moved (Wanting stack) (sayings_of a) SayAnd (sayings_of b) rest
    ∙ complete a bound.2.0 stack (SayAnd ∷ (sayings_of b ++ rest)) (omega (arith, most, bound.0)) (opens_tighter 1 (tightness a) bound.0 (lit≤ tt))
    ∙ joins_on joints.And stack a (sayings_of b ++ rest) most bound.0
    ∙ complete b bound.2.1 (Joining joints.And a ∷ stack) rest bound.1 (omega (arith, less, opens_as 2 (tightness b) bound.1 (lit≤ tt)))
    ∙ completes_first (Joining joints.And a) stack b rest less
complete (InOr a b) bound stack rest most less =
    moved (Wanting stack) (sayings_of a) SayOr (sayings_of b) rest
    ∙ complete a bound.1.0 stack (SayOr ∷ (sayings_of b ++ rest)) (omega (arith, most)) (opens_tighter 0 (tightness a) (at_least_zero (tightness a)) (lit≤ tt))
    ∙ joins_on joints.Or stack a (sayings_of b ++ rest) most (at_least_zero (tightness a))
    ∙ complete b bound.1.1 (Joining joints.Or a ∷ stack) rest bound.0 (omega (arith, less, opens_as 1 (tightness b) bound.0 (lit≤ tt)))
    ∙ completes_first (Joining joints.Or a) stack b rest less
complete (InCompare how a b) bound stack rest most less =
    moved (Wanting stack) (sayings_of a) (SayComparison how) (sayings_of b) rest
    ∙ complete a bound.2.0 stack (SayComparison how ∷ (sayings_of b ++ rest)) (omega (arith, most, bound.0)) (rw (opens_all (tightness a) (omega (arith, bound.0))) (lit≤ tt))
    ∙ joins_on (joints.Comparison how) stack a (sayings_of b ++ rest) most bound.0
    ∙ complete b bound.2.1 (Joining (joints.Comparison how) a ∷ stack) rest bound.1 (rw (opens_all (tightness b) (omega (arith, bound.1))) less)
    ∙ completes_first (Joining (joints.Comparison how) a) stack b rest less
complete (InIs question false a) bound stack rest most less =
    moved (Wanting stack) (sayings_of a) SayIs (saying_of_question question ∷ []) rest
    ∙ complete a bound.1 stack (SayIs ∷ (saying_of_question question ∷ rest)) (omega (arith, most, bound.0)) (rw (opens_all (tightness a) (omega (arith, bound.0))) (lit≤ tt))
    ∙ asks_on stack a (saying_of_question question ∷ rest) most bound.0
    ∙ answers_on stack a question false rest
complete (InIs question true a) bound stack rest most less =
    moved (Wanting stack) (sayings_of a) SayIs (SayNot ∷ saying_of_question question ∷ []) rest
    ∙ complete a bound.1 stack (SayIs ∷ SayNot ∷ (saying_of_question question ∷ rest)) (omega (arith, most, bound.0)) (rw (opens_all (tightness a) (omega (arith, bound.0))) (lit≤ tt))
    ∙ asks_on stack a (SayNot ∷ saying_of_question question ∷ rest) most bound.0
    ∙ answers_on stack a question true rest

pub again : (phrase : Phrase) → IsBound phrase → run phrases (Wanting []) (map (word_of leaf_of) (sayings_of phrase)) ≡ Some phrase
again phrase bound =
    ap (reads (Wanting [])) (sym (append-nil (sayings_of phrase)))
    ∙ complete phrase bound [] [] (at_least_zero (tightness phrase)) (opens_tighter 0 (tightness phrase) (at_least_zero (tightness phrase)) (lit≤ tt))
