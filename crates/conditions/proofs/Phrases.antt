-- A phrase that the reading of words with a stack gives is written with these words, and its parts bind so.
use Rattle.std.proofs.Common.{◌≡◌, ℕ, nat_lt, ◌≤◌, ◌<◌, Bool, true, false, cond, List, [], ◌∷◌, ◌++◌, map, Option, Some, None, refl, sym, ap, subst, ◌∙◌, arith, lit≤, append_assoc}
use Rattle.std.proofs.lemmas.Bool.{ltb-true, ltb-false}
use Rattle.std.proofs.lemmas.List.{append-nil}
use Rattle.std.specs.Prelude.{MatchOption, unwrap_or, option_and_then}
use Rattle.conditions.specs.declared.trees.joint.Joint.{Joint}
use Rattle.conditions.specs.declared.trees.joint.Joint.TheVariants as joints
use Rattle.conditions.specs.Words.{Saying, SayAnd, SayOr, SayNot, SayIs, SayNull, SayBool, SayUnknown, SayName, SayNumber, SayText, SayComparison, SayOpen, SayClose}
use Rattle.conditions.specs.Grammar.{Phrase, InParentheses, InIs, saying_of_question, is_or_is_not, sayings_of, tightness, IsBound}
use Rattle.conditions.specs.Stacks.{binds, left_of, Word, Joins, Denies, Asks, Opens, Closes, Operand, Stray, Pending, Enclosing, Denying, Joining, wants, completed, State, Wanting, Having, Asking, wanted_by, folded, joins, asks, closes_over, ends_over, step, outcome, run, word_of}
use Rattle.conditions.specs.Parts.{phrases, leaf_of}

abbrev pub Items : Type 0
Items = List (Pending Phrase)

abbrev said_joint : Joint → Saying
said_joint joints.Or = SayOr
said_joint joints.And = SayAnd
said_joint (joints.Comparison how) = SayComparison how

-- ---- what was read

-- the words of what waits, and then others
abbrev before : Items → List Saying → List Saying
before [] tail = tail
before (Enclosing ∷ stack) tail = before stack (SayOpen ∷ tail)
before (Denying ∷ stack) tail = before stack (SayNot ∷ tail)
before (Joining joint a ∷ stack) tail = before stack (sayings_of a ++ said_joint joint ∷ tail)

abbrev said : State Phrase → List Saying → List Saying
said (Wanting stack) tail = before stack tail
said (Having stack a) tail = before stack (sayings_of a ++ tail)
said (Asking stack a negated) tail = before stack (sayings_of a ++ (is_or_is_not negated ++ tail))

-- what waits will fit where the one below it wants something
abbrev AreFit : Items → Type 0
AreFit [] = Unit {0}
AreFit (Enclosing ∷ stack) = AreFit stack
AreFit (Denying ∷ stack) = (wanted_by stack ≤ 2) × AreFit stack
AreFit (Joining joint a ∷ stack) = (wanted_by stack ≤ binds joint) × (left_of joint ≤ tightness a) × (IsBound a × AreFit stack)

abbrev IsFit : State Phrase → Type 0
IsFit (Wanting stack) = AreFit stack
IsFit (Having stack a) = (wanted_by stack ≤ tightness a) × IsBound a × AreFit stack
IsFit (Asking stack a negated) = (wanted_by stack ≤ 3) × (4 ≤ tightness a) × (IsBound a × AreFit stack)

pub at_least_zero : (n : ℕ) → 0 ≤ n
at_least_zero n = omega arith

wanted_most : (stack : Items) → wanted_by stack ≤ 5
wanted_most [] = lit≤ tt
wanted_most (Enclosing ∷ stack) = lit≤ tt
wanted_most (Denying ∷ stack) = lit≤ tt
wanted_most (Joining joints.Or a ∷ stack) = lit≤ tt
wanted_most (Joining joints.And a ∷ stack) = lit≤ tt
wanted_most (Joining (joints.Comparison how) a ∷ stack) = lit≤ tt

-- ---- completing what waits

record Completed (item : Pending Phrase) (stack : Items) (a : Phrase) : Type 0 where
  tight : wanted_by stack ≤ tightness (completed phrases item a)
  bound : IsBound (completed phrases item a)
  fit : AreFit stack
  words : (tail : List Saying) → before stack (sayings_of (completed phrases item a) ++ tail) ≡ before (item ∷ stack) (sayings_of a ++ tail)

completes : (item : Pending Phrase) (stack : Items) (a : Phrase) → 0 < wants item → wants item ≤ tightness a → IsBound a → AreFit (item ∷ stack) → Completed item stack a
completes Enclosing stack a some tight bound fit = absurd (omega (arith, some))
completes Denying stack a some tight bound fit = record { tight = fit.0; bound = (tight, bound); fit = fit.1; words = λ tail. refl }
completes (Joining joints.Or b) stack a some tight bound fit = record {
  tight = fit.0;
  bound = (tight, (fit.2.0, bound));
  fit = fit.2.1;
  words = λ tail. ap (before stack) (append_assoc (sayings_of b) (SayOr ∷ sayings_of a) tail);
}
completes (Joining joints.And b) stack a some tight bound fit = record {
  tight = fit.0;
  bound = (fit.1, tight, (fit.2.0, bound));
  fit = fit.2.1;
  words = λ tail. ap (before stack) (append_assoc (sayings_of b) (SayAnd ∷ sayings_of a) tail);
}
completes (Joining (joints.Comparison how) b) stack a some tight bound fit = record {
  tight = fit.0;
  bound = (fit.1, tight, (fit.2.0, bound));
  fit = fit.2.1;
  words = λ tail. ap (before stack) (append_assoc (sayings_of b) (SayComparison how ∷ sayings_of a) tail);
}

-- what is left of a stack and a tree after it, once what waits for a tighter one is completed
record Folded (use_tight : ℕ) (stack : Items) (a : Phrase) (left : Items) (b : Phrase) : Type 0 where
  tight : wanted_by left ≤ tightness b
  stops : wanted_by left ≤ use_tight
  bound : IsBound b
  fit : AreFit left
  words : (tail : List Saying) → before left (sayings_of b ++ tail) ≡ before stack (sayings_of a ++ tail)

folds : (use_tight : ℕ) (stack : Items) (a : Phrase) → wanted_by stack ≤ tightness a → IsBound a → AreFit stack
    → Folded use_tight stack a (folded phrases use_tight stack a).0 (folded phrases use_tight stack a).1
folds use_tight [] a tight bound fit = record { tight = tight; stops = at_least_zero use_tight; bound = bound; fit = fit; words = λ tail. refl }
folds use_tight (item ∷ stack) a tight bound fit = by_test (nat_lt use_tight (wants item)) refl (λ some. completes item stack a some tight bound fit) (λ tight bound fit. folds use_tight stack (completed phrases item a) tight bound fit)
  where
    by_test : (t : Bool) → nat_lt use_tight (wants item) ≡ t → (0 < wants item → Completed item stack a)
        → (wanted_by stack ≤ tightness (completed phrases item a) → IsBound (completed phrases item a) → AreFit stack
        → Folded use_tight stack (completed phrases item a) (folded phrases use_tight stack (completed phrases item a)).0 (folded phrases use_tight stack (completed phrases item a)).1)
        → Folded use_tight (item ∷ stack) a (cond t (folded phrases use_tight stack (completed phrases item a)) (item ∷ stack, a)).0 (cond t (folded phrases use_tight stack (completed phrases item a)) (item ∷ stack, a)).1
    by_test true is done more =
        let less = ltb-true use_tight (wants item) is in
        let one = done (omega (arith, less)) in
        let all = more one.tight one.bound one.fit in
        record { tight = all.tight; stops = all.stops; bound = all.bound; fit = all.fit; words = λ tail. all.words tail ∙ one.words tail }
    by_test false is done more = record { tight = tight; stops = ltb-false use_tight (wants item) is; bound = bound; fit = fit; words = λ tail. refl }

-- ---- one word more

-- the word is what this says
abbrev Says : Saying → Word Phrase → Type 0
Says saying (Joins joint) = saying ≡ said_joint joint
Says saying Denies = saying ≡ SayNot
Says saying Asks = saying ≡ SayIs
Says saying Opens = saying ≡ SayOpen
Says saying Closes = saying ≡ SayClose
Says saying (Operand a question) = (sayings_of a ≡ saying ∷ []) × (5 ≤ tightness a) × (IsBound a × MatchOption question (Unit {0}) (λ q. saying ≡ saying_of_question q))
Says saying Stray = ⊥

says : (saying : Saying) → Says saying (word_of leaf_of saying)
says SayAnd = refl
says SayOr = refl
says SayNot = refl
says SayIs = refl
says SayNull = (refl, lit≤ tt, (tt, refl))
says (SayBool true) = (refl, lit≤ tt, (tt, refl))
says (SayBool false) = (refl, lit≤ tt, (tt, refl))
says SayUnknown = (refl, lit≤ tt, (tt, refl))
says (SayName name) = (refl, lit≤ tt, (tt, tt))
says (SayNumber n) = (refl, lit≤ tt, (tt, tt))
says (SayText text) = (refl, lit≤ tt, (tt, tt))
says (SayComparison how) = refl
says SayOpen = refl
says SayClose = refl

record Moved (from : State Phrase) (saying : Saying) (to : State Phrase) : Type 0 where
  fit : IsFit to
  words : (tail : List Saying) → said to tail ≡ said from (saying ∷ tail)

some_same : {A : Type 0} (a b : A) → Some a ≡ Some b → a ≡ b
some_same a b e = ap (λ o. unwrap_or o a) e

joins_moves : (joint : Joint) (stack : Items) (a : Phrase) (left : Items) (b : Phrase) (to : State Phrase) → Folded (binds joint) stack a left b
    → joins phrases joint (left, b) ≡ Some to → Moved (Having stack a) (said_joint joint) to
joins_moves joint stack a left b to all e = by_test (nat_lt (tightness b) (left_of joint)) refl e
  where
    by_test : (t : Bool) → nat_lt (tightness b) (left_of joint) ≡ t → cond t None (Some (Wanting (Joining joint b ∷ left))) ≡ Some to → Moved (Having stack a) (said_joint joint) to
    by_test true is e = absurd cc
    by_test false is e = subst (Moved (Having stack a) (said_joint joint)) (some_same (Wanting (Joining joint b ∷ left)) to e) (record {
      fit = (all.stops, ltb-false (tightness b) (left_of joint) is, (all.bound, all.fit));
      words = λ tail. all.words (said_joint joint ∷ tail);
    })

asks_moves : (stack : Items) (a : Phrase) (left : Items) (b : Phrase) (to : State Phrase) → Folded 3 stack a left b
    → asks phrases (left, b) ≡ Some to → Moved (Having stack a) SayIs to
asks_moves stack a left b to all e = by_test (nat_lt (tightness b) 4) refl e
  where
    by_test : (t : Bool) → nat_lt (tightness b) 4 ≡ t → cond t None (Some (Asking left b false)) ≡ Some to → Moved (Having stack a) SayIs to
    by_test true is e = absurd cc
    by_test false is e = subst (Moved (Having stack a) SayIs) (some_same (Asking left b false) to e) (record {
      fit = (all.stops, ltb-false (tightness b) 4 is, (all.bound, all.fit));
      words = λ tail. all.words (SayIs ∷ tail);
    })

closes_moves : (stack : Items) (a : Phrase) (left : Items) (b : Phrase) (to : State Phrase) → Folded 0 stack a left b
    → closes_over phrases left b ≡ Some to → Moved (Having stack a) SayClose to
closes_moves stack a [] b to all e = absurd cc
closes_moves stack a (Denying ∷ left) b to all e = absurd cc
closes_moves stack a (Joining joint c ∷ left) b to all e = absurd cc
closes_moves stack a (Enclosing ∷ left) b to all e = subst (Moved (Having stack a) SayClose) (some_same (Having left (InParentheses b)) to e) (record {
  fit = (wanted_most left, all.bound, all.fit);
  words = λ tail. ap (λ (l : List Saying). before left (SayOpen ∷ l)) (append_assoc (sayings_of b) (SayClose ∷ []) tail) ∙ all.words (SayClose ∷ tail);
})

moves : (from : State Phrase) → IsFit from → (word : Word Phrase) (saying : Saying) → Says saying word → (to : State Phrase) → step phrases from word ≡ Some to → Moved from saying to
moves (Wanting stack) fit (Operand a question) saying says to e = subst (Moved (Wanting stack) saying) (some_same (Having stack a) to e) (record {
  fit = (omega (arith, wanted_most stack, says.1), says.2.0, fit);
  words = λ tail. ap (λ (l : List Saying). before stack (l ++ tail)) says.0;
})
moves (Wanting stack) fit Opens saying says to e = subst (λ (s : Saying). Moved (Wanting stack) s to) (sym says) (subst (Moved (Wanting stack) SayOpen) (some_same (Wanting (Enclosing ∷ stack)) to e) (record { fit = fit; words = λ tail. refl }))
moves (Wanting stack) fit Denies saying says to e = subst (λ (s : Saying). Moved (Wanting stack) s to) (sym says) (by_test (nat_lt 2 (wanted_by stack)) refl e)
  where
    by_test : (t : Bool) → nat_lt 2 (wanted_by stack) ≡ t → cond t None (Some (Wanting (Denying ∷ stack))) ≡ Some to → Moved (Wanting stack) SayNot to
    by_test true is e = absurd cc
    by_test false is e = subst (Moved (Wanting stack) SayNot) (some_same (Wanting (Denying ∷ stack)) to e) (record { fit = (ltb-false 2 (wanted_by stack) is, fit); words = λ tail. refl })
moves (Wanting stack) fit word saying says to e = absurd cc
moves (Having stack a) fit (Joins joint) saying says to e = subst (λ (s : Saying). Moved (Having stack a) s to) (sym says)
    (joins_moves joint stack a (folded phrases (binds joint) stack a).0 (folded phrases (binds joint) stack a).1 to (folds (binds joint) stack a fit.0 fit.1 fit.2) e)
moves (Having stack a) fit Asks saying says to e = subst (λ (s : Saying). Moved (Having stack a) s to) (sym says)
    (asks_moves stack a (folded phrases 3 stack a).0 (folded phrases 3 stack a).1 to (folds 3 stack a fit.0 fit.1 fit.2) e)
moves (Having stack a) fit Closes saying says to e = subst (λ (s : Saying). Moved (Having stack a) s to) (sym says)
    (closes_moves stack a (folded phrases 0 stack a).0 (folded phrases 0 stack a).1 to (folds 0 stack a fit.0 fit.1 fit.2) e)
moves (Having stack a) fit word saying says to e = absurd cc
moves (Asking stack a false) fit Denies saying says to e = subst (λ (s : Saying). Moved (Asking stack a false) s to) (sym says)
    (subst (Moved (Asking stack a false) SayNot) (some_same (Asking stack a true) to e) (record { fit = fit; words = λ tail. refl }))
moves (Asking stack a negated) fit (Operand b (Some question)) saying says to e = subst (λ (s : Saying). Moved (Asking stack a negated) s to) (sym says.2.1)
    (subst (Moved (Asking stack a negated) (saying_of_question question)) (some_same (Having stack (InIs question negated a)) to e) (record {
      fit = (fit.0, (fit.1, fit.2.0), fit.2.1);
      words = λ tail. ap (before stack) (append_assoc (sayings_of a) (is_or_is_not negated ++ saying_of_question question ∷ []) tail)
          ∙ ap (λ (l : List Saying). before stack (sayings_of a ++ l)) (append_assoc (is_or_is_not negated) (saying_of_question question ∷ []) tail);
    }))
moves (Asking stack a negated) fit word saying says to e = absurd cc

-- ---- all words

pub record IsReading (words : List Saying) (phrase : Phrase) : Type 0 where
  pub bound : IsBound phrase
  pub parts : sayings_of phrase ≡ words

ended : (stack : Items) (a : Phrase) (left : Items) (b phrase : Phrase) → Folded 0 stack a left b → ends_over left b ≡ Some phrase → IsReading (before stack (sayings_of a ++ [])) phrase
ended stack a [] b phrase all e = subst (IsReading (before stack (sayings_of a ++ []))) (some_same b phrase e) (record { bound = all.bound; parts = sym (append-nil (sayings_of b)) ∙ all.words [] })
ended stack a (item ∷ left) b phrase all e = absurd cc

ends_sound : (state : State Phrase) → IsFit state → (phrase : Phrase) → outcome phrases state ≡ Some phrase → IsReading (said state []) phrase
ends_sound (Wanting stack) fit phrase e = absurd cc
ends_sound (Having stack a) fit phrase e = ended stack a (folded phrases 0 stack a).0 (folded phrases 0 stack a).1 phrase (folds 0 stack a fit.0 fit.1 fit.2) e
ends_sound (Asking stack a negated) fit phrase e = absurd cc

run_sound : (state : State Phrase) → IsFit state → (sayings : List Saying) (phrase : Phrase) → run phrases state (map (word_of leaf_of) sayings) ≡ Some phrase → IsReading (said state sayings) phrase
run_sound state fit [] phrase e = ends_sound state fit phrase e
run_sound state fit (saying ∷ sayings) phrase e = by_step (step phrases state (word_of leaf_of saying)) refl (λ to fit e. run_sound to fit sayings phrase e) e
  where
    by_step : (next : Option (State Phrase)) → step phrases state (word_of leaf_of saying) ≡ next
        → ((to : State Phrase) → IsFit to → run phrases to (map (word_of leaf_of) sayings) ≡ Some phrase → IsReading (said to sayings) phrase)
        → option_and_then (λ to. run phrases to (map (word_of leaf_of) sayings)) next ≡ Some phrase → IsReading (said state (saying ∷ sayings)) phrase
    by_step None is more e = absurd cc
    by_step (Some to) is more e =
        let moved = moves state fit (word_of leaf_of saying) saying (says saying) to is in
        subst (λ (l : List Saying). IsReading l phrase) (moved.words sayings) (more to moved.fit e)

pub sound : (sayings : List Saying) (phrase : Phrase) → run phrases (Wanting []) (map (word_of leaf_of) sayings) ≡ Some phrase → IsReading sayings phrase
sound sayings phrase e = run_sound (Wanting []) tt sayings phrase e
