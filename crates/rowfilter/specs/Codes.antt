-- The tree of a filter as a list, from which it is found again: contracts can see a value only as one that has such a form.
-- No reader of the promise needs this.
use Rattle.std.specs.Prelude.{◌≡◌, refl, ℕ, Bool, List, [], ◌∷◌}
use Rattle.std.proofs.Common.{ap, ◌∙◌}
use Rattle.std.specs.Coded.{Coded, code_by, coded_list}
use Rattle.conditions.specs.declared.values.comparison.Comparison.{Comparison}
use Rattle.conditions.specs.declared.values.is_test.IsTest.{IsTest}
use Rattle.conditions.specs.Conditions.{Datum, Missing, Condition, Column, Literal, Compare, Is, Not, And, Or}

-- an operand, or what joins the operands before it
pub data Sign : Type 0 where
  ColumnSign : ℕ → Sign
  LiteralSign : Datum → Sign
  CompareSign : Comparison → Sign
  IsSign : IsTest → Bool → Sign
  NotSign : Sign
  AndSign : Sign
  OrSign : Sign

-- a tree with each joint after its sides, in front of others
abbrev pub signs : Condition → List Sign → List Sign
signs (Column place) others = ColumnSign place ∷ others
signs (Literal datum) others = LiteralSign datum ∷ others
signs (Compare how a b) others = signs a (signs b (CompareSign how ∷ others))
signs (Is question negated a) others = signs a (IsSign question negated ∷ others)
signs (Not a) others = signs a (NotSign ∷ others)
signs (And a b) others = signs a (signs b (AndSign ∷ others))
signs (Or a b) others = signs a (signs b (OrSign ∷ others))

-- what a sign makes of the trees before it, the last of them first
abbrev pub joined_by : Sign → List Condition → List Condition
joined_by (ColumnSign place) stack = Column place ∷ stack
joined_by (LiteralSign datum) stack = Literal datum ∷ stack
joined_by (CompareSign how) (b ∷ a ∷ stack) = Compare how a b ∷ stack
joined_by (IsSign question negated) (a ∷ stack) = Is question negated a ∷ stack
joined_by NotSign (a ∷ stack) = Not a ∷ stack
joined_by AndSign (b ∷ a ∷ stack) = And a b ∷ stack
joined_by OrSign (b ∷ a ∷ stack) = Or a b ∷ stack
joined_by sign stack = stack

abbrev pub rebuilt : List Condition → List Sign → List Condition
rebuilt stack [] = stack
rebuilt stack (sign ∷ others) = rebuilt (joined_by sign stack) others

abbrev pub first_of : List Condition → Condition
first_of [] = Literal Missing
first_of (condition ∷ stack) = condition

pub found_again : (c : Condition) (stack : List Condition) (others : List Sign) → rebuilt stack (signs c others) ≡ rebuilt (c ∷ stack) others
found_again (Column place) stack others = refl
found_again (Literal datum) stack others = refl
found_again (Compare how a b) stack others = found_again a stack (signs b (CompareSign how ∷ others)) ∙ found_again b (a ∷ stack) (CompareSign how ∷ others)
found_again (Is question negated a) stack others = found_again a stack (IsSign question negated ∷ others)
found_again (Not a) stack others = found_again a stack (NotSign ∷ others)
found_again (And a b) stack others = found_again a stack (signs b (AndSign ∷ others)) ∙ found_again b (a ∷ stack) (AndSign ∷ others)
found_again (Or a b) stack others = found_again a stack (signs b (OrSign ∷ others)) ∙ found_again b (a ∷ stack) (OrSign ∷ others)

abbrev pub condition_code : Coded Sign → Coded Condition
condition_code sign_code = code_by (List Sign) (coded_list sign_code) (λ c. signs c []) (λ l. first_of (rebuilt [] l)) (λ c. ap first_of (found_again c [] []))
