-- The trees that words are read as: phrases, of which the law speaks, and conditions with their levels, which the code makes.
use Rattle.std.specs.Prelude.{ℕ, suc, max, nat_lt, ◌^◌, ℤ, pos, negsuc, Bool, List, Option, Some, None, Result, Ok, Err, if◌then◌else◌, codes}
use Rattle.conditions.specs.declared.trees.joint.Joint.{Joint}
use Rattle.conditions.specs.declared.trees.joint.Joint.TheVariants as joints
use Rattle.conditions.specs.Words.{Saying, SayBool, SayUnknown, SayName, SayNumber, SayText}
use Rattle.conditions.specs.Grammar.{Phrase, InName, InUnknown, InNumber, InText, InBool, InNull, InParentheses, InCompare, InIs, InNot, InAnd, InOr, tightness}
use Rattle.tables.specs.declared.column.Column.{Column as TableColumn}
use Rattle.conditions.specs.declared.words.token.Token.{Token}
use Rattle.conditions.specs.declared.fault.FilterFault.{FilterFault}
use Rattle.conditions.specs.declared.fault.FilterFault.TheVariants.{NumberRange, TooDeep}
use Rattle.conditions.specs.Conditions.{Missing, Flag, Number, Bytes, Condition, Column, Literal, Compare, Is, Not, And, Or}
use Rattle.conditions.specs.Grammar.{place_of, MOST_LEVELS}
use Rattle.conditions.specs.Words.{said_by}
use Rattle.conditions.specs.Stacks.{Trees, Word, binds, word_of, word_said}

abbrev pub joined_phrase : Joint → Phrase → Phrase → Phrase
joined_phrase joints.Or a b = InOr a b
joined_phrase joints.And a b = InAnd a b
joined_phrase (joints.Comparison how) a b = InCompare how a b

abbrev pub phrases : Trees Phrase
phrases = record { tight = tightness; joined = joined_phrase; denied = λ a. InNot a; asked = λ question negated a. InIs question negated a; enclosed = λ a. InParentheses a }

-- the phrase of one operand
abbrev pub leaf_of : Saying → Phrase
leaf_of (SayName name) = InName name
leaf_of SayUnknown = InUnknown
leaf_of (SayNumber n) = InNumber n
leaf_of (SayText text) = InText text
leaf_of (SayBool b) = InBool b
leaf_of saying = InNull

-- ---- conditions with their levels

-- A condition or an operand with its levels, or why there is none: a number of over 64 bits in it, or else too many levels.
pub record Grown : Type 0 where
  pub tight : ℕ
  pub tree : Result (Condition × ℕ) FilterFault

-- one level more over a condition of these levels
abbrev pub raised : Condition → ℕ → Result (Condition × ℕ) FilterFault
raised condition levels = if nat_lt levels MOST_LEVELS then Ok (condition, suc levels) else Err TooDeep

abbrev pub over : (Condition → Condition) → Result (Condition × ℕ) FilterFault → Result (Condition × ℕ) FilterFault
over make (Ok x) = raised (make x.0) x.1
over make (Err fault) = Err fault

-- a number of over 64 bits comes before too many levels
abbrev pub worse : FilterFault → FilterFault → FilterFault
worse NumberRange fault = NumberRange
worse other fault = fault

abbrev pub beside : (Condition → Condition → Condition) → Result (Condition × ℕ) FilterFault → Result (Condition × ℕ) FilterFault → Result (Condition × ℕ) FilterFault
beside make (Ok x) (Ok y) = raised (make x.0 y.0) (max x.1 y.1)
beside make (Ok x) (Err fault) = Err fault
beside make (Err fault) (Ok y) = Err fault
beside make (Err fault) (Err other) = Err (worse fault other)

abbrev pub joined_condition : Joint → Condition → Condition → Condition
joined_condition joints.Or a b = Or a b
joined_condition joints.And a b = And a b
joined_condition (joints.Comparison how) a b = Compare how a b

abbrev pub parts : Trees Grown
parts = record {
  tight = λ a. a.tight;
  joined = λ joint a b. record { tight = binds joint; tree = beside (joined_condition joint) a.tree b.tree };
  denied = λ a. record { tight = 2; tree = over (λ c. Not c) a.tree };
  asked = λ question negated a. record { tight = 3; tree = over (λ c. Is question negated c) a.tree };
  enclosed = λ a. record { tight = 5; tree = over (λ c. c) a.tree };
}

abbrev pub leaf : Condition → Grown
leaf condition = record { tight = 5; tree = Ok (condition, 1) }

-- an integer of 64 bits
abbrev pub fits_64 : ℤ → Bool
fits_64 (pos n) = nat_lt n (2 ^ 63)
fits_64 (negsuc n) = nat_lt n (2 ^ 63)

abbrev pub integer_if : ℤ → Option ℤ
integer_if n = if fits_64 n then Some n else None

-- an integer as an operand; None is one of over 64 bits
abbrev pub number_if : Option ℤ → Grown
number_if (Some n) = leaf (Literal (Number n))
number_if None = record { tight = 5; tree = Err NumberRange }

-- what a phrase comes to over these columns
abbrev pub grown : List TableColumn → Phrase → Grown
grown columns (InName name) = leaf (Column (place_of columns name))
grown columns InUnknown = leaf (Column (place_of columns (codes "unknown")))
grown columns (InNumber n) = number_if (integer_if n)
grown columns (InText text) = leaf (Literal (Bytes text))
grown columns (InBool b) = leaf (Literal (Flag b))
grown columns InNull = leaf (Literal Missing)
grown columns (InParentheses a) = parts.enclosed (grown columns a)
grown columns (InCompare how a b) = parts.joined (joints.Comparison how) (grown columns a) (grown columns b)
grown columns (InIs question negated a) = parts.asked question negated (grown columns a)
grown columns (InNot a) = parts.denied (grown columns a)
grown columns (InAnd a b) = parts.joined joints.And (grown columns a) (grown columns b)
grown columns (InOr a b) = parts.joined joints.Or (grown columns a) (grown columns b)

-- the word that is said over these columns, and the word of a token
abbrev pub word_said_of : List TableColumn → Saying → Word Grown
word_said_of columns saying = word_of (λ s. grown columns (leaf_of s)) saying

abbrev pub word_at : List TableColumn → Token → Word Grown
word_at columns token = word_said (λ saying. grown columns (leaf_of saying)) (said_by token)
