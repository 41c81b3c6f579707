-- Which text is a filter, and which: the tree of its parts, with the parentheses that are written.
use Rattle.std.specs.Prelude.{◌≡◌, ℕ, suc, ◌≤◌, ◌<◌, max, ℤ, FitsSigned, List, [], ◌∷◌, ◌++◌, length, Some, codes, if◌then◌else◌, Bool, true, false}
use Rattle.std.specs.Int.{w64}
use Rattle.std.specs.Str.{bytes_eq}
use Rattle.tables.specs.declared.column.Column.{Column as TableColumn}
use Rattle.tables.specs.declared.table.Table.{Table}
use Rattle.conditions.specs.declared.words.token.Token.{Token}
use Rattle.conditions.specs.declared.fault.FilterFault.{FilterFault}
use Rattle.conditions.specs.declared.fault.FilterFault.TheVariants.{Syntax, UnknownColumn, TypeMismatch, NumberRange, TooDeep, Memory}
use Rattle.conditions.specs.declared.values.comparison.Comparison.{Comparison}
use Rattle.conditions.specs.declared.values.is_test.IsTest.{IsTest}
use Rattle.conditions.specs.declared.values.is_test.IsTest.TheVariants as questions
use Rattle.conditions.specs.Conditions.{Missing, Flag, Number, Bytes, Condition, Column, Literal, Compare, Is, Not, And, Or}
use Rattle.conditions.specs.Tokens.{Spells}
use Rattle.conditions.specs.Words.{Saying, SayAnd, SayOr, SayNot, SayIs, SayNull, SayBool, SayUnknown, SayName, SayNumber, SayText, SayComparison, SayOpen, SayClose, said_by_all}
use Rattle.conditions.specs.Kinds.{are_known, IsCondition}

pub data Phrase : Type 0 where
  InName : List ℕ → Phrase
  -- the name unknown, bare
  InUnknown : Phrase
  InNumber : ℤ → Phrase
  InText : List ℕ → Phrase
  InBool : Bool → Phrase
  InNull : Phrase
  InParentheses : Phrase → Phrase
  InCompare : Comparison → Phrase → Phrase → Phrase
  InIs : IsTest → Bool → Phrase → Phrase
  InNot : Phrase → Phrase
  InAnd : Phrase → Phrase → Phrase
  InOr : Phrase → Phrase → Phrase

-- ---- how it is written

abbrev pub saying_of_question : IsTest → Saying
saying_of_question questions.Null = SayNull
saying_of_question questions.True = SayBool true
saying_of_question questions.False = SayBool false
saying_of_question questions.Unknown = SayUnknown

abbrev pub is_or_is_not : Bool → List Saying
is_or_is_not false = SayIs ∷ []
is_or_is_not true = SayIs ∷ SayNot ∷ []

abbrev pub sayings_of : Phrase → List Saying
sayings_of (InName name) = SayName name ∷ []
sayings_of InUnknown = SayUnknown ∷ []
sayings_of (InNumber n) = SayNumber n ∷ []
sayings_of (InText text) = SayText text ∷ []
sayings_of (InBool b) = SayBool b ∷ []
sayings_of InNull = SayNull ∷ []
sayings_of (InParentheses a) = SayOpen ∷ (sayings_of a ++ SayClose ∷ [])
sayings_of (InCompare how a b) = sayings_of a ++ SayComparison how ∷ sayings_of b
sayings_of (InIs question negated a) = sayings_of a ++ (is_or_is_not negated ++ saying_of_question question ∷ [])
sayings_of (InNot a) = SayNot ∷ sayings_of a
sayings_of (InAnd a b) = sayings_of a ++ SayAnd ∷ sayings_of b
sayings_of (InOr a b) = sayings_of a ++ SayOr ∷ sayings_of b

-- ---- what binds tighter

-- 0 OR, 1 AND, 2 NOT, 3 IS, 4 a comparison, 5 an operand
abbrev pub tightness : Phrase → ℕ
tightness (InOr a b) = 0
tightness (InAnd a b) = 1
tightness (InNot a) = 2
tightness (InIs question negated a) = 3
tightness (InCompare how a b) = 4
tightness _ = 5

-- Each part binds as tight as its place asks. AND and OR take their like on the left alone; IS and a comparison take no
-- like without parentheses.
abbrev pub IsBound : Phrase → Type 0
IsBound (InParentheses a) = IsBound a
IsBound (InCompare how a b) = (5 ≤ tightness a) × (5 ≤ tightness b) × (IsBound a × IsBound b)
IsBound (InIs question negated a) = (4 ≤ tightness a) × IsBound a
IsBound (InNot a) = (2 ≤ tightness a) × IsBound a
IsBound (InAnd a b) = (1 ≤ tightness a) × (2 ≤ tightness b) × (IsBound a × IsBound b)
IsBound (InOr a b) = (1 ≤ tightness b) × (IsBound a × IsBound b)
IsBound _ = Unit {0}

-- ---- what it means over the columns of a table

-- the place of the first column with this name; the number of columns where none has it
abbrev pub place_of : List TableColumn → List ℕ → ℕ
place_of [] name = 0
place_of (column ∷ columns) name = if bytes_eq column.name name then 0 else suc (place_of columns name)

abbrev pub meaning_of : List TableColumn → Phrase → Condition
meaning_of columns (InName name) = Column (place_of columns name)
meaning_of columns InUnknown = Column (place_of columns (codes "unknown"))
meaning_of columns (InNumber n) = Literal (Number n)
meaning_of columns (InText text) = Literal (Bytes text)
meaning_of columns (InBool b) = Literal (Flag b)
meaning_of columns InNull = Literal Missing
meaning_of columns (InParentheses a) = meaning_of columns a
meaning_of columns (InCompare how a b) = Compare how (meaning_of columns a) (meaning_of columns b)
meaning_of columns (InIs question negated a) = Is question negated (meaning_of columns a)
meaning_of columns (InNot a) = Not (meaning_of columns a)
meaning_of columns (InAnd a b) = And (meaning_of columns a) (meaning_of columns b)
meaning_of columns (InOr a b) = Or (meaning_of columns a) (meaning_of columns b)

-- ---- limits

abbrev pub MOST_LEVELS : ℕ
MOST_LEVELS = 64

abbrev pub MOST_BYTES : ℕ
MOST_BYTES = 4096

-- each operand, comparison, IS, NOT, AND, OR and pair of parentheses is one level
abbrev pub levels : Phrase → ℕ
levels (InParentheses a) = suc (levels a)
levels (InCompare how a b) = suc (max (levels a) (levels b))
levels (InIs question negated a) = suc (levels a)
levels (InNot a) = suc (levels a)
levels (InAnd a b) = suc (max (levels a) (levels b))
levels (InOr a b) = suc (max (levels a) (levels b))
levels _ = 1

-- its numbers are of 64 bits
abbrev pub IsInRange : Phrase → Type 0
IsInRange (InNumber n) = FitsSigned w64 n
IsInRange (InParentheses a) = IsInRange a
IsInRange (InCompare how a b) = IsInRange a × IsInRange b
IsInRange (InIs question negated a) = IsInRange a
IsInRange (InNot a) = IsInRange a
IsInRange (InAnd a b) = IsInRange a × IsInRange b
IsInRange (InOr a b) = IsInRange a × IsInRange b
IsInRange _ = Unit {0}

-- ---- whole texts

-- The text is written as this phrase is.
pub record SpellsPhrase (text : List ℕ) (phrase : Phrase) : Type 0 where
  pub short : length text ≤ MOST_BYTES
  pub tokens : List Token
  pub are_spelled : Spells text tokens
  pub say : said_by_all tokens ≡ Some (sayings_of phrase)
  pub bound : IsBound phrase

-- The text is within the limits, and means this condition over these columns.
pub record SpellsCondition (columns : List TableColumn) (text : List ℕ) (condition : Condition) : Type 0 where
  pub phrase : Phrase
  pub spells : SpellsPhrase text phrase
  pub in_range : IsInRange phrase
  pub flat : levels phrase ≤ MOST_LEVELS
  pub is_meant : condition ≡ meaning_of columns phrase

-- The text spells this filter of the table.
pub record SpellsFilter (table : Table) (text : List ℕ) (condition : Condition) : Type 0 where
  pub means : SpellsCondition table.columns text condition
  pub fits : IsCondition table.columns condition

-- ---- refusals, in the order in which they count

-- A number of the phrase is of over 64 bits.
pub record HasLargeNumber (text : List ℕ) : Type 0 where
  pub phrase : Phrase
  pub spells : SpellsPhrase text phrase
  pub large : IsInRange phrase → ⊥

-- The phrase has too many levels.
pub record HasManyLevels (text : List ℕ) : Type 0 where
  pub phrase : Phrase
  pub spells : SpellsPhrase text phrase
  pub in_range : IsInRange phrase
  pub deep : MOST_LEVELS < levels phrase

-- The condition names a column that the table doesn't have; or else kinds don't go together.
pub record HasUnknownColumn (columns : List TableColumn) (text : List ℕ) : Type 0 where
  pub condition : Condition
  pub means : SpellsCondition columns text condition
  pub unknown : are_known (length columns) condition ≡ false

pub record HasMismatch (columns : List TableColumn) (text : List ℕ) : Type 0 where
  pub condition : Condition
  pub means : SpellsCondition columns text condition
  pub known : are_known (length columns) condition ≡ true
  pub unfit : IsCondition columns condition → ⊥

-- Why the text is no filter of the table. Want of memory says nothing of the text.
abbrev pub IsRefused : Table → List ℕ → FilterFault → Type 0
IsRefused table text Syntax = (phrase : Phrase) → SpellsPhrase text phrase → ⊥
IsRefused table text NumberRange = HasLargeNumber text
IsRefused table text TooDeep = HasManyLevels text
IsRefused table text UnknownColumn = HasUnknownColumn table.columns text
IsRefused table text TypeMismatch = HasMismatch table.columns text
IsRefused table text Memory = Unit {0}
