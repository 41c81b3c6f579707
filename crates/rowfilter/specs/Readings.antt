-- What the steps of reading a filter say of its text. No reader of the promise needs these.
use Rattle.std.specs.Prelude.{◌≡◌, ◌≤◌, ℕ, List, length, true, false, Result, Ok, Err}
use Rattle.tables.specs.declared.column.Column.{Column as TableColumn}
use Rattle.conditions.specs.declared.fault.FilterFault.{FilterFault}
use Rattle.conditions.specs.declared.fault.FilterFault.TheVariants.{Syntax, UnknownColumn, TypeMismatch, NumberRange, TooDeep, Memory}
use Rattle.conditions.specs.declared.expression.Expression.{Expression}
use Rattle.conditions.specs.declared.trees.part.Part.{Part}
use Rattle.conditions.specs.declared.trees.part.Tree.{Tree}
use Rattle.conditions.specs.declared.words.token.Token.{Token}
use Rattle.conditions.specs.Conditions.{Condition}
use Rattle.conditions.specs.Grammar.{Phrase, SpellsPhrase, HasLargeNumber, HasManyLevels, MOST_BYTES}
use Rattle.conditions.specs.Kinds.{are_known, IsCondition}
use Rattle.conditions.specs.Tokens.{Spells}

-- A call that gives this filter, unless memory ran out.
abbrev pub GivesFilter : Result Condition FilterFault → Condition → Type 0
GivesFilter (Ok filter) condition = filter ≡ condition
GivesFilter (Err Memory) condition = Unit {0}
GivesFilter (Err _) condition = ⊥

-- Why a text has no tokens: it is too long, or not made of any.
abbrev pub IsUnspelled : List ℕ → FilterFault → Type 0
IsUnspelled text Syntax = (tokens : List Token) → length text ≤ MOST_BYTES → Spells text tokens → ⊥
IsUnspelled text Memory = Unit {0}
IsUnspelled text _ = ⊥

-- Why a text means no condition, whatever the kinds of the columns.
abbrev pub IsUnread : List ℕ → FilterFault → Type 0
IsUnread text Syntax = (phrase : Phrase) → SpellsPhrase text phrase → ⊥
IsUnread text NumberRange = HasLargeNumber text
IsUnread text TooDeep = HasManyLevels text
IsUnread text Memory = Unit {0}
IsUnread text _ = ⊥

-- Whether a condition makes sense over these columns, and why not.
abbrev pub IsJudged : List TableColumn → Condition → Result Unit FilterFault → Type 0
IsJudged columns condition (Ok _) = IsCondition columns condition
IsJudged columns condition (Err UnknownColumn) = are_known (length columns) condition ≡ false
IsJudged columns condition (Err TypeMismatch) = (are_known (length columns) condition ≡ true) × (IsCondition columns condition → ⊥)
IsJudged columns condition (Err _) = ⊥

-- the expression of what was read
abbrev pub tree_expression : Result Tree FilterFault → Result Expression FilterFault
tree_expression (Ok tree) = Ok tree.expression
tree_expression (Err fault) = Err fault

abbrev pub expression_of : Result Part FilterFault → Result Expression FilterFault
expression_of (Ok part) = tree_expression part.tree
expression_of (Err fault) = Err fault
