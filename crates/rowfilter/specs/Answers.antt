-- What reading a text as a filter of a table comes to, as a function of both: the filter that it spells, or why it is none.
use Rattle.std.specs.Prelude.{◌≡◌, ℕ, nat_lt, List, [], ◌∷◌, length, map, Option, Some, None, Result, Ok, Err, if◌then◌else◌}
use Rattle.std.specs.List.{list_any}
use Rattle.tables.specs.declared.column.Column.{Column as TableColumn}
use Rattle.tables.specs.declared.table.Table.{Table}
use Rattle.conditions.specs.declared.fault.FilterFault.{FilterFault}
use Rattle.conditions.specs.declared.fault.FilterFault.TheVariants.{Syntax, UnknownColumn, TypeMismatch, Memory}
use Rattle.conditions.specs.declared.values.sort.Sort.{Sort}
use Rattle.conditions.specs.declared.words.token.Token.{Token}
use Rattle.conditions.specs.Conditions.{Condition}
use Rattle.conditions.specs.Grammar.{MOST_BYTES}
use Rattle.conditions.specs.Kinds.{are_known, is_truth, of_one, sort_of}
use Rattle.conditions.specs.Lexing.{is_stray, token_at}
use Rattle.conditions.specs.Parts.{Grown, parts, word_at}
use Rattle.conditions.specs.Stacks.{Wanting, run}

abbrev pub with_more : Option (Token × List ℕ) → (List ℕ → List Token) → List Token
with_more None more = []
with_more (Some found) more = found.0 ∷ more found.1

-- the tokens of a text, one for each byte of the first list at most
abbrev pub tokens_within : List ℕ → List ℕ → List Token
tokens_within [] text = []
tokens_within (b ∷ bytes) text = with_more (token_at text) (tokens_within bytes)

-- the tokens of a text, which has no more of them than bytes
abbrev pub tokens_in : List ℕ → List Token
tokens_in text = tokens_within text text

abbrev pub without_levels : Result (Condition × ℕ) FilterFault → Result Condition FilterFault
without_levels (Ok x) = Ok x.0
without_levels (Err fault) = Err fault

abbrev pub condition_of : Option Grown → Result Condition FilterFault
condition_of None = Err Syntax
condition_of (Some grown) = without_levels grown.tree

-- what tokens come to over these columns, whatever their kinds
abbrev pub condition_in : List TableColumn → List Token → Result Condition FilterFault
condition_in columns tokens = condition_of (run parts (Wanting []) (map (word_at columns) tokens))

abbrev pub if_sorted : Option Sort → Condition → Result Condition FilterFault
if_sorted None condition = Err TypeMismatch
if_sorted (Some sort) condition = Ok condition

-- a condition whose columns are there and whose kinds go together
abbrev pub judged_condition : List TableColumn → Condition → Result Condition FilterFault
judged_condition columns condition =
    if are_known (length columns) condition then if_sorted (of_one is_truth (sort_of columns condition)) condition
    else Err UnknownColumn

abbrev pub judged_condition_if : List TableColumn → Result Condition FilterFault → Result Condition FilterFault
judged_condition_if columns (Ok condition) = judged_condition columns condition
judged_condition_if columns (Err fault) = Err fault

abbrev pub read_tokens : List TableColumn → List Token → Result Condition FilterFault
read_tokens columns tokens = if list_any is_stray tokens then Err Syntax else judged_condition_if columns (condition_in columns tokens)

-- the filter of the table that the text spells, or why it is none
unfoldable pub read_filter : Table → List ℕ → Result Condition FilterFault
read_filter table text = if nat_lt MOST_BYTES (length text) then Err Syntax else read_tokens table.columns (tokens_in text)

-- What a reader of filters answers is this, want of memory apart.
abbrev pub Answers : Result Condition FilterFault → Result Condition FilterFault → Type 0
Answers (Ok condition) read = read ≡ Ok condition
Answers (Err Memory) read = Unit {0}
Answers (Err fault) read = read ≡ Err fault
