-- The names of slots in commands are short.
use Rattle.std.proofs.Common.{◌≡◌, ℕ, ◌≤◌, Bool, true, List, length, arith}
use Rattle.std.specs.Prelude.{◌&&◌, nat_le, nat_lt}
use Rattle.std.specs.List.{list_all}
use Rattle.std.proofs.lemmas.Bool.Decides.{nat_tests}
use Rattle.replcmd.specs.declared.command.Command.{Command}
use Rattle.replcmd.specs.declared.command.Command.TheVariants.{Identify, Create, Start, Drop}
use Rattle.replcmd.specs.declared.clauses.strictness.Strictness.{Strictness}
use Rattle.replcmd.specs.Grammar.{SpellsCommand}
use Rattle.replcmd.specs.Words.{is_slot_byte}
use Rattle.server.specs.declared.asked.question.Question.{Question}
use Rattle.server.specs.declared.asked.question.Question.TheVariants.{SearchPath, InitialCopy, Publications, Tables, Columns, Table, ColumnLists, Attributes, RowFilters, Show, DropWhenFree}
use Rattle.server.specs.Questions.{SpellsQuestion}
use Rattle.server.specs.Conversation.{HasShortName, HasShortSlot}

short_name : (n : ℕ) (rest : Bool) → (nat_lt 0 n && (nat_le n 63 && rest)) ≡ true → n ≤ 63
short_name n rest is = grind (arith, nat_tests)

pub short_slot : (strictness : Strictness) (text : List ℕ) (c : Command) → SpellsCommand strictness text c → HasShortSlot c
short_slot strictness text Identify spells = tt
short_slot strictness text (Create slot snapshot) spells = short_name (length slot) (list_all is_slot_byte slot) spells.2.0
short_slot strictness text (Start slot position names) spells = tt
short_slot strictness text (Drop slot) spells = tt

-- and so are those of parameters in questions
pub short_parameter : (text : List ℕ) (question : Question) → SpellsQuestion text question → HasShortName question
short_parameter text SearchPath spells = tt
short_parameter text InitialCopy spells = tt
short_parameter text (Publications names) spells = tt
short_parameter text (Tables names) spells = tt
short_parameter text (Columns names) spells = tt
short_parameter text (Table table) spells = tt
short_parameter text (ColumnLists oid names) spells = tt
short_parameter text (Attributes oid) spells = tt
short_parameter text (RowFilters oid names) spells = tt
short_parameter text (Show name) spells = short_name (length name) (list_all is_slot_byte name) spells.0
short_parameter text (DropWhenFree slot) spells = tt
