-- What the values of a reading stand for. No reader of the promise needs these.
use Rattle.std.specs.Prelude.{◌≡◌, ℕ, List, [], ◌∷◌, Option, Some, None, Result, Ok, Err}
use Rattle.conditions.specs.declared.fault.FilterFault.{FilterFault}
use Rattle.conditions.specs.declared.trees.part.Part.{Part}
use Rattle.conditions.specs.declared.trees.part.Tree.{Tree}
pub use Rattle.conditions.specs.declared.trees.pending.Pending.{Pending as Item}
use Rattle.conditions.specs.declared.trees.pending.Pending.TheVariants as items
use Rattle.conditions.specs.declared.fault.FilterFault.TheVariants.{Memory, Syntax}
use Rattle.conditions.specs.declared.trees.parser_state.ParserState.{ParserState}
use Rattle.conditions.specs.declared.trees.parser_state.ParserState.TheVariants as places
use Rattle.conditions.specs.declared.words.filter_word.FilterWord.{FilterWord as Read}
use Rattle.conditions.specs.declared.words.filter_word.FilterWord.TheVariants as reads
use Rattle.conditions.specs.Conditions.{Condition}
use Rattle.conditions.specs.Shapes.{shape}
use Rattle.conditions.specs.Stacks.{Pending, Enclosing, Denying, Joining, State, Wanting, Having, Asking, Word, Joins, Denies, Asks, Opens, Closes, Operand, Stray}
use Rattle.conditions.specs.Parts.{Grown}

abbrev pub seen_tree : Result Tree FilterFault → Result (Condition × ℕ) FilterFault
seen_tree (Ok tree) = Ok (shape tree.expression, tree.levels)
seen_tree (Err fault) = Err fault

abbrev pub seen_part : Part → Grown
seen_part part = record { tight = part.tightness; tree = seen_tree part.tree }

abbrev pub seen_pending : Item → Pending Grown
seen_pending items.Parenthesis = Enclosing
seen_pending items.Not = Denying
seen_pending (items.Joint joint part) = Joining joint (seen_part part)

-- the stack of a list whose last item is its top
abbrev pub stack_on : List (Pending Grown) → List Item → List (Pending Grown)
stack_on below [] = below
stack_on below (item ∷ items) = stack_on (seen_pending item ∷ below) items

abbrev pub stack_of : List Item → List (Pending Grown)
stack_of items = stack_on [] items

abbrev pub fold_seen : List (Pending Grown) → Part → List (Pending Grown) × Grown
fold_seen stack part = (stack, seen_part part)

abbrev pub seen_word : Read → Word Grown
seen_word (reads.Joint joint) = Joins joint
seen_word reads.Not = Denies
seen_word reads.Is = Asks
seen_word reads.Open = Opens
seen_word reads.Close = Closes
seen_word (reads.Operand part question) = Operand (seen_part part) question
seen_word reads.Stray = Stray

abbrev pub state_of : List Item → ParserState → State Grown
state_of items places.Wanting = Wanting (stack_of items)
state_of items (places.Having part) = Having (stack_of items) (seen_part part)
state_of items (places.Asking part negated) = Asking (stack_of items) (seen_part part) negated

-- A call that moves to this state, unless memory ran out; Syntax where there is none.
abbrev pub Moves : Result ParserState FilterFault → List Item → Option (State Grown) → Type 0
Moves (Ok place) items state = state ≡ Some (state_of items place)
Moves (Err Syntax) items state = state ≡ None
Moves (Err Memory) items state = Unit {0}
Moves (Err _) items state = ⊥

-- A call that gives this part, unless memory ran out; Syntax where there is none.
abbrev pub GivesPart : Result Part FilterFault → Option Grown → Type 0
GivesPart (Ok part) grown = grown ≡ Some (seen_part part)
GivesPart (Err Syntax) grown = grown ≡ None
GivesPart (Err Memory) grown = Unit {0}
GivesPart (Err _) grown = ⊥
