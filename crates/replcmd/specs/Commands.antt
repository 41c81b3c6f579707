-- Reading a command whole: its words, its list of options, and what stands after it. What concerns the list of options as a whole is
-- judged after all else.
use Rattle.std.specs.Prelude.{ℕ, suc, ◌==◌, List, [], ◌∷◌, length, Result, Ok, Err, Bool, true, false, if◌then◌else◌, codes}
use Rattle.std.specs.Option.{ok_or}
use Rattle.std.specs.Str.{bytes_eq}
use Rattle.replcmd.specs.declared.fault.CmdFault.{CmdFault}
use Rattle.replcmd.specs.declared.fault.CmdFault.TheVariants.{Syntax, Unsupported}
use Rattle.replcmd.specs.declared.text.token.Token.{Token}
use Rattle.replcmd.specs.declared.text.token.Token.TheVariants.{Word, Value, Mark}
use Rattle.replcmd.specs.declared.text.token.TheConstants.{OPEN, CLOSE, COMMA}
use Rattle.replcmd.specs.declared.text.verb.Verb.{Verb}
use Rattle.replcmd.specs.declared.text.verb.Verb.TheVariants as verb
use Rattle.replcmd.specs.declared.clauses.setting.Setting.{Setting}
use Rattle.replcmd.specs.declared.clauses.snapshot_clause.SnapshotClause.{SnapshotClause}
use Rattle.replcmd.specs.declared.clauses.snapshot_clause.SnapshotClause.TheVariants.{Export}
use Rattle.replcmd.specs.declared.clauses.strictness.Strictness.{Strictness}
use Rattle.replcmd.specs.declared.clauses.strictness.Strictness.TheVariants.{Strict, Lenient}
use Rattle.replcmd.specs.declared.command.Command.{Command}
use Rattle.replcmd.specs.declared.command.Command.TheVariants.{Identify, Create, Start, Drop}
use Rattle.replcmd.specs.Lexing.{Lexes}
use Rattle.replcmd.specs.Reading.{◌>>=◌, Answers, begins_with_name, end_at, keyword_at, name_at, past_mark, past_snapshot, past_word, position_at, separated_items, slot_at, truth_of, value_at, verb_at}
use Rattle.replcmd.specs.Snapshots.{snapshot_named}
use Rattle.replcmd.specs.Settings.{setting_at, told_options}

-- ---- the list of options

abbrev pub more_settings : List Token → Result (Bool × List Token) CmdFault
more_settings (Mark m ∷ tokens) = if m == COMMA then Ok (true, tokens) else if m == CLOSE then Ok (false, tokens) else Err Syntax
more_settings _ = Err Syntax

unfoldable pub settings_at : Strictness → List Token → Result (List Setting × List Token) CmdFault
settings_at strictness tokens = separated_items (setting_at strictness) more_settings (suc (length tokens)) tokens

-- An absent list has no options, and so has an empty one.
abbrev pub in_brackets : Strictness → Bool × List Token → Result (List Setting × List Token) CmdFault
in_brackets strictness (true, tokens) = Ok ([], tokens)
in_brackets strictness (false, tokens) = settings_at strictness tokens

abbrev pub if_open : Strictness → Bool × List Token → Result (List Setting × List Token) CmdFault
if_open strictness (true, tokens) = in_brackets strictness (past_mark CLOSE tokens)
if_open strictness (false, tokens) = Ok ([], tokens)

unfoldable pub options_at : Strictness → List Token → Result (List Setting × List Token) CmdFault
options_at strictness tokens = if_open strictness (past_mark OPEN tokens)

-- ---- commands

abbrev pub identify_at : List Token → Result Command CmdFault
identify_at tokens = end_at verb.Identify tokens >>= λ end. Ok Identify

unfoldable pub plugin_at : List Token → Result (List Token) CmdFault
plugin_at tokens = name_at tokens >>= λ name. if bytes_eq name.0 (codes "pgoutput") then Ok name.1 else Err Unsupported

-- the fault of what stands where an option of a slot must stand
abbrev pub other_option : List Token → CmdFault
other_option tokens = if begins_with_name tokens then Unsupported else Syntax

-- the bracket that closes the options
abbrev pub slot_bracket_at : List Token → Result (List Token) CmdFault
slot_bracket_at (Mark m ∷ tokens) = if m == COMMA then Err (other_option tokens) else if m == CLOSE then Ok tokens else Err Syntax
slot_bracket_at _ = Err Syntax

-- a truth value, or none
abbrev pub flag_at : List Token → Result (List Token) CmdFault
flag_at (Word w ∷ tokens) = ok_or (truth_of w) Syntax >>= λ on. Ok tokens
flag_at (Value v ∷ tokens) = ok_or (truth_of v) Syntax >>= λ on. Ok tokens
flag_at tokens = Ok tokens

abbrev pub if_two_phase : Bool × List Token → Result (List Token) CmdFault
if_two_phase (true, tokens) = flag_at tokens
if_two_phase (false, tokens) = Err (other_option tokens)

unfoldable pub two_phase_at : List Token → Result (List Token) CmdFault
two_phase_at tokens = if_two_phase (past_word (codes "TWO_PHASE") tokens)

abbrev pub snapshot_value_at : Strictness → List Token → Result (SnapshotClause × List Token) CmdFault
snapshot_value_at strictness tokens = do
  value ← value_at tokens
  snapshot ← ok_or (snapshot_named strictness value.0) Unsupported
  Ok (snapshot, value.1)

-- SNAPSHOT as the first option, which TWO_PHASE may follow
unfoldable pub closed_at : Strictness → List Token → Result (List Token) CmdFault
closed_at Strict tokens = slot_bracket_at tokens
closed_at Lenient tokens = more_settings tokens >>= λ goes. if goes.0 then (two_phase_at goes.1 >>= λ rest. slot_bracket_at rest) else Ok goes.1

unfoldable pub first_snapshot_at : Strictness → List Token → Result (SnapshotClause × List Token) CmdFault
first_snapshot_at strictness tokens = do
  snapshot ← snapshot_value_at strictness tokens
  rest ← closed_at strictness snapshot.1
  Ok (snapshot.0, rest)

-- TWO_PHASE as the first one, which SNAPSHOT may follow
abbrev pub if_last : Bool × List Token → Result (SnapshotClause × List Token) CmdFault
if_last (true, tokens) = snapshot_value_at Lenient tokens >>= λ snapshot. slot_bracket_at snapshot.1 >>= λ rest. Ok (snapshot.0, rest)
if_last (false, tokens) = Err (other_option tokens)

unfoldable pub last_snapshot_at : List Token → Result (SnapshotClause × List Token) CmdFault
last_snapshot_at tokens = if_last (past_word (codes "SNAPSHOT") tokens)

unfoldable pub first_two_phase_at : List Token → Result (SnapshotClause × List Token) CmdFault
first_two_phase_at tokens = do
  rest ← two_phase_at tokens
  goes ← more_settings rest
  if goes.0 then last_snapshot_at goes.1 else Ok (Export, goes.1)

abbrev pub if_snapshot : Strictness → Bool × List Token → Result (SnapshotClause × List Token) CmdFault
if_snapshot strictness (true, tokens) = first_snapshot_at strictness tokens
if_snapshot Strict (false, tokens) = Err (other_option tokens)
if_snapshot Lenient (false, tokens) = first_two_phase_at tokens

unfoldable pub slot_options_at : Strictness → List Token → Result (SnapshotClause × List Token) CmdFault
slot_options_at strictness tokens = if_snapshot strictness (past_word (codes "SNAPSHOT") tokens)

abbrev pub ending_from : Strictness → Bool × List Token → Result (SnapshotClause × List Token) CmdFault
ending_from strictness (true, tokens) = slot_options_at strictness tokens
ending_from strictness (false, tokens) = Ok (past_snapshot strictness tokens)

unfoldable pub ending_at : Strictness → List Token → Result (SnapshotClause × List Token) CmdFault
ending_at strictness tokens = ending_from strictness (past_mark OPEN tokens)

unfoldable pub create_at : Strictness → List Token → Result Command CmdFault
create_at strictness tokens = do
  slot ← slot_at tokens
  logical ← keyword_at verb.Create (codes "LOGICAL") slot.1
  plugin ← plugin_at logical
  ending ← ending_at strictness plugin
  end ← end_at verb.Create ending.1
  Ok (Create slot.0 ending.0)

unfoldable pub drop_at : List Token → Result Command CmdFault
drop_at tokens = do
  slot ← slot_at tokens
  end ← end_at verb.Drop slot.1
  Ok (Drop slot.0)

unfoldable pub start_at : Strictness → List Token → Result Command CmdFault
start_at strictness tokens = do
  word ← keyword_at verb.Start (codes "SLOT") tokens
  slot ← slot_at word
  logical ← keyword_at verb.Start (codes "LOGICAL") slot.1
  position ← position_at logical
  settings ← options_at strictness position.1
  end ← end_at verb.Start settings.1
  options ← told_options settings.0
  Ok (Start slot.0 position.0 options)

abbrev pub body_at : Strictness → Verb → List Token → Result Command CmdFault
body_at strictness verb.Identify tokens = identify_at tokens
body_at strictness verb.Create tokens = create_at strictness tokens
body_at strictness verb.Drop tokens = drop_at tokens
body_at strictness verb.Start tokens = start_at strictness tokens

unfoldable pub command_at : Strictness → List Token → Result Command CmdFault
command_at strictness tokens = verb_at tokens >>= λ v. body_at strictness v.0 v.1

-- A call that answers what the reading of a text's tokens gives. A text has one list of tokens.
abbrev pub Tells : Strictness → List ℕ → Result Command CmdFault → Type 0
Tells strictness text result = (tokens : List Token) × Lexes text tokens × Answers result (command_at strictness tokens)
