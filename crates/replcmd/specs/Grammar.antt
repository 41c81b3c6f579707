-- The commands of the streaming replication protocol (PostgreSQL 15, 55.4), each as the list of its parts:
--
--     IDENTIFY_SYSTEM
--     CREATE_REPLICATION_SLOT slot LOGICAL pgoutput
--         [ EXPORT_SNAPSHOT | NOEXPORT_SNAPSHOT | USE_SNAPSHOT | ( option [, ...] ) ]
--     DROP_REPLICATION_SLOT slot
--     START_REPLICATION SLOT slot LOGICAL position ( option 'value' [, ...] )
--
-- The options of a slot are `SNAPSHOT { 'export' | 'nothing' | 'use' }` and `TWO_PHASE [ Boolean ]`, once at most; prepared transactions are
-- sent once they are committed, whatever is asked. Those of a stream are those of pgoutput (PostgreSQL 15, 55.5): `proto_version` and `publication_names`, which are needed, and
-- `messages`. Where a command is read strictly, it asks for what is served and no more.
use Rattle.std.specs.Prelude.{◌≡◌, ℕ, List, [], ◌∷◌, ◌++◌, Bool, true, codes}
use Rattle.replcmd.specs.declared.text.token.Token.{Token}
use Rattle.replcmd.specs.declared.text.token.Token.TheVariants.{Word, Value, Mark}
use Rattle.replcmd.specs.declared.text.token.TheConstants.{OPEN, CLOSE, COMMA, SEMICOLON}
use Rattle.replcmd.specs.declared.clauses.setting.Setting.{Setting}
use Rattle.replcmd.specs.declared.clauses.snapshot_clause.SnapshotClause.{SnapshotClause}
use Rattle.replcmd.specs.declared.clauses.snapshot_clause.SnapshotClause.TheVariants.{Export}
use Rattle.replcmd.specs.declared.clauses.strictness.Strictness.{Strictness}
use Rattle.replcmd.specs.declared.clauses.strictness.Strictness.TheVariants.{Lenient}
use Rattle.replcmd.specs.declared.command.Command.{Command}
use Rattle.replcmd.specs.declared.command.Command.TheVariants.{Identify, Create, Start, Drop}
use Rattle.replcmd.specs.Position.{SpellsPosition}
use Rattle.replcmd.specs.Tokens.{Spells}
use Rattle.replcmd.specs.Settings.{AreSettings, IsValue, option_name}
use Rattle.replcmd.specs.Snapshots.{may_say, snapshot_keyword, snapshot_value}
use Rattle.replcmd.specs.Words.{is_keyword, IsName, is_slot_name, is_truth}

-- ---- parts

-- a keyword; a name; a position; this value in single quotes; a truth value; a value that says an option; a mark
pub data Part : Type 0 where
  Keyword : List ℕ → Part
  Named : List ℕ → Part
  At : ℕ → Part
  Quote : List ℕ → Part
  Truth : Bool → Part
  Chosen : Strictness → Setting → Part
  Sign : ℕ → Part

abbrev pub IsPart : Part → Token → Type 0
IsPart (Keyword k) (Word w) = is_keyword k w ≡ true
IsPart (Named n) token = IsName n token
IsPart (At n) (Word w) = SpellsPosition w n
IsPart (Quote v) (Value u) = u ≡ v
IsPart (Truth on) (Word w) = is_truth on w ≡ true
IsPart (Truth on) (Value u) = is_truth on u ≡ true
IsPart (Chosen strictness s) (Value u) = IsValue strictness s u
IsPart (Sign b) (Mark c) = c ≡ b
IsPart _ _ = ⊥

-- after the last part stands nothing, or one semicolon
abbrev pub IsEnd : List Token → Type 0
IsEnd [] = Unit {0}
IsEnd (token ∷ []) = IsPart (Sign SEMICOLON) token
IsEnd (token ∷ other ∷ tokens) = ⊥

-- The tokens are these parts, one by one, up to the end.
abbrev pub Follows : List Token → List Part → Type 0
Follows tokens [] = IsEnd tokens
Follows [] (part ∷ parts) = ⊥
Follows (token ∷ tokens) (part ∷ parts) = IsPart part token × Follows tokens parts

-- ---- options

abbrev pub setting_parts : Strictness → List Setting → List Part
setting_parts strictness [] = Sign CLOSE ∷ []
setting_parts strictness (s ∷ []) = Named (option_name s) ∷ Chosen strictness s ∷ Sign CLOSE ∷ []
setting_parts strictness (s ∷ t ∷ settings) = Named (option_name s) ∷ Chosen strictness s ∷ Sign COMMA ∷ setting_parts strictness (t ∷ settings)

-- ---- commands

abbrev pub create_parts : List ℕ → List Part → List Part
create_parts slot ending = Keyword (codes "CREATE_REPLICATION_SLOT") ∷ Named slot ∷ Keyword (codes "LOGICAL") ∷ Named (codes "pgoutput") ∷ ending

abbrev pub snapshot_parts : SnapshotClause → List Part → List Part
snapshot_parts snapshot parts = Keyword (codes "SNAPSHOT") ∷ Quote (snapshot_value snapshot) ∷ parts

-- TWO_PHASE, with a truth value or without
pub data IsFlag : List Part → Type 0 where
  Plain : IsFlag []
  Flagged : (on : Bool) → IsFlag (Truth on ∷ [])

abbrev pub two_phase_parts : List Part → List Part → List Part
two_phase_parts flag parts = Keyword (codes "TWO_PHASE") ∷ (flag ++ parts)

-- What is said of the snapshot, where it may be said: nothing, which is that it is exported; a keyword; or an option, beside TWO_PHASE or not.
pub data IsEnding : Strictness → SnapshotClause → List Part → Type 0 where
  Unsaid : {strictness : Strictness} → IsEnding strictness Export []
  ByKeyword : {strictness : Strictness} → (snapshot : SnapshotClause) → may_say strictness snapshot ≡ true → IsEnding strictness snapshot (Keyword (snapshot_keyword snapshot) ∷ [])
  ByOption : {strictness : Strictness} → (snapshot : SnapshotClause) → may_say strictness snapshot ≡ true
      → IsEnding strictness snapshot (Sign OPEN ∷ snapshot_parts snapshot (Sign CLOSE ∷ []))
  BeforeTwoPhase : (snapshot : SnapshotClause) → (flag : List Part) → IsFlag flag
      → IsEnding Lenient snapshot (Sign OPEN ∷ snapshot_parts snapshot (Sign COMMA ∷ two_phase_parts flag (Sign CLOSE ∷ [])))
  BehindTwoPhase : (snapshot : SnapshotClause) → (flag : List Part) → IsFlag flag
      → IsEnding Lenient snapshot (Sign OPEN ∷ two_phase_parts flag (Sign COMMA ∷ snapshot_parts snapshot (Sign CLOSE ∷ [])))
  TwoPhaseAlone : (flag : List Part) → IsFlag flag → IsEnding Lenient Export (Sign OPEN ∷ two_phase_parts flag (Sign CLOSE ∷ []))

abbrev pub start_parts : Strictness → List ℕ → ℕ → List Setting → List Part
start_parts strictness slot position settings =
    Keyword (codes "START_REPLICATION") ∷ Keyword (codes "SLOT") ∷ Named slot ∷ Keyword (codes "LOGICAL") ∷ At position ∷ Sign OPEN ∷ setting_parts strictness settings

-- The tokens say the command.
abbrev pub Says : Strictness → List Token → Command → Type 0
Says strictness tokens Identify = Follows tokens (Keyword (codes "IDENTIFY_SYSTEM") ∷ [])
Says strictness tokens (Create slot snapshot) =
    (is_slot_name slot ≡ true) × (ending : List Part) × IsEnding strictness snapshot ending × Follows tokens (create_parts slot ending)
Says strictness tokens (Drop slot) = (is_slot_name slot ≡ true) × Follows tokens (Keyword (codes "DROP_REPLICATION_SLOT") ∷ Named slot ∷ [])
Says strictness tokens (Start slot position options) =
    (is_slot_name slot ≡ true) × (settings : List Setting) × AreSettings settings options × Follows tokens (start_parts strictness slot position settings)

-- The whole text spells the command.
abbrev pub SpellsCommand : Strictness → List ℕ → Command → Type 0
SpellsCommand strictness text command = (tokens : List Token) × Spells text tokens × Says strictness tokens command
