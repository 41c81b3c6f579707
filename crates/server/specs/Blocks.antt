-- Transaction blocks of a session (PostgreSQL 15, 13.2.2, 55.2.2.1 and 55.4): what begins and ends one, and what is answered in it. Each answer
-- ends in a ReadyForQuery, whose last byte tells the block's state.
use Rattle.std.specs.Prelude.{◌≡◌, ℕ, ◌≤◌, ◌-◌, ◌==◌, List, [], ◌∷◌, ◌++◌, length, take, Option, Some, None, Result, Ok, Err, Bool, true, false, codes, if◌then◌else◌}
use Rattle.std.specs.Str.{bytes_eq}
use Rattle.frames.specs.declared.back.Back.TheVariants.{ReadyForQuery}
use Rattle.frames.specs.declared.backend.error_response.TheConstants.{ERROR_RESPONSE}
use Rattle.frames.specs.declared.backend.ready_for_query.TransactionStatus.TheVariants as statuses
use Rattle.replcmd.specs.declared.command.Command.{Command}
use Rattle.replcmd.specs.declared.command.Command.TheVariants as commands
use Rattle.replcmd.specs.declared.clauses.snapshot_clause.SnapshotClause.TheVariants as snapshots
use Rattle.replcmd.specs.declared.clauses.strictness.Strictness.TheVariants.{Lenient}
use Rattle.replcmd.specs.Grammar.{SpellsCommand}
use Rattle.pqformat.specs.Putting.{Extends}
use Rattle.std.specs.declared.alloc.AllocError.{AllocError}
use Rattle.server.specs.declared.backend_fault.BackendFault.{BackendFault}
use Rattle.server.specs.declared.sessions.block.BlockState.{BlockState}
use Rattle.server.specs.declared.sessions.block.BlockState.TheVariants.{Begun, Used, Failed}
use Rattle.server.specs.declared.sessions.block.Block.{Block}
use Rattle.server.specs.declared.sessions.block.BlockEnding.{BlockEnding}
use Rattle.server.specs.declared.sessions.block.BlockEnding.TheVariants.{Commit, Rollback}
use Rattle.server.specs.declared.sessions.block.Apart.{Apart}
use Rattle.server.specs.declared.sessions.block.Apart.TheVariants.{Use, Export, Start}
use Rattle.server.specs.declared.asked.copy_command.CopyCommand.{CopyCommand}
use Rattle.server.specs.declared.refusal.Refusal.{Refusal}
use Rattle.server.specs.declared.refusal.Refusal.TheVariants as refusals
use Rattle.server.specs.declared.connection_terms.Dialect.{Dialect}
use Rattle.server.specs.declared.connection_terms.Dialect.TheVariants.{Commands, Questions}
use Rattle.server.specs.declared.stages.stage.Stage.{Stage}
use Rattle.server.specs.declared.stages.stage.Stage.TheVariants.{Idle, InBlock}
use Rattle.server.specs.Calls.{Call, CreateSnapshot, ReleaseSnapshot}
use Rattle.server.specs.Conversation.{RepliesIn}
use Rattle.server.specs.Copies.{AnswersCopy, ReadsCopy}
use Rattle.server.specs.Said.{sent_frame, completion, ready, error_and_ready, answer_to_create}

-- ---- texts

-- what a subscriber begins the copy of a table with
abbrev pub begins_block : Dialect → List ℕ → Bool
begins_block Commands text = false
begins_block Questions text = bytes_eq text (codes "BEGIN READ ONLY ISOLATION LEVEL REPEATABLE READ")

abbrev pub ending_of : List ℕ → Option BlockEnding
ending_of text = if bytes_eq text (codes "COMMIT") then Some Commit else if bytes_eq text (codes "ROLLBACK") then Some Rollback else None

-- Slots with snapshots and streams are commands of their own in a block.
abbrev pub apart_of : Command → Option Apart
apart_of (commands.Create slot snapshots.Use) = Some (Use slot)
apart_of (commands.Create slot snapshots.Export) = Some Export
apart_of (commands.Create slot snapshots.Nothing) = None
apart_of (commands.Start slot position options) = Some Start
apart_of commands.Identify = None
apart_of (commands.Drop slot) = None

-- Which of these the text spells, if it does.
abbrev pub ReadsApart : List ℕ → Option Apart → Type 0
ReadsApart text (Some apart) = (c : Command) × SpellsCommand Lenient text c × (apart_of c ≡ Some apart)
ReadsApart text None = (c : Command) → SpellsCommand Lenient text c → apart_of c ≡ None

-- its slot is no longer than slots' names are
abbrev pub HasShortSlot : Apart → Type 0
HasShortSlot (Use slot) = length slot ≤ 63
HasShortSlot Export = Unit {0}
HasShortSlot Start = Unit {0}

abbrev pub HasShortUse : Option Apart → Type 0
HasShortUse (Some apart) = HasShortSlot apart
HasShortUse None = Unit {0}

-- ---- answers

unfoldable pub completed : List ℕ → List ℕ
completed tag = sent_frame (completion tag) ++ ready

-- a block has begun
unfoldable pub block_begun : List ℕ
block_begun = sent_frame (completion (codes "BEGIN")) ++ sent_frame (ReadyForQuery statuses.InTransaction)

-- what was said is an ErrorResponse first
abbrev pub is_error : List ℕ → Bool
is_error [] = false
is_error (kind ∷ bytes) = kind == ERROR_RESPONSE

-- An answer as a block says it: at its end stands T, or E where it refuses, in place of the I of a session without one.
unfoldable pub told_in_block : List ℕ → List ℕ
told_in_block plain = take (length plain - 1) plain ++ ((if is_error plain then 69 else 84) ∷ [])

-- A block that was answered this: a refusal makes it fail.
abbrev pub block_after : Block → Bool → List ℕ → Block
block_after block holds plain = record { database = block.database; state = if is_error plain then Failed else Used; holds = holds }

abbrev pub new_block : List ℕ → Block
new_block database = record { database = database; state = Begun; holds = false }

-- ---- the end

-- COMMIT ends a block that failed as ROLLBACK does.
abbrev pub ending_tag : BlockState → BlockEnding → List ℕ
ending_tag Begun Commit = codes "COMMIT"
ending_tag Used Commit = codes "COMMIT"
ending_tag Failed Commit = codes "ROLLBACK"
ending_tag state Rollback = codes "ROLLBACK"

-- the snapshot that is held is let go
abbrev pub let_go : Bool → List Call
let_go true = ReleaseSnapshot ∷ []
let_go false = []

abbrev pub Ends : Block → BlockEnding → List Call → List ℕ → Stage → Type 0
Ends block ending asked said next = (asked ≡ let_go block.holds) × (said ≡ completed (ending_tag block.state ending)) × (next ≡ Idle block.database)

-- ---- queries

abbrev pub Refused : Block → Refusal → Bool → List Call → List ℕ → Type 0
Refused block refusal holds asked plain = (asked ≡ []) × (plain ≡ error_and_ready refusal) × (holds ≡ block.holds)

abbrev pub is_made : Result ℕ BackendFault → Bool
is_made (Ok position) = true
is_made (Err fault) = false

-- A slot is made with its snapshot, in one step, as the first of a block.
abbrev pub UsesSnapshot : BlockState → Block → List ℕ → Bool → List Call → List ℕ → Type 0
UsesSnapshot Begun block slot holds asked plain = (answer : Result ℕ BackendFault) × (asked ≡ CreateSnapshot slot answer ∷ []) × (plain ≡ answer_to_create slot answer) × (holds ≡ is_made answer)
UsesSnapshot Used block slot holds asked plain = Refused block refusals.NotFirst holds asked plain
UsesSnapshot Failed block slot holds asked plain = Refused block refusals.BlockFailed holds asked plain

abbrev pub AnswersApart : Apart → Block → Bool → List Call → List ℕ → Type 0
AnswersApart (Use slot) block holds asked plain = UsesSnapshot block.state block slot holds asked plain
AnswersApart Export block holds asked plain = Refused block refusals.ExportInBlock holds asked plain
AnswersApart Start block holds asked plain = Refused block refusals.StartInBlock holds asked plain

-- None of the other texts begins a stream, since a command that does is apart.
abbrev pub Answers : Option Apart → Block → List ℕ → Bool → List Call → List ℕ → Type 0
Answers (Some apart) block query holds asked plain = AnswersApart apart block holds asked plain
Answers None block query holds asked plain = ((begins : Bool) × RepliesIn Questions block.database query begins asked plain) × (holds ≡ block.holds)

-- A block within one is no other.
abbrev pub Begins : Bool → Block → List ℕ → Bool → List Call → List ℕ → Type 0
Begins true block query holds asked plain = (asked ≡ []) × (plain ≡ completed (codes "BEGIN")) × (holds ≡ block.holds)
Begins false block query holds asked plain = (apart : Option Apart) × ReadsApart query apart × Answers apart block query holds asked plain

-- All is refused once something was.
abbrev pub Says : BlockState → Block → List ℕ → Bool → List Call → List ℕ → Type 0
Says Failed block query holds asked plain = Refused block refusals.BlockFailed holds asked plain
Says Begun block query holds asked plain = Begins (begins_block Questions query) block query holds asked plain
Says Used block query holds asked plain = Begins (begins_block Questions query) block query holds asked plain

-- a call that gives a value once something was said
abbrev pub given : {A : Type 0} → Result (Unit {0}) AllocError → A → Result A AllocError
given (Ok u) a = Ok a
given (Err e) a = Err e

-- What is said of a plain answer, and which block it leaves, unless memory ran out.
abbrev pub Settles : Block → Result Bool AllocError → List ℕ → Result Stage AllocError → List ℕ → List ℕ → Type 0
Settles block (Ok holds) plain (Ok next) out out' = (next ≡ InBlock (block_after block holds plain)) × (out' ≡ out ++ told_in_block plain)
Settles block (Ok holds) plain (Err e) out out' = Extends out out'
Settles block (Err e) plain (Ok next) out out' = ⊥
Settles block (Err e) plain (Err f) out out' = Extends out out'

abbrev pub Goes : Block → List ℕ → List Call → List ℕ → Stage → Type 0
Goes block query asked said next = (holds : Bool) × (plain : List ℕ) × Says block.state block query holds asked plain × (said ≡ told_in_block plain) × (next ≡ InBlock (block_after block holds plain))

-- A copy is answered apart.
abbrev pub AnswersRead : Option CopyCommand → Block → List ℕ → List Call → List ℕ → Stage → Type 0
AnswersRead (Some copy) block query asked said next = AnswersCopy block.state block copy asked said next
AnswersRead None block query asked said next = Goes block query asked said next

abbrev pub AnswersUnended : Block → List ℕ → List Call → List ℕ → Stage → Type 0
AnswersUnended block query asked said next = (copy : Option CopyCommand) × ReadsCopy query copy × AnswersRead copy block query asked said next

-- what a query in a block asks and is answered, and where it leads to
abbrev pub AnswersIn : Option BlockEnding → Block → List ℕ → List Call → List ℕ → Stage → Type 0
AnswersIn (Some ending) block query asked said next = Ends block ending asked said next
AnswersIn None block query asked said next = AnswersUnended block query asked said next
