-- The part of a conversation that one call carries on, from the connection before it to the connection after it.
use Rattle.std.specs.Prelude.{◌≡◌, ℕ, ◌+◌, ◌-◌, ◌*◌, ◌^◌, ◌==◌, nat_le, ◌<◌, ◌≤◌, ◌⊎◌, Bool, ◌&&◌, false, true, List, [], ◌++◌, length, take, Option, Some, None, Result, Ok, Err}
use Rattle.std.specs.Int.{w32}
use Rattle.std.specs.List.{flat_map, AllByRecursion}
use Rattle.pqformat.specs.Fields.{byte_at, number_at}
use Rattle.frames.specs.declared.frontend.query.TheConstants.{QUERY}
use Rattle.server.specs.declared.connection_terms.ConnectionTerms.{ConnectionTerms}
use Rattle.server.specs.declared.fault.ConnFault.{ConnFault}
use Rattle.server.specs.declared.fault.ConnFault.TheVariants as faults
use Rattle.server.specs.declared.connection.Phase.{Phase}
use Rattle.server.specs.declared.connection.Phase.TheVariants as phases
use Rattle.server.specs.declared.connection.Connection.{Connection}
use Rattle.server.specs.declared.stages.stage.Stage.{Stage}
use Rattle.server.specs.declared.stages.stage.Stage.TheVariants.{Fresh, Idle, InBlock, Copying, Skipping, Streaming, Stopping, Closed}
use Rattle.server.specs.declared.stages.stage.Turned.{Turned}
use Rattle.pqformat.specs.Putting.{Extends}
use Rattle.std.specs.declared.alloc.AllocError.{AllocError}
use Rattle.server.specs.Calls.{Call, AreAsked}
use Rattle.server.specs.Conversation.{Gave, Tried}
use Rattle.server.specs.declared.conversation.ConnectionEvent.{ConnectionEvent}
use Rattle.server.specs.declared.conversation.ConnectionEvent.TheVariants.{Came, AllSent}
use Rattle.server.specs.Turns.{Turn, IsTurn, AreTurns, Waits, end_turn}
use Rattle.server.specs.Said.{end_of_stream}

-- a turn for a text, or for rows of a copy, which are asked for: so not the end of a stream
abbrev pub HasCause : Turn → Type 0
HasCause t = 0 < length t.text + length t.asked

abbrev pub IsAny : Turn → Type 0
IsAny t = Unit {0}

-- The turns between two connections, each of this kind: they spell what was left and what came, but for what is left now.
pub record Went {D : Type 0} (told : D → Call → D → Type 0) (Kind : Turn → Type 0) (input : List ℕ) (old : Connection) (backend : D) (out : List ℕ) (new : Connection) (backend' : D) (out' : List ℕ) : Type 0 where
  pub turns : List Turn
  pub kind : AllByRecursion Kind turns
  pub same : new.service ≡ old.service
  pub follow : AreTurns old.service old.stage turns new.stage
  pub spell : old.pending.items ++ input ≡ flat_map (λ t. t.text) turns ++ new.pending.items
  pub ask : AreAsked told backend (flat_map (λ t. t.asked) turns) backend'
  pub say : out' ≡ out ++ flat_map (λ t. t.said) turns

-- A turn at the front of what is pending asks this.
abbrev pub Asks : ConnectionTerms → Stage → List ℕ → List Call → Type 0
Asks service stage pending asked = (t : Turn) × (next : Stage) × (rest : List ℕ) × IsTurn service stage t next × (t.asked ≡ asked) × (pending ≡ t.text ++ rest)

-- A call in which memory ran out. The turns before that are whole; of the turn that failed nothing was said, and the backend
-- was asked nothing, or all that the turn asks.
pub record Broke {D : Type 0} (told : D → Call → D → Type 0) (input : List ℕ) (old : Connection) (backend : D) (out : List ℕ) (backend' : D) (out' : List ℕ) : Type 0 where
  pub turns : List Turn
  pub stage : Stage
  pub rest : List ℕ
  pub between : D
  pub kind : AllByRecursion HasCause turns
  pub follow : AreTurns old.service old.stage turns stage
  pub spell : old.pending.items ++ input ≡ flat_map (λ t. t.text) turns ++ rest
  pub ask : AreAsked told backend (flat_map (λ t. t.asked) turns) between
  pub say : out' ≡ out ++ flat_map (λ t. t.said) turns
  pub failed : Tried told (Asks old.service stage rest) between backend'

-- The end of a stream between two connections: the one turn without a text. What came before it is kept.
pub record Ended (old : Connection) (out : List ℕ) (new : Connection) (out' : List ℕ) : Type 0 where
  pub same : new.service ≡ old.service
  pub turn : IsTurn old.service old.stage (end_turn old.service.dialect) new.stage
  pub keep : new.pending.items ≡ old.pending.items
  pub say : out' ≡ out ++ end_of_stream old.service.dialect

-- what the client sent in it
abbrev pub bytes_heard : ConnectionEvent → List ℕ
bytes_heard (Came bytes) = bytes.items
bytes_heard AllSent = []

-- the first, if a stream stops at this stage, and else the second
abbrev pub IfStopping : Stage → Type 0 → Type 0 → Type 0
IfStopping (Stopping database) Then Else = Then
IfStopping Fresh Then Else = Else
IfStopping (Idle database) Then Else = Else
IfStopping (InBlock block) Then Else = Else
IfStopping (Copying copying) Then Else = Else
IfStopping (Skipping database) Then Else = Else
IfStopping (Streaming database) Then Else = Else
IfStopping Closed Then Else = Else

-- What comes is taken. That all has been sent ends a stream that stops, and is passed over else.
abbrev pub Happened : {D : Type 0} → (D → Call → D → Type 0) → ConnectionEvent → Connection → D → List ℕ → Connection → D → List ℕ → Type 0
Happened told (Came bytes) old backend out new backend' out' = Went told HasCause bytes.items old backend out new backend' out' × Waits new.stage new.pending.items
Happened told AllSent old backend out new backend' out' = (backend' ≡ backend) × IfStopping old.stage (Ended old out new out') ((new ≡ old) × (out' ≡ out))

-- until memory runs out; what comes to a closed connection is no exception
abbrev pub UnlessMemory : {A : Type 0} → Result A ConnFault → Type 0 → Type 0
UnlessMemory (Ok a) Fact = Fact
UnlessMemory (Err faults.Closed) Fact = Fact
UnlessMemory (Err faults.Memory) Fact = Unit {0}

abbrev pub phase_of : Stage → Phase
phase_of Fresh = phases.Startup
phase_of (Idle database) = phases.Idle
phase_of (InBlock block) = phases.Idle
phase_of (Copying copying) = phases.Idle
phase_of (Skipping database) = phases.Idle
phase_of (Streaming database) = phases.Streaming
phase_of (Stopping database) = phases.Stopping
phase_of Closed = phases.Closed

-- ---- one turn

-- the turn of this text
abbrev pub OneTurn : ConnectionTerms → Stage → List ℕ → Stage → List Call → List ℕ → Type 0
OneTurn service old text new asked said = IsTurn service old (record { text = text; asked = asked; said = said }) new

-- what was said, where nothing is asked of the backend
pub record Said (Fact : List Call → List ℕ → Type 0) (out : List ℕ) (out' : List ℕ) : Type 0 where
  pub text : List ℕ
  pub fact : Fact [] text
  pub says : out' ≡ out ++ text

-- Either nothing is whole and nothing changes, or a turn took the front of what was pending.
abbrev pub IsTurned : ConnectionTerms → Stage → List ℕ → Turned → Type 0 → ((List Call → List ℕ → Type 0) → Type 0) → Type 0
IsTurned service stage pending t Same Step =
    ((t.count ≡ 0) × (t.stage ≡ stage) × Waits stage pending × Same)
    ⊎ ((0 < t.count) × (t.count ≤ length pending) × Step (OneTurn service stage (take t.count pending) t.stage))

-- Either that, or memory ran out in the turn.
abbrev pub TakesTurn : {D : Type 0} → (D → Call → D → Type 0) → ConnectionTerms → Stage → List ℕ → Result Turned AllocError → D → List ℕ → D → List ℕ → Type 0
TakesTurn told service stage pending (Ok t) backend out backend' out' = IsTurned service stage pending t ((backend' ≡ backend) × (out' ≡ out)) (λ fact. Gave told fact backend out backend' out')
TakesTurn told service stage pending (Err e) backend out backend' out' = Tried told (Asks service stage pending) backend backend' × Extends out out'

-- ---- what is pending

-- as many bytes as a length tells, which counts itself
abbrev pub is_there : Option (ℕ × List ℕ) → Bool
is_there None = false
is_there (Some n) = nat_le n.0 (4 + length n.1)

-- a frame of a query's type byte, whole
abbrev pub has_query : Option (ℕ × List ℕ) → Bool
has_query None = false
has_query (Some front) = (front.0 == QUERY) && is_there (number_at w32 front.1)

-- what is answered next is a query
abbrev pub has_command : Stage → List ℕ → Bool
has_command (Idle database) pending = has_query (byte_at pending)
has_command (InBlock block) pending = has_query (byte_at pending)
has_command Fresh pending = false
has_command (Copying copying) pending = false
has_command (Skipping database) pending = false
has_command (Streaming database) pending = false
has_command (Stopping database) pending = false
has_command Closed pending = false

-- ---- how long a call can go on

abbrev pub is_copying : Stage → Bool
is_copying (Copying copying) = true
is_copying Fresh = false
is_copying (Idle database) = false
is_copying (InBlock block) = false
is_copying (Skipping database) = false
is_copying (Streaming database) = false
is_copying (Stopping database) = false
is_copying Closed = false

-- A copy ends before its rows can't be counted.
abbrev pub rows_left : Stage → ℕ
rows_left (Copying copying) = 1 + (2 ^ 64 - copying.count)
rows_left Fresh = 0
rows_left (Idle database) = 0
rows_left (InBlock block) = 0
rows_left (Skipping database) = 0
rows_left (Streaming database) = 0
rows_left (Stopping database) = 0
rows_left Closed = 0

-- Each turn takes bytes, or says rows.
abbrev pub most_turns : Connection → ℕ
most_turns connection = length connection.pending.items * (2 ^ 64 + 2) + rows_left connection.stage
