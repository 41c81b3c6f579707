-- A conversation as a list of turns: each is a text of the client, what was asked of the backend for it, and what was said
-- to it (PostgreSQL 15, 55.2.1 to 55.2.3, 55.2.6 and 55.4).
use Rattle.std.specs.Prelude.{◌≡◌, ℕ, ◌⊎◌, List, [], ◌∷◌, ◌++◌, Option, Some, None, Ok, Err, Bool, true, false, codes, if◌then◌else◌}
use Rattle.std.specs.List.{flat_map}
use Rattle.frames.specs.declared.fault.FrameFault.{FrameFault}
use Rattle.frames.specs.declared.fault.FrameFault.TheVariants as frames
use Rattle.frames.specs.declared.frontend.startup.Startup.{Startup}
use Rattle.frames.specs.declared.frontend.startup.Startup.TheVariants.{Session, Ssl, Gss, Cancel}
use Rattle.frames.specs.declared.front.Front.{Front}
use Rattle.frames.specs.declared.front.Front.TheVariants.{Query, Terminate, CopyData, CopyDone, CopyFail}
use Rattle.frames.specs.Startup.{SpellsStartup, framed_startup}
use Rattle.frames.specs.Front.{SpellsFront, IsShortFront, framed_front}
use Rattle.copyboth.specs.declared.fault.CopyFault.{CopyFault}
use Rattle.copyboth.specs.declared.status.Status.{Status}
use Rattle.copyboth.specs.Status.{SpellsStatus, client_fault}
use Rattle.server.specs.declared.connection_terms.Dialect.{Dialect}
use Rattle.server.specs.declared.connection_terms.ConnectionTerms.{ConnectionTerms}
use Rattle.server.specs.declared.refusal.Refusal.{Refusal}
use Rattle.server.specs.declared.refusal.Refusal.TheVariants.{Violation, Version, ExtendedQuery, FunctionCall}
use Rattle.server.specs.declared.stages.stage.Stage.{Stage}
use Rattle.server.specs.declared.stages.stage.Stage.TheVariants.{Fresh, Idle, InBlock, Copying, Skipping, Streaming, Stopping, Closed}
use Rattle.server.specs.declared.asked.extended.Extended.{Extended}
use Rattle.server.specs.declared.asked.extended.Extended.TheVariants as extended
use Rattle.server.specs.declared.sessions.block.Block.{Block}
use Rattle.server.specs.declared.stages.copying.Copying.{Copying as TableCopy}
use Rattle.server.specs.Blocks.{AnswersIn, begins_block, block_begun, ending_of, new_block}
use Rattle.server.specs.Calls.{Call, Flushed}
use Rattle.server.specs.Copies.{CopiesOn}
use Rattle.server.specs.Conversation.{RepliesIn}
use Rattle.server.specs.Extended.{SpellsExtended, framed_extended, is_extended}
use Rattle.server.specs.Opening.{opened_database}
use Rattle.server.specs.Said.{error_of_refusal, error_and_ready, ready, answer_to_startup, end_of_stream}

pub record Turn : Type 0 where
  pub text : List ℕ
  pub asked : List Call
  pub said : List ℕ

-- nothing is asked of the backend, this is said, and the connection is then at this stage
abbrev pub Says : List ℕ → Stage → List Call → List ℕ → Stage → Type 0
Says text stage asked said next = (asked ≡ []) × (said ≡ text) × (next ≡ stage)

-- why a text that can't be read is refused
abbrev pub refusal_of : FrameFault → Refusal
refusal_of frames.BadVersion = Version
refusal_of _ = Violation

-- what it can't go on from
abbrev pub Refuses : Refusal → List Call → List ℕ → Stage → Type 0
Refuses refusal = Says (error_of_refusal refusal) Closed

-- ---- before a session

abbrev pub session : Option (List ℕ) → Stage
session (Some database) = Idle database
session None = Closed

-- Encryption is declined by a single byte, and the startup is still waited for.
abbrev pub Opens : ConnectionTerms → Startup → List Call → List ℕ → Stage → Type 0
Opens service (Session parameters) = Says (answer_to_startup service (opened_database parameters)) (session (opened_database parameters))
Opens service Ssl = Says (codes "N") Fresh
Opens service Gss = Says (codes "N") Fresh
Opens service (Cancel process key) = Says [] Closed

-- ---- in a session

-- A query begins a transaction block, or it is answered, and may begin a stream.
abbrev pub HearsQuery : Bool → Dialect → List ℕ → List ℕ → List Call → List ℕ → Stage → Type 0
HearsQuery true dialect database query asked said next = Says block_begun (InBlock (new_block database)) asked said next
HearsQuery false dialect database query asked said next = (begins : Bool) × RepliesIn dialect database query begins asked said × (next ≡ (if begins then Streaming database else Idle database))

-- Terminate is the client's own end, and the frames of a stream are out of
-- their place.
abbrev pub Hears : Dialect → List ℕ → Front → List Call → List ℕ → Stage → Type 0
Hears dialect database (Query query) asked said next = HearsQuery (begins_block dialect query.text) dialect database query.text asked said next
Hears dialect database Terminate asked said next = Says [] Closed asked said next
Hears dialect database (CopyData bytes) asked said next = Refuses Violation asked said next
Hears dialect database CopyDone asked said next = Refuses Violation asked said next
Hears dialect database (CopyFail fail) asked said next = Refuses Violation asked said next

-- In a transaction block queries alone are heard, until the client leaves.
abbrev pub HearsInBlock : Block → Front → List Call → List ℕ → Stage → Type 0
HearsInBlock block (Query query) asked said next = AnswersIn (ending_of query.text) block query.text asked said next
HearsInBlock block Terminate asked said next = Says [] Closed asked said next
HearsInBlock block (CopyData bytes) asked said next = Refuses Violation asked said next
HearsInBlock block CopyDone asked said next = Refuses Violation asked said next
HearsInBlock block (CopyFail fail) asked said next = Refuses Violation asked said next

-- A step of an extended query is refused, and all up to its Sync is passed over. A function call is refused as a query is. A Sync
-- is answered by what says that the session goes on, and to a Flush there is nothing to say.
abbrev pub HearsExtended : List ℕ → Extended → List Call → List ℕ → Stage → Type 0
HearsExtended database extended.Step = Says (error_of_refusal ExtendedQuery) (Skipping database)
HearsExtended database extended.Flush = Says [] (Idle database)
HearsExtended database extended.Sync = Says ready (Idle database)
HearsExtended database extended.Call = Says (error_and_ready FunctionCall) (Idle database)

-- up to that Sync
abbrev pub SkipsExtended : List ℕ → Extended → List Call → List ℕ → Stage → Type 0
SkipsExtended database extended.Sync = Says ready (Idle database)
SkipsExtended database extended.Step = Says [] (Skipping database)
SkipsExtended database extended.Flush = Says [] (Skipping database)
SkipsExtended database extended.Call = Says [] (Skipping database)

-- but for Terminate, whatever it is
abbrev pub Skips : List ℕ → Front → List Call → List ℕ → Stage → Type 0
Skips database Terminate = Says [] Closed
Skips database (Query query) = Says [] (Skipping database)
Skips database (CopyData bytes) = Says [] (Skipping database)
Skips database CopyDone = Says [] (Skipping database)
Skips database (CopyFail fail) = Says [] (Skipping database)

-- ---- in a stream

-- The backend is told of a status: how far the client has flushed, and whether it asks for an answer. This is one call.
pub record Passes (bytes : List ℕ) (asked : List Call) (said : List ℕ) : Type 0 where
  pub status : Status
  pub spells : SpellsStatus bytes status
  pub once : asked ≡ Flushed status.flushed status.ask ∷ []
  pub silent : said ≡ []

-- A client sends statuses, and nothing is said to them here. CopyDone asks for the stream's end, Terminate is the client's
-- own, and all else is refused.
abbrev pub Streams : List ℕ → Front → List Call → List ℕ → Stage → Type 0
Streams database (CopyData body) asked said next =
    (Passes body.bytes asked said × (next ≡ Streaming database)) ⊎ ((fault : CopyFault) × (client_fault body.bytes ≡ Some fault) × Refuses Violation asked said next)
Streams database CopyDone asked said next = Says [] (Stopping database) asked said next
Streams database Terminate asked said next = Says [] Closed asked said next
Streams database (Query query) asked said next = Refuses Violation asked said next
Streams database (CopyFail fail) asked said next = Refuses Violation asked said next

-- A stream that stops is ended by a turn of its own, for no text: once all of the stream has been said.
abbrev pub end_turn : Dialect → Turn
end_turn dialect = record { text = []; asked = []; said = end_of_stream dialect }

-- ---- turns

-- a text that is one frame, answered so, or that begins with what is none
abbrev pub IsFrameTurn : (Front → List Call → List ℕ → Stage → Type 0) → Turn → Stage → Type 0
IsFrameTurn Answers t next =
    ((front : Front) × SpellsFront t.text front × IsShortFront front × Answers front t.asked t.said next)
    ⊎ ((fault : FrameFault) × (framed_front t.text ≡ Err fault) × Refuses (refusal_of fault) t.asked t.said next)

-- The same of the frames of extended queries.
abbrev pub IsExtendedTurn : (Extended → List Call → List ℕ → Stage → Type 0) → Turn → Stage → Type 0
IsExtendedTurn Answers t next =
    ((e : Extended) × SpellsExtended t.text e × Answers e t.asked t.said next)
    ⊎ ((fault : FrameFault) × (framed_extended t.text ≡ Err fault) × Refuses (refusal_of fault) t.asked t.said next)

-- what each of both kinds of frames is answered in a session
abbrev pub IsSessionTurn : (Extended → List Call → List ℕ → Stage → Type 0) → (Front → List Call → List ℕ → Stage → Type 0) → Turn → Stage → Type 0
IsSessionTurn Extends Answers t next =
    ((is_extended t.text ≡ true) × IsExtendedTurn Extends t next)
    ⊎ ((is_extended t.text ≡ false) × IsFrameTurn Answers t next)

-- While a table is copied rows are said for no text, whatever the client sends.
abbrev pub IsCopyTurn : TableCopy → Turn → Stage → Type 0
IsCopyTurn copying t next = (t.text ≡ []) × CopiesOn copying t.asked t.said next

-- A turn from one stage to the next. Its text is one startup, or one frame, or it begins with what is neither: then the
-- connection closes, and all that follows is passed over.
abbrev pub IsTurn : ConnectionTerms → Stage → Turn → Stage → Type 0
IsTurn service Fresh t next =
    ((startup : Startup) × SpellsStartup t.text startup × Opens service startup t.asked t.said next)
    ⊎ ((fault : FrameFault) × (framed_startup t.text ≡ Err fault) × Refuses (refusal_of fault) t.asked t.said next)
IsTurn service (Idle database) t next = IsSessionTurn (HearsExtended database) (Hears service.dialect database) t next
IsTurn service (InBlock block) t next = IsFrameTurn (HearsInBlock block) t next
IsTurn service (Copying copying) t next = IsCopyTurn copying t next
IsTurn service (Skipping database) t next = IsSessionTurn (SkipsExtended database) (Skips database) t next
IsTurn service (Streaming database) t next = IsFrameTurn (Streams database) t next
IsTurn service (Stopping database) t next = (t ≡ end_turn service.dialect) × (next ≡ Idle database)
IsTurn service Closed t next = Says [] Closed t.asked t.said next

-- one turn after the other
abbrev pub AreTurns : ConnectionTerms → Stage → List Turn → Stage → Type 0
AreTurns service old [] new = new ≡ old
AreTurns service old (t ∷ ts) new = (mid : Stage) × IsTurn service old t mid × AreTurns service mid ts new

-- No startup and no frame stands whole at the front, and no row is left to be said. While a stream stops, anything is kept; once the connection is
-- closed, nothing is left.
abbrev pub Waits : Stage → List ℕ → Type 0
Waits Fresh rest = framed_startup rest ≡ Ok None
Waits (Idle database) rest = (framed_front rest ≡ Ok None) ⊎ (framed_extended rest ≡ Ok None)
Waits (InBlock block) rest = framed_front rest ≡ Ok None
Waits (Copying copying) rest = ⊥
Waits (Skipping database) rest = (framed_front rest ≡ Ok None) ⊎ (framed_extended rest ≡ Ok None)
Waits (Streaming database) rest = framed_front rest ≡ Ok None
Waits (Stopping database) rest = Unit {0}
Waits Closed rest = rest ≡ []

-- a stream has just ended: what came after its CopyDone counts from the next call on
abbrev pub HaveEnded : ConnectionTerms → List Turn → Type 0
HaveEnded service turns = (before : List Turn) × (turns ≡ before ++ end_turn service.dialect ∷ [])

-- What a connection of this service hears, what it asks of its backend and what it says are one conversation: from its
-- startup on, turn by turn, the turns spell the input but for a rest that is waited on. The bytes of streams are apart.
pub record IsConversation (service : ConnectionTerms) (input : List ℕ) (asked : List Call) (said : List ℕ) : Type 0 where
  pub turns : List Turn
  pub end : Stage
  pub rest : List ℕ
  pub follow : AreTurns service Fresh turns end
  pub spell : input ≡ flat_map (λ t. t.text) turns ++ rest
  pub ask : asked ≡ flat_map (λ t. t.asked) turns
  pub say : said ≡ flat_map (λ t. t.said) turns
  pub waits : HaveEnded service turns ⊎ Waits end rest
