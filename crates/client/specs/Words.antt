-- What stands at the front of a server's bytes: a word of the stream, or what is none (PostgreSQL 15, 55.4, 55.5 and 55.7).
use Rattle.std.specs.Prelude.{◌≡◌, ℕ, ◌+◌, ◌<◌, ◌≤◌, List, [], ◌∷◌, ◌++◌, length, take, Option, Some, None, Result, Ok, Err}
use Rattle.frames.specs.Frame.{frame, IsKept}
use Rattle.frames.specs.Back.{framed_back, back_needs_memory}
use Rattle.frames.specs.declared.copy_data.TheConstants.{COPY_DATA}
use Rattle.frames.specs.declared.parts.frame.TheConstants.{FRAME_LIMIT}
use Rattle.frames.specs.declared.fault.FrameFault.{FrameFault}
use Rattle.frames.specs.declared.back.Back.{Back}
use Rattle.frames.specs.declared.back.Back.TheVariants.{CopyData, ErrorResponse}
use Rattle.copyboth.specs.XLogData.{XLogDataBody}
use Rattle.copyboth.specs.Server.{SpellsXLogData, SpellsKeepalive}
use Rattle.pgoutput.specs.declared.fault.PgoutputError.TheVariants as outs
use Rattle.pgoutput.specs.declared.logical.Logical.{Logical}
use Rattle.pgoutput.specs.Logical.{SpellsLogical, Stands}
use Rattle.pgoutput.specs.declared.copy_both_message.CopyBothMessage.{CopyBothMessage}
use Rattle.pgoutput.specs.declared.copy_both_message.CopyBothMessage.TheVariants as words
use Rattle.client.specs.declared.fault.ClientFault.{ClientFault}
use Rattle.client.specs.declared.fault.ClientFault.TheVariants.{CommitEnd, Frame, Order, UnknownRelation, Server, Memory}

-- What a CopyData holds says the word: a keepalive, of whose last byte 1 asks and every other doesn't, or an XLogData
-- with one logical message.
abbrev pub Says : List ℕ → CopyBothMessage → Type 0
Says body (words.Keepalive k) = SpellsKeepalive body (record { end = k.position; clock = k.clock; ask = k.ask })
Says body (words.XLogData x) = (payload : List ℕ) × SpellsXLogData body (record { start = x.start; end = x.end; clock = x.clock; payload = payload }) × SpellsLogical payload x.message

-- The text is the frame of a word, and no longer than a frame may be.
pub record SpellsWord (text : List ℕ) (w : CopyBothMessage) : Type 0 where
  pub body : List ℕ
  pub frame : text ≡ frame COPY_DATA body
  pub short : 4 + length body ≤ FRAME_LIMIT
  pub says : Says body w

-- The text is the frames of these words, one after the other.
abbrev pub AreSpelled : List ℕ → List CopyBothMessage → Type 0
AreSpelled text [] = text ≡ []
AreSpelled text (w ∷ ws) = (front rest : List ℕ) × (text ≡ front ++ rest) × SpellsWord front w × AreSpelled rest ws

-- No frame stands whole at the front, and none is ruled out.
abbrev pub Waits : List ℕ → Type 0
Waits rest = framed_back rest ≡ Ok None

-- ---- what is no word

-- a frame that has no place in a stream: a CopyData that says no word, and any other but an ErrorResponse
abbrev pub IsNoWord : Back → Type 0
IsNoWord (CopyData m) = (w : CopyBothMessage) → Says m.bytes w → ⊥
IsNoWord (ErrorResponse m) = ⊥
IsNoWord _ = Unit {0}

abbrev pub IsError : Back → Type 0
IsError (ErrorResponse m) = Unit {0}
IsError _ = ⊥

-- what is at the front, where a frame is there whole or can't be
abbrev pub Holds : (Back → Type 0) → Type 0 → Result (Option (Back × ℕ)) FrameFault → Type 0
Holds Whole Faulty (Ok (Some f)) = Whole f.0
Holds Whole Faulty (Ok None) = ⊥
Holds Whole Faulty (Err e) = Faulty

-- The frame at the front stands there whole, and holds something to keep.
abbrev pub TakesMemory : List ℕ → Type 0
TakesMemory rest = IsKept back_needs_memory (framed_back rest)

-- Why no word is read at the front: what is there is no frame of a stream, or the server's ErrorResponse is there, or
-- memory ran out.
abbrev pub IsUnread : ClientFault → List ℕ → Type 0
IsUnread Frame rest = Holds IsNoWord (Unit {0}) (framed_back rest)
IsUnread Server rest = Holds IsError ⊥ (framed_back rest)
IsUnread Memory rest = Unit {0}
IsUnread Order rest = ⊥
IsUnread UnknownRelation rest = ⊥
IsUnread CommitEnd rest = ⊥

-- what reading the word at the front answers: the word and how many bytes it takes, or why there is none
abbrev pub Reads : List ℕ → Result (Option (CopyBothMessage × ℕ)) ClientFault → Type 0
Reads bytes (Ok (Some x)) = (0 < x.1) × (x.1 ≤ length bytes) × SpellsWord (take x.1 bytes) x.0
Reads bytes (Ok None) = Waits bytes
Reads bytes (Err e) = IsUnread e bytes

-- ---- from the inside out: the message of a payload, the word of a CopyData's body, that of a frame

abbrev pub ReadsMessage : List ℕ → Result Logical ClientFault → Type 0
ReadsMessage payload (Ok m) = SpellsLogical payload m
ReadsMessage payload (Err Frame) = (m : Logical) → SpellsLogical payload m → ⊥
ReadsMessage payload (Err Memory) = Stands outs.Memory payload
ReadsMessage payload (Err e) = ⊥

-- an XLogData whose message holds something to keep
abbrev pub IsHeavy : List ℕ → Type 0
IsHeavy body = (x : XLogDataBody) × SpellsXLogData body x × Stands outs.Memory x.payload

abbrev pub ReadsBody : List ℕ → Result CopyBothMessage ClientFault → Type 0
ReadsBody body (Ok w) = Says body w
ReadsBody body (Err Frame) = (w : CopyBothMessage) → Says body w → ⊥
ReadsBody body (Err Memory) = IsHeavy body
ReadsBody body (Err e) = ⊥

-- a CopyData that says this word
abbrev pub IsWord : Back → CopyBothMessage → Type 0
IsWord (CopyData m) w = Says m.bytes w
IsWord _ w = ⊥

abbrev pub IsHeavyFrame : Back → Type 0
IsHeavyFrame (CopyData m) = IsHeavy m.bytes
IsHeavyFrame _ = ⊥

abbrev pub ReadsFrame : Back → Result CopyBothMessage ClientFault → Type 0
ReadsFrame frame (Ok w) = IsWord frame w
ReadsFrame frame (Err Frame) = IsNoWord frame
ReadsFrame frame (Err Server) = IsError frame
ReadsFrame frame (Err Memory) = IsHeavyFrame frame
ReadsFrame frame (Err e) = ⊥
