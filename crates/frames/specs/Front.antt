-- The frames that a client sends: their type bytes, limits and bodies, and how they are spelled and read.
use Rattle.std.specs.Prelude.{◌≡◌, ℕ, ◌==◌, Bool, true, false, List, [], Option, Some, None, Result, Ok, Err, if◌then◌else◌}
use Rattle.std.specs.Str.{is_utf8}
use Rattle.frames.specs.declared.front.Front.{Front}
use Rattle.frames.specs.declared.front.Front.TheVariants.{Query, Terminate, CopyData, CopyDone, CopyFail}
use Rattle.frames.specs.declared.frontend.query.TheConstants.{QUERY, QUERY_LIMIT}
use Rattle.frames.specs.declared.frontend.terminate.TheConstants.{TERMINATE}
use Rattle.frames.specs.declared.copy_data.TheConstants.{COPY_DATA}
use Rattle.frames.specs.declared.copy_done.TheConstants.{COPY_DONE}
use Rattle.frames.specs.declared.frontend.copy_fail.TheConstants.{COPY_FAIL}
use Rattle.frames.specs.declared.parts.frame.TheConstants.{FRAME_LIMIT}
use Rattle.frames.specs.declared.fault.FrameFault.{FrameFault}
use Rattle.frames.specs.declared.fault.FrameFault.TheVariants.{UnknownType}
use Rattle.pqformat.specs.Steps.{◌>>=◌}
use Rattle.pqformat.specs.Fields.{string, has_zero}
use Rattle.frames.specs.Body.{whole, always, nothing_at, text_at}
use Rattle.frames.specs.Frame.{Fits, SpellsFrame, IsShort, StandsAt, framed_at}
use Rattle.frames.specs.CopyData.{copy_data, copy_data_at}

-- the type byte of each frame
abbrev pub front_kind : Front → ℕ
front_kind (Query m) = QUERY
front_kind Terminate = TERMINATE
front_kind (CopyData m) = COPY_DATA
front_kind CopyDone = COPY_DONE
front_kind (CopyFail m) = COPY_FAIL

-- the body of each frame
abbrev pub front_body : Front → List ℕ
front_body (Query m) = string m.text
front_body Terminate = []
front_body (CopyData m) = copy_data m
front_body CopyDone = []
front_body (CopyFail m) = string m.reason

-- what can be spelled, apart from the length: texts without a zero byte, and any bytes of CopyData
abbrev pub IsShapedFront : Front → Type 0
IsShapedFront (Query m) = has_zero m.text ≡ false
IsShapedFront (CopyFail m) = has_zero m.reason ≡ false
IsShapedFront _ = Unit {0}

-- the texts are UTF-8
abbrev pub is_front_text : Front → Bool
is_front_text (Query m) = is_utf8 m.text
is_front_text (CopyFail m) = is_utf8 m.reason
is_front_text _ = true

-- Terminate and CopyDone hold nothing to keep; the others hold a text or bytes.
abbrev pub front_needs_memory : Front → Bool
front_needs_memory Terminate = false
front_needs_memory CopyDone = false
front_needs_memory _ = true

abbrev pub FitsFront : Front → Type 0
FitsFront f = Fits IsShapedFront is_front_text f

-- The bytes are the one spelling of the frame.
abbrev pub SpellsFront : List ℕ → Front → Type 0
SpellsFront bytes f = SpellsFrame front_kind front_body FitsFront bytes f

-- the greatest length field after a type byte; None: no frame has that byte
abbrev pub front_limit : ℕ → Option ℕ
front_limit kind =
    if kind == QUERY then Some QUERY_LIMIT
    else if kind == TERMINATE then Some FRAME_LIMIT
    else if kind == COPY_DATA then Some FRAME_LIMIT
    else if kind == COPY_DONE then Some FRAME_LIMIT
    else if kind == COPY_FAIL then Some FRAME_LIMIT
    else None

-- a frame that isn't too long to be read
abbrev pub IsShortFront : Front → Type 0
IsShortFront f = IsShort front_limit front_kind front_body f

-- the frame with this type byte and this body
abbrev pub front_at : ℕ → List ℕ → Result Front FrameFault
front_at kind body =
    if kind == QUERY then (whole is_utf8 (text_at body) >>= λ text. Ok (Query (record { text = text })))
    else if kind == TERMINATE then (whole always (nothing_at body) >>= λ _. Ok Terminate)
    else if kind == COPY_DATA then (whole always (copy_data_at body) >>= λ m. Ok (CopyData m))
    else if kind == COPY_DONE then (whole always (nothing_at body) >>= λ _. Ok CopyDone)
    else if kind == COPY_FAIL then (whole is_utf8 (text_at body) >>= λ reason. Ok (CopyFail (record { reason = reason })))
    else Err UnknownType

-- the frame at the front, and how many bytes it takes
abbrev pub framed_front : List ℕ → Result (Option (Front × ℕ)) FrameFault
framed_front bytes = framed_at front_limit front_at bytes

-- a fault that stands in the bytes
abbrev pub IsFrontFault : FrameFault → List ℕ → Type 0
IsFrontFault e bytes = StandsAt front_limit front_kind front_body IsShapedFront is_front_text front_needs_memory e bytes
