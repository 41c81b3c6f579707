-- The frames of extended queries and of function calls, which a session refuses (PostgreSQL 15, 55.2.3, 55.2.4 and 55.7). What they ask isn't read.
use Rattle.std.specs.Prelude.{◌≡◌, ℕ, ◌+◌, ◌==◌, ◌≤◌, Bool, false, List, [], ◌∷◌, length, Option, Some, None, is_some, option_map, Result, Ok, if◌then◌else◌}
use Rattle.std.specs.Option.{ok_or}
use Rattle.pqformat.specs.Steps.{◌>>=◌}
use Rattle.frames.specs.declared.fault.FrameFault.{FrameFault}
use Rattle.frames.specs.declared.fault.FrameFault.TheVariants.{UnknownType}
use Rattle.frames.specs.declared.parts.frame.TheConstants.{FRAME_LIMIT}
use Rattle.frames.specs.Frame.{frame, raw_at}
use Rattle.server.specs.declared.asked.extended.Extended.{Extended}
use Rattle.server.specs.declared.asked.extended.Extended.TheVariants.{Step, Flush, Sync, Call}
use Rattle.server.specs.declared.asked.extended.TheConstants.{PARSE, BIND, DESCRIBE, EXECUTE, CLOSE, FLUSH, SYNC, FUNCTION_CALL}

-- what the frame of a type byte is; None: it is none of these
abbrev pub extended_of : ℕ → Option Extended
extended_of kind =
    if kind == PARSE then Some Step
    else if kind == BIND then Some Step
    else if kind == DESCRIBE then Some Step
    else if kind == EXECUTE then Some Step
    else if kind == CLOSE then Some Step
    else if kind == FLUSH then Some Flush
    else if kind == SYNC then Some Sync
    else if kind == FUNCTION_CALL then Some Call
    else None

-- the bytes begin with the type byte of one
abbrev pub is_extended : List ℕ → Bool
is_extended [] = false
is_extended (kind ∷ bytes) = is_some (extended_of kind)

-- The bytes are a frame of this kind, with any body.
pub record SpellsExtended (bytes : List ℕ) (e : Extended) : Type 0 where
  pub kind : ℕ
  pub body : List ℕ
  pub of : extended_of kind ≡ Some e
  pub within : 4 + length body ≤ FRAME_LIMIT
  pub text : bytes ≡ frame kind body

abbrev pub extended_limit : ℕ → Option ℕ
extended_limit kind = option_map (λ _. FRAME_LIMIT) (extended_of kind)

-- what such a frame is, and how many bytes it takes
abbrev pub extended_raw : Option ((ℕ × List ℕ) × ℕ) → Result (Option (Extended × ℕ)) FrameFault
extended_raw None = Ok None
extended_raw (Some raw) = ok_or (extended_of raw.0.0) UnknownType >>= λ e. Ok (Some (e, raw.1))

-- the frame at the front; None while it isn't there whole
abbrev pub framed_extended : List ℕ → Result (Option (Extended × ℕ)) FrameFault
framed_extended bytes = raw_at extended_limit bytes >>= λ raw. extended_raw raw
