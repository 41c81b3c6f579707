-- A frame's body as the bytes that a reader lends.
use Rattle.std.specs.Prelude.{ℕ, List, Option, Some, None, Result, Ok, Err, option_map}
use Rattle.std.specs.Borrow.{Bor}
use Rattle.frames.specs.declared.backend.data_row.DataValue.{DataValue}
use Rattle.frames.specs.declared.backend.data_row.DataValue.TheVariants.{Null, Bytes}
use Rattle.frames.specs.declared.fault.FrameFault.{FrameFault}

abbrev pub lent : Result (Option (Bor (List ℕ) × ℕ)) FrameFault → Result (Option (List ℕ × ℕ)) FrameFault
lent (Ok found) = Ok (option_map (λ body. (body.0.now, body.1)) found)
lent (Err e) = Err e

abbrev pub lent_startup : Result (Option ((ℕ × Bor (List ℕ)) × ℕ)) FrameFault → Result (Option ((ℕ × List ℕ) × ℕ)) FrameFault
lent_startup (Ok found) = Ok (option_map (λ raw. ((raw.0.0, raw.0.1.now), raw.1)) found)
lent_startup (Err e) = Err e

-- a value of a row as a reader lends it
abbrev pub as_value : Result (Option (Bor (List ℕ))) FrameFault → Result DataValue FrameFault
as_value (Ok None) = Ok Null
as_value (Ok (Some bytes)) = Ok (Bytes bytes.now)
as_value (Err e) = Err e

-- a text as a reader lends it
abbrev pub as_text : Result (Bor (List ℕ)) FrameFault → Result (List ℕ) FrameFault
as_text (Ok text) = Ok text.now
as_text (Err e) = Err e

-- a string as a reader lends it
abbrev pub as_bytes : Result (Bor (List ℕ)) FrameFault → Result (List ℕ) FrameFault
as_bytes (Ok bytes) = Ok bytes.now
as_bytes (Err e) = Err e
