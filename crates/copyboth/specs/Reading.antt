-- Reading a body field by field. No promise is told here.
use Rattle.std.specs.Prelude.{◌≡◌, ℕ, ◌==◌, Bool, List, [], ◌∷◌, Option, Some, None, Result, Ok, Err, if◌then◌else◌}
use Rattle.std.specs.Option.{ok_or}
use Rattle.std.specs.Int.{w64}
use Rattle.pqformat.specs.Fields.{byte_at, number_at}
use Rattle.pqformat.specs.Steps.{◌>>=◌, signed_at}
use Rattle.copyboth.specs.declared.keepalive.TheConstants.{KEEPALIVE, ASKS}
use Rattle.copyboth.specs.declared.keepalive.Keepalive.{Keepalive}
use Rattle.copyboth.specs.declared.xlogdata.TheConstants.{XLOGDATA}
use Rattle.copyboth.specs.declared.status.TheConstants.{STATUS}
use Rattle.copyboth.specs.declared.status.Status.{Status}
use Rattle.copyboth.specs.declared.server_body.ServerBody.{ServerBody}
use Rattle.copyboth.specs.declared.server_body.ServerBody.TheVariants as bodies
use Rattle.copyboth.specs.declared.fault.CopyFault.{CopyFault}
use Rattle.copyboth.specs.declared.fault.CopyFault.TheVariants.{Short, UnknownKind, Trailing}
use Rattle.copyboth.specs.XLogData.{XLogDataBody}

-- A call answers the fault that stands in its bytes, or none does.
abbrev pub FaultIs : {A : Type 0} → Result A CopyFault → Option CopyFault → Type 0
FaultIs (Ok x) fault = fault ≡ None
FaultIs (Err e) fault = fault ≡ Some e

-- a call that goes on from what it read to the rest
abbrev pub Gives : {X : Type 0} → Result X CopyFault → List ℕ → Result (X × List ℕ) CopyFault → Type 0
Gives (Ok x) rest read = read ≡ Ok (x, rest)
Gives (Err e) rest read = read ≡ Err e

abbrev pub int64_at : List ℕ → Result (ℕ × List ℕ) CopyFault
int64_at bytes = ok_or (number_at w64 bytes) Short

abbrev pub ask_at : List ℕ → Result (Bool × List ℕ) CopyFault
ask_at bytes = ok_or (byte_at bytes) Short >>= λ b. Ok (b.0 == ASKS, b.1)

abbrev pub nothing_left : List ℕ → Result (Unit {0}) CopyFault
nothing_left [] = Ok tt
nothing_left (b ∷ rest) = Err Trailing

abbrev pub xlogdata_at : List ℕ → Result XLogDataBody CopyFault
xlogdata_at bytes = do
  start ← int64_at bytes
  end ← int64_at start.1
  clock ← signed_at Short w64 end.1
  Ok (record { start = start.0; end = end.0; clock = clock.0; payload = clock.1 })

abbrev pub keepalive_at : List ℕ → Result Keepalive CopyFault
keepalive_at bytes = do
  end ← int64_at bytes
  clock ← signed_at Short w64 end.1
  ask ← ask_at clock.1
  done ← nothing_left ask.1
  Ok (record { end = end.0; clock = clock.0; ask = ask.0 })

abbrev pub status_at : List ℕ → Result Status CopyFault
status_at bytes = do
  written ← int64_at bytes
  flushed ← int64_at written.1
  applied ← int64_at flushed.1
  clock ← signed_at Short w64 applied.1
  ask ← ask_at clock.1
  done ← nothing_left ask.1
  Ok (record { written = written.0; flushed = flushed.0; applied = applied.0; clock = clock.0; ask = ask.0 })

abbrev pub server_at : List ℕ → Result ServerBody CopyFault
server_at [] = Err Short
server_at (b ∷ rest) =
    if b == XLOGDATA then (xlogdata_at rest >>= λ m. Ok (bodies.XLogData m))
    else if b == KEEPALIVE then (keepalive_at rest >>= λ k. Ok (bodies.Keepalive k))
    else Err UnknownKind

abbrev pub client_at : List ℕ → Result Status CopyFault
client_at [] = Err Short
client_at (b ∷ rest) = if b == STATUS then status_at rest else Err UnknownKind
