-- Standby status update (PostgreSQL 15, 55.4): r, how far the client has written, flushed and applied, its clock, and a byte
-- that is 1 where the server should answer at once, else 0.
use Rattle.std.specs.Prelude.{◌≡◌, ℕ, ◌<◌, ◌^◌, ◌==◌, FitsSigned, List, [], ◌∷◌, ◌++◌, Option, Some, if◌then◌else◌}
use Rattle.std.specs.Int.{w64, cast_unsigned}
use Rattle.pqformat.specs.Fields.{int64}
use Rattle.copyboth.specs.declared.keepalive.TheConstants.{ASKS}
use Rattle.copyboth.specs.declared.status.TheConstants.{STATUS}
use Rattle.copyboth.specs.declared.status.Status.{Status}
use Rattle.copyboth.specs.declared.fault.CopyFault.{CopyFault}
use Rattle.copyboth.specs.declared.fault.CopyFault.TheVariants.{Short, UnknownKind}
use Rattle.copyboth.specs.Keepalive.{ask_byte}
use Rattle.copyboth.specs.Server.{exactly}

abbrev pub status_with : Status → ℕ → List ℕ
status_with s ask = STATUS ∷ (int64 s.written ++ (int64 s.flushed ++ (int64 s.applied ++ (int64 (cast_unsigned w64 s.clock) ++ (ask ∷ [])))))

-- as it is written
abbrev pub status : Status → List ℕ
status s = status_with s (ask_byte s.ask)

-- The whole body spells the status. Of its last byte, 1 asks and every other doesn't.
pub record SpellsStatus (bytes : List ℕ) (s : Status) : Type 0 where
  pub written : s.written < 2 ^ 64
  pub flushed : s.flushed < 2 ^ 64
  pub applied : s.applied < 2 ^ 64
  pub clock : FitsSigned w64 s.clock
  pub ask : ℕ
  pub asks : s.ask ≡ (ask == ASKS)
  pub text : bytes ≡ status_with s ask

-- the fault that stands in a body, if any: after the kind byte 33 bytes are due
abbrev pub client_fault : List ℕ → Option CopyFault
client_fault [] = Some Short
client_fault (b ∷ rest) = if b == STATUS then exactly 33 rest else Some UnknownKind
