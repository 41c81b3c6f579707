-- What a server sends inside CopyData (PostgreSQL 15, 55.4): XLogData or a keepalive, and what is wrong with any other bytes.
use Rattle.std.specs.Prelude.{◌≡◌, ℕ, ◌<◌, ◌^◌, ◌==◌, nat_lt, FitsSigned, List, [], ◌∷◌, ◌++◌, length, Option, Some, None, if◌then◌else◌}
use Rattle.std.specs.Int.{w64, cast_unsigned}
use Rattle.pqformat.specs.Fields.{int64}
use Rattle.copyboth.specs.declared.keepalive.TheConstants.{KEEPALIVE, ASKS}
use Rattle.copyboth.specs.declared.keepalive.Keepalive.{Keepalive}
use Rattle.copyboth.specs.declared.xlogdata.TheConstants.{XLOGDATA}
use Rattle.copyboth.specs.declared.server_body.ServerBody.{ServerBody}
use Rattle.copyboth.specs.declared.server_body.ServerBody.TheVariants as bodies
use Rattle.copyboth.specs.declared.fault.CopyFault.{CopyFault}
use Rattle.copyboth.specs.declared.fault.CopyFault.TheVariants.{Short, UnknownKind, Trailing}
use Rattle.copyboth.specs.XLogData.{XLogDataBody, xlogdata}

pub record SpellsXLogData (bytes : List ℕ) (m : XLogDataBody) : Type 0 where
  pub start : m.start < 2 ^ 64
  pub end : m.end < 2 ^ 64
  pub clock : FitsSigned w64 m.clock
  pub text : bytes ≡ xlogdata m.start m.end m.clock m.payload

-- Of the last byte, 1 asks and every other doesn't.
pub record SpellsKeepalive (bytes : List ℕ) (k : Keepalive) : Type 0 where
  pub end : k.end < 2 ^ 64
  pub clock : FitsSigned w64 k.clock
  pub ask : ℕ
  pub asks : k.ask ≡ (ask == ASKS)
  pub text : bytes ≡ KEEPALIVE ∷ (int64 k.end ++ (int64 (cast_unsigned w64 k.clock) ++ (ask ∷ [])))

-- The whole body spells it.
abbrev pub SpellsServer : List ℕ → ServerBody → Type 0
SpellsServer bytes (bodies.XLogData m) = SpellsXLogData bytes m
SpellsServer bytes (bodies.Keepalive k) = SpellsKeepalive bytes k

-- so many bytes are due at least, or neither fewer nor more
abbrev pub at_least : ℕ → List ℕ → Option CopyFault
at_least n rest = if nat_lt (length rest) n then Some Short else None

abbrev pub exactly : ℕ → List ℕ → Option CopyFault
exactly n rest = if nat_lt (length rest) n then Some Short else if nat_lt n (length rest) then Some Trailing else None

-- the fault that stands in a body, if any, by what is due after its kind byte
abbrev pub server_fault : List ℕ → Option CopyFault
server_fault [] = Some Short
server_fault (b ∷ rest) = if b == XLOGDATA then at_least 24 rest else if b == KEEPALIVE then exactly 17 rest else Some UnknownKind
