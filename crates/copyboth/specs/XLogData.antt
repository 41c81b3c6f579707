-- XLogData (PostgreSQL 15, 55.4): w, the position at which the data starts, the end of the log at the server, the
-- server's clock, and the data.
use Rattle.std.specs.Prelude.{ℕ, ℤ, List, ◌∷◌, ◌++◌}
use Rattle.std.specs.Int.{w64, cast_unsigned}
use Rattle.pqformat.specs.Fields.{int64}
use Rattle.copyboth.specs.declared.xlogdata.TheConstants.{XLOGDATA}

-- what contracts see of one
pub record XLogDataBody : Type 0 where
  pub start : ℕ
  pub end : ℕ
  pub clock : ℤ
  pub payload : List ℕ

abbrev pub xlogdata : ℕ → ℕ → ℤ → List ℕ → List ℕ
xlogdata start end clock payload = XLOGDATA ∷ (int64 start ++ (int64 end ++ (int64 (cast_unsigned w64 clock) ++ payload)))
