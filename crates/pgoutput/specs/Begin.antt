-- Begin (PostgreSQL 15, 55.9): B, the commit record's position, the commit time, the transaction's id.
use Rattle.std.specs.Prelude.{ℕ, ◌<◌, ◌^◌, FitsSigned, List, ◌++◌, Result, Ok}
use Rattle.std.specs.Int.{w32, w64, cast_unsigned}
use Rattle.pqformat.specs.Fields.{int32, int64, number_at}
use Rattle.pqformat.specs.Steps.{◌>>=◌}
use Rattle.pgoutput.specs.Reading.{short, signed64_at}
use Rattle.pgoutput.specs.declared.fault.PgoutputError.{PgoutputError}
use Rattle.pgoutput.specs.declared.messages.begin.Begin.{Begin}

abbrev pub begin : Begin → List ℕ
begin m = int64 m.position ++ (int64 (cast_unsigned w64 m.time) ++ int32 m.xid)

abbrev pub FitsBegin : Begin → Type 0
FitsBegin m = (m.position < 2 ^ 64) × (FitsSigned w64 m.time × (m.xid < 2 ^ 32))

unfoldable pub begin_at : List ℕ → Result (Begin × List ℕ) PgoutputError
begin_at bytes = do
  position ← short (number_at w64 bytes)
  time ← signed64_at position.1
  xid ← short (number_at w32 time.1)
  Ok (record { position = position.0; time = time.0; xid = xid.0 }, xid.1)
