-- Insert (PostgreSQL 15, 55.9): I, the table's OID, N, the new tuple, of which every value is sent.
use Rattle.std.specs.Prelude.{ℕ, ◌<◌, ◌^◌, List, [], ◌∷◌, ◌++◌, Result, Ok}
use Rattle.std.specs.Int.{w32}
use Rattle.pqformat.specs.Fields.{int32, number_at}
use Rattle.pqformat.specs.Steps.{◌>>=◌}
use Rattle.pgoutput.specs.Reading.{short, expected_letter}
use Rattle.pgoutput.specs.declared.fault.PgoutputError.{PgoutputError}
use Rattle.pgoutput.specs.declared.messages.insert.Insert.{Insert}
use Rattle.pgoutput.specs.declared.messages.insert.TheConstants.{NEW}
use Rattle.pgoutput.specs.Tuple.{tuple, FitsSentTuple, IsShortTuple, sent_tuple_at}

abbrev pub insert : Insert → List ℕ
insert m = int32 m.oid ++ ((NEW ∷ []) ++ tuple m.new)

abbrev pub FitsInsert : Insert → Type 0
FitsInsert m = (m.oid < 2 ^ 32) × FitsSentTuple m.new

abbrev pub IsShortInsert : Insert → Type 0
IsShortInsert m = IsShortTuple m.new

unfoldable pub insert_at : List ℕ → Result (Insert × List ℕ) PgoutputError
insert_at bytes = do
  oid ← short (number_at w32 bytes)
  letter ← expected_letter NEW oid.1
  new ← sent_tuple_at letter.1
  Ok (record { oid = oid.0; new = new.0 }, new.1)
