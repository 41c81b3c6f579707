-- Delete (PostgreSQL 15, 55.9): D, the table's OID, the old row.
use Rattle.std.specs.Prelude.{ℕ, ◌<◌, ◌^◌, List, ◌++◌, Result, Ok}
use Rattle.std.specs.Int.{w32}
use Rattle.pqformat.specs.Fields.{int32, number_at}
use Rattle.pqformat.specs.Steps.{◌>>=◌}
use Rattle.pgoutput.specs.Reading.{short}
use Rattle.pgoutput.specs.declared.fault.PgoutputError.{PgoutputError}
use Rattle.pgoutput.specs.declared.messages.delete.Delete.{Delete}
use Rattle.pgoutput.specs.OldTuple.{old_tuple, FitsOldTuple, IsShortOldTuple, old_tuple_at}

abbrev pub delete : Delete → List ℕ
delete m = int32 m.oid ++ old_tuple m.old

abbrev pub FitsDelete : Delete → Type 0
FitsDelete m = (m.oid < 2 ^ 32) × FitsOldTuple m.old

abbrev pub IsShortDelete : Delete → Type 0
IsShortDelete m = IsShortOldTuple m.old

unfoldable pub delete_at : List ℕ → Result (Delete × List ℕ) PgoutputError
delete_at bytes = do
  oid ← short (number_at w32 bytes)
  old ← old_tuple_at oid.1
  Ok (record { oid = oid.0; old = old.0 }, old.1)
