-- Update (PostgreSQL 15, 55.9): U, the table's OID, the old row where it is sent, N, the new tuple.
use Rattle.std.specs.Prelude.{ℕ, ◌<◌, ◌^◌, ◌==◌, List, [], ◌∷◌, ◌++◌, Option, Some, None, Result, Ok, Err, if◌then◌else◌}
use Rattle.std.specs.Int.{w32}
use Rattle.pqformat.specs.Fields.{int32, number_at, byte_at}
use Rattle.pqformat.specs.Steps.{◌>>=◌}
use Rattle.pgoutput.specs.Reading.{short, expected_letter}
use Rattle.pgoutput.specs.declared.fault.PgoutputError.{PgoutputError}
use Rattle.pgoutput.specs.declared.fault.PgoutputError.TheVariants.{BadMark}
use Rattle.pgoutput.specs.declared.parts.tuple.Cell.{Cell}
use Rattle.pgoutput.specs.declared.parts.old_tuple.OldTuple.{OldTuple}
use Rattle.pgoutput.specs.declared.parts.old_tuple.OldTuple.TheVariants.{Key, Full}
use Rattle.pgoutput.specs.declared.parts.old_tuple.TheConstants.{KEY, OLD}
use Rattle.pgoutput.specs.declared.messages.update.Update.{Update}
use Rattle.pgoutput.specs.declared.messages.insert.TheConstants.{NEW}
use Rattle.pgoutput.specs.Tuple.{tuple, FitsTuple, IsShortTuple, tuple_at}
use Rattle.pgoutput.specs.OldTuple.{old_tuple, FitsOldTuple, IsShortOldTuple}

abbrev pub old_if_any : Option OldTuple → List ℕ
old_if_any None = []
old_if_any (Some old) = old_tuple old

abbrev pub FitsIfAny : Option OldTuple → Type 0
FitsIfAny None = Unit {0}
FitsIfAny (Some old) = FitsOldTuple old

abbrev pub IsShortIfAny : Option OldTuple → Type 0
IsShortIfAny None = Unit {0}
IsShortIfAny (Some old) = IsShortOldTuple old

abbrev pub update : Update → List ℕ
update m = int32 m.oid ++ (old_if_any m.old ++ ((NEW ∷ []) ++ tuple m.new))

abbrev pub FitsUpdate : Update → Type 0
FitsUpdate m = (m.oid < 2 ^ 32) × (FitsIfAny m.old × FitsTuple m.new)

abbrev pub IsShortUpdate : Update → Type 0
IsShortUpdate m = IsShortIfAny m.old × IsShortTuple m.new

unfoldable pub tuples_at : List ℕ → Result ((List Cell × List Cell) × List ℕ) PgoutputError
tuples_at bytes = do
  old ← tuple_at bytes
  letter ← expected_letter NEW old.1
  new ← tuple_at letter.1
  Ok ((old.0, new.0), new.1)

unfoldable pub rows_at : List ℕ → Result ((Option OldTuple × List Cell) × List ℕ) PgoutputError
rows_at bytes = short (byte_at bytes) >>= λ b.
    if b.0 == NEW then (tuple_at b.1 >>= λ t. Ok ((None, t.0), t.1))
    else if b.0 == KEY then (tuples_at b.1 >>= λ t. Ok ((Some (Key t.0.0), t.0.1), t.1))
    else if b.0 == OLD then (tuples_at b.1 >>= λ t. Ok ((Some (Full t.0.0), t.0.1), t.1))
    else Err BadMark

unfoldable pub update_at : List ℕ → Result (Update × List ℕ) PgoutputError
update_at bytes = do
  oid ← short (number_at w32 bytes)
  rows ← rows_at oid.1
  Ok (record { oid = oid.0; old = rows.0.0; new = rows.0.1 }, rows.1)
