-- The old row of an Update or a Delete (PostgreSQL 15, 55.9): K and the cells of the key, or O and all cells.
use Rattle.std.specs.Prelude.{ℕ, ◌==◌, List, ◌∷◌, Result, Ok, Err, if◌then◌else◌}
use Rattle.pqformat.specs.Fields.{byte_at}
use Rattle.pqformat.specs.Steps.{◌>>=◌}
use Rattle.pgoutput.specs.Reading.{short}
use Rattle.pgoutput.specs.declared.fault.PgoutputError.{PgoutputError}
use Rattle.pgoutput.specs.declared.fault.PgoutputError.TheVariants.{BadMark}
use Rattle.pgoutput.specs.declared.parts.tuple.Cell.{Cell}
use Rattle.pgoutput.specs.declared.parts.old_tuple.OldTuple.{OldTuple}
use Rattle.pgoutput.specs.declared.parts.old_tuple.OldTuple.TheVariants.{Key, Full}
use Rattle.pgoutput.specs.declared.parts.old_tuple.TheConstants.{KEY, OLD}
use Rattle.pgoutput.specs.Tuple.{tuple, FitsTuple, IsShortTuple, tuple_at}

abbrev pub cells_of : OldTuple → List Cell
cells_of (Key cells) = cells
cells_of (Full cells) = cells

abbrev pub old_tuple : OldTuple → List ℕ
old_tuple (Key cells) = KEY ∷ tuple cells
old_tuple (Full cells) = OLD ∷ tuple cells

abbrev pub FitsOldTuple : OldTuple → Type 0
FitsOldTuple old = FitsTuple (cells_of old)

abbrev pub IsShortOldTuple : OldTuple → Type 0
IsShortOldTuple old = IsShortTuple (cells_of old)

unfoldable pub old_tuple_at : List ℕ → Result (OldTuple × List ℕ) PgoutputError
old_tuple_at bytes = short (byte_at bytes) >>= λ b.
    if b.0 == KEY then (tuple_at b.1 >>= λ t. Ok (Key t.0, t.1))
    else if b.0 == OLD then (tuple_at b.1 >>= λ t. Ok (Full t.0, t.1))
    else Err BadMark
