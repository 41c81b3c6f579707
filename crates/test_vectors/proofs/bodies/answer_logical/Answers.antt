-- A message that was read is short enough to be written.
use Rattle.std.proofs.Common.{List, [], ◌∷◌, ℕ, Result, Ok, Err}
use Rattle.std.specs.Prelude.{IfOk, Option, Some, None}
use Rattle.std.specs.List.{AllByRecursion}
use Rattle.pgoutput.specs.declared.fault.PgoutputError.{PgoutputError}
use Rattle.pgoutput.specs.declared.logical.Logical.{Logical}
use Rattle.pgoutput.specs.declared.logical.Logical.TheVariants as logical
use Rattle.pgoutput.specs.declared.parts.tuple.Cell.{Cell}
use Rattle.pgoutput.specs.declared.parts.tuple.Cell.TheVariants as cells
use Rattle.pgoutput.specs.declared.parts.old_tuple.OldTuple.{OldTuple}
use Rattle.pgoutput.specs.Tuple.{FitsCell, FitsSentCell, FitsSentTuple, FitsTuple, IsShortCell, IsShortTuple}
use Rattle.pgoutput.specs.OldTuple.{cells_of}
use Rattle.pgoutput.specs.Update.{FitsIfAny, IsShortIfAny}
use Rattle.pgoutput.specs.Logical.{FitsLogical, IsShort, SpellsLogical}
use Rattle.test_vectors.proofs.bodies.answer_logical.Goals as goal

short_cell : (c : Cell) → FitsCell c → IsShortCell c
short_cell (cells.Text text) fits = fits.0
short_cell cells.Null fits = tt
short_cell cells.Unchanged fits = tt

short_cells : (cs : List Cell) → AllByRecursion FitsCell cs → AllByRecursion IsShortCell cs
short_cells [] all = tt
short_cells (c ∷ cs) all = (short_cell c all.0, short_cells cs all.1)

short_tuple : (cs : List Cell) → FitsTuple cs → IsShortTuple cs
short_tuple cs fits = (fits.0, short_cells cs fits.1)

short_sent_cell : (c : Cell) → FitsSentCell c → IsShortCell c
short_sent_cell (cells.Text text) fits = fits.0
short_sent_cell cells.Null fits = tt
short_sent_cell cells.Unchanged fits = absurd fits

short_sent_cells : (cs : List Cell) → AllByRecursion FitsSentCell cs → AllByRecursion IsShortCell cs
short_sent_cells [] all = tt
short_sent_cells (c ∷ cs) all = (short_sent_cell c all.0, short_sent_cells cs all.1)

short_sent_tuple : (cs : List Cell) → FitsSentTuple cs → IsShortTuple cs
short_sent_tuple cs fits = (fits.0, short_sent_cells cs fits.1)

short_if_any : (old : Option OldTuple) → FitsIfAny old → IsShortIfAny old
short_if_any None fits = tt
short_if_any (Some old) fits = short_tuple (cells_of old) fits

short_of : (m : Logical) → FitsLogical m → IsShort m
short_of (logical.Begin m) fits = tt
short_of (logical.Commit m) fits = tt
short_of (logical.Relation m) fits = fits.1.1.1.0
short_of (logical.Insert m) fits = short_sent_tuple m.new fits.1
short_of (logical.Update m) fits = (short_if_any m.old fits.1.0, short_tuple m.new fits.1.1)
short_of (logical.Delete m) fits = short_tuple (cells_of m.old) fits.1
short_of (logical.Truncate m) fits = fits.0
short_of (logical.Message m) fits = fits.1.1

was_read : (r : Result Logical PgoutputError) (bytes : List ℕ) → IfOk r (λ m. SpellsLogical bytes m) → IfOk r (λ m. FitsLogical m × IsShort m)
was_read (Ok m) bytes is = (is.in_range, short_of m is.in_range)
was_read (Err fault) bytes is = tt

pub add_logical-requires : goal.add_logical-requires
add_logical-requires c = was_read c.read_logical-came.result c.args.bytes.now c.read_logical-came.ensures.found
