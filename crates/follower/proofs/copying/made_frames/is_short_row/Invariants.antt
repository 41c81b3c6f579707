use Rattle.std.proofs.Common.{take}
use Rattle.std.specs.List.{AllByRecursion}
use Rattle.pgoutput.specs.Tuple.{IsShortCell}
use Rattle.follower.proofs.copying.made_frames.is_short_row.Given as goal

abbrev pub invariant-loop-cell : goal.invariant-loop-cell
invariant-loop-cell l = AllByRecursion IsShortCell (take l.cell-index l.cells)
