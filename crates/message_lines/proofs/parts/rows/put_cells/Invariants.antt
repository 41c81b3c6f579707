use Rattle.std.proofs.Common.{◌≡◌, ◌++◌, length}
use Rattle.json.specs.Tree.{items_tokens}
use Rattle.message_lines.specs.Rows.{cells_items}
use Rattle.message_lines.proofs.parts.rows.put_cells.Given as goal

abbrev pub invariant-loop-column : goal.invariant-loop-column
invariant-loop-column l = record {
  tokens : l.out.tokens ++ items_tokens (cells_items l.part l.left l.cells) ≡ l.initial.out.tokens ++ items_tokens (cells_items l.part l.columns l.row);
  before : l.out.before ≡ l.initial.out.before;
}

abbrev pub decreases-loop-column : goal.decreases-loop-column
decreases-loop-column l = length l.left
