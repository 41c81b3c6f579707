use Rattle.std.proofs.Common.{◌≡◌, ◌++◌, ◌∷◌, [], length, rules, arith, ◌∙◌}
use Rattle.json.specs.Token.{end_array}
use Rattle.json.specs.Tree.{items_tokens}
use Rattle.message_lines.specs.Rows.{cells_items}
use Rattle.message_lines.proofs.Cells.{all_put, cell_put}
use Rattle.message_lines.proofs.parts.rows.put_cells.Goals as goal

pub loop-column-preserved : goal.loop-column-preserved
loop-column-preserved c =
    let l = c.loop-column in
    let column = c.in-Some.column.now in
    let cell = c.in-Some-split_first.cell.now in
    let columns : l.left.now ≡ column ∷ c.in-Some.more.now = search rules in
    let row : l.cells.now ≡ cell ∷ c.in-Some-split_first.rest.now = search rules in
    let whole = c.args.out.now.tokens ++ items_tokens (cells_items c.args.part c.args.columns.now c.args.row.now) in
    record {
      tokens = cell_put c.args.part l.left.now c.in-Some.more.now l.cells.now c.in-Some-split_first.rest.now column cell l.out.tokens c.put_cell.new.out.tokens whole columns row c.in_ok-put_cell.ensures.tokens l.invariant.tokens;
      before = c.in_ok-put_cell.ensures.before ∙ l.invariant.before;
    }

pub returns-clause-tokens : goal.returns-clause-tokens
returns-clause-tokens c =
    let l = c.loop-column in
    let put : c.end_array.new.self.tokens ≡ l.out.tokens ++ end_array ∷ [] = search rules in
    let no_columns : length l.left.now ≡ 0 = search rules in
    let no_row : length l.cells.now ≡ 0 = grind arith in
    let whole = c.args.out.now.tokens ++ items_tokens (cells_items c.args.part c.args.columns.now c.args.row.now) in
    put ∙ all_put c.args.part l.left.now l.cells.now l.out.tokens whole no_columns no_row l.invariant.tokens
