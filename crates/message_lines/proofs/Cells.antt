-- A row's values, written one after the other.
use Rattle.std.proofs.Common.{◌≡◌, Bool, true, false, List, [], ◌∷◌, ◌++◌, length, refl, sym, ap, ◌∙◌, append_assoc, arith}
use Rattle.std.specs.Prelude.{if◌then◌else◌}
use Rattle.pgoutput.specs.declared.messages.relation.Column.{Column}
use Rattle.pgoutput.specs.declared.parts.tuple.Cell.{Cell}
use Rattle.pgoutput.specs.declared.parts.tuple.Cell.TheVariants as cells
use Rattle.json.specs.Json.{null, Items, item}
use Rattle.json.specs.Token.{Token, end_array}
use Rattle.json.specs.Tree.{items_tokens, json_tokens}
use Rattle.message_lines.specs.declared.parts.told_values.ToldValues.{ToldValues}
use Rattle.message_lines.specs.Rows.{column_json, is_told, with_cell, cells_items, cell_tokens}

first : (part : ToldValues) (c : Column) (cell : Cell) (more : Items) → items_tokens (with_cell part c cell more) ≡ cell_tokens part c cell ++ items_tokens more
first part c cells.Unchanged more = refl
first part c cells.Null more = by_told (is_told part c)
  where
    by_told : (b : Bool) → items_tokens (if b then item (column_json c null) more else more) ≡ (if b then json_tokens (column_json c null) else []) ++ items_tokens more
    by_told true = refl
    by_told false = refl
first part c (cells.Text text) more = refl

-- a value is written, and all that is left stands after it
pub cell_put : (part : ToldValues) (columns more : List Column) (row rest : List Cell) (c : Column) (cell : Cell) (old new whole : List Token)
    → columns ≡ c ∷ more → row ≡ cell ∷ rest → new ≡ old ++ cell_tokens part c cell
    → old ++ items_tokens (cells_items part columns row) ≡ whole → new ++ items_tokens (cells_items part more rest) ≡ whole
unfolding cells_items
cell_put part columns more row rest c cell old new whole front_columns front_row put had =
    let later = items_tokens (cells_items part more rest) in
    let here : items_tokens (cells_items part columns row) ≡ cell_tokens part c cell ++ later = rw (front_columns, front_row) (first part c cell (cells_items part more rest)) in
    ap (λ (l : List Token). l ++ later) put ∙ append_assoc old (cell_tokens part c cell) later ∙ ap (λ (l : List Token). old ++ l) (sym here) ∙ had

-- none is left
pub all_put : (part : ToldValues) (columns : List Column) (row : List Cell) (old whole : List Token) → length columns ≡ 0 → length row ≡ 0
    → old ++ items_tokens (cells_items part columns row) ≡ whole → old ++ end_array ∷ [] ≡ whole
unfolding cells_items
all_put part [] [] old whole no_columns no_row had = had
all_put part [] (cell ∷ row) old whole no_columns no_row had = absurd (omega (arith, no_row))
all_put part (c ∷ columns) row old whole no_columns no_row had = absurd (omega (arith, no_columns))
