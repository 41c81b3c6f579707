-- How long a message of a change is at most: its tuples are hardly longer than the rows in the log.
use Rattle.std.proofs.Common.{◌≡◌, ℕ, ◌+◌, ◌*◌, ◌≤◌, Bool, true, false, cond, List, [], ◌∷◌, length, ap, ◌∙◌, arith}
use Rattle.std.specs.List.{flat_map, AllByRecursion}
use Rattle.std.proofs.lemmas.List.{length-append}
use Rattle.std.proofs.lemmas.List.Concat.{flat_map-cons}
use Rattle.pqformat.specs.Fields.{int16}
use Rattle.pqformat.proofs.Numbers.{length-int16}
use Rattle.pgoutput.specs.declared.parts.tuple.Cell.{Cell}
use Rattle.pgoutput.specs.declared.parts.tuple.Cell.TheVariants as cells
use Rattle.pgoutput.specs.Tuple.{cell, tuple}
use Rattle.tables.specs.declared.column.Column.{Column}
use Rattle.tables.specs.declared.kinds.Value.{Value}
use Rattle.tables.specs.Kinds.{IsValue, spell_value}
use Rattle.tables.specs.Spelling.{row_length}
use Rattle.row_messages.specs.Kinds.{cell_of}
use Rattle.row_messages.specs.Tuples.{cell_after, key_tuple_of, tuple_after, tuple_of}
use Rattle.row_messages.proofs.Values.{cell_near}

told : (c : Cell) (cs : List Cell) → length (flat_map cell (c ∷ cs)) ≡ length (cell c) + length (flat_map cell cs)
told c cs = ap length (flat_map-cons cell c cs) ∙ length-append (cell c) (flat_map cell cs)

kept : (v : Value) (row : List Value) → length (flat_map spell_value (v ∷ row)) ≡ length (spell_value v) + length (flat_map spell_value row)
kept v row = ap length (flat_map-cons spell_value v row) ∙ length-append (spell_value v) (flat_map spell_value row)

row_near : (row : List Value) → AllByRecursion IsValue row → length (flat_map cell (tuple_of row)) ≤ 24 * length row + length (flat_map spell_value row)
row_near [] all = omega arith
row_near (v ∷ row) all =
    let first = cell_near v all.0 in
    let rest = row_near row all.1 in
    omega (arith, first, rest, told (cell_of v) (tuple_of row), kept v row)

or_less : (b : Bool) (c : Cell) (n : ℕ) (v : Value) → 1 ≤ n → length (cell (cell_of v)) ≤ n → length (cell c) ≤ 1 → length (cell (cond b c (cell_of v))) ≤ n
or_less true c n v one first other = omega (arith, one, other)
or_less false c n v one first other = first

after_near : (old new : List Value) → length old ≡ length new → AllByRecursion IsValue new → length (flat_map cell (tuple_after old new)) ≤ 24 * length new + length (flat_map spell_value new)
after_near [] new same all = omega arith
after_near (u ∷ old) [] same all = absurd (omega (arith, same))
after_near (u ∷ old) (v ∷ new) same all =
    let first : length (cell (cell_after u v)) ≤ 24 + length (spell_value v) = or_less _ cells.Unchanged (24 + length (spell_value v)) v (omega arith) (cell_near v all.0) (omega arith) in
    let rest = after_near old new (omega (arith, same)) all.1 in
    omega (arith, first, rest, told (cell_after u v) (tuple_after old new), kept v new)

key_cell : (b : Bool) (v : Value) → IsValue v → length (cell (cond b (cell_of v) cells.Null)) ≤ 24 + length (spell_value v)
key_cell true v in_range = cell_near v in_range
key_cell false v in_range = omega arith

key_near : (columns : List Column) (row : List Value) → AllByRecursion IsValue row → length (flat_map cell (key_tuple_of columns row)) ≤ 24 * length row + length (flat_map spell_value row)
key_near [] row all = omega arith
key_near (c ∷ columns) [] all = omega arith
key_near (c ∷ columns) (v ∷ row) all =
    let first = key_cell c.is_key v all.0 in
    let rest = key_near columns row all.1 in
    omega (arith, first, rest, told (cond c.is_key (cell_of v) cells.Null) (key_tuple_of columns row), kept v row)

coded : (row : List Value) → row_length row ≡ 2 + length (flat_map spell_value row)
coded row = length-append (int16 (length row)) (flat_map spell_value row) ∙ ap (λ (n : ℕ). n + length (flat_map spell_value row)) (length-int16 (length row))

-- so a tuple of at most 64 columns is at most 1,536 bytes longer than its row in the log
bounded : (cs : List Cell) (row : List Value) → length (flat_map cell cs) ≤ 24 * length row + length (flat_map spell_value row) → length row ≤ 64 → length (tuple cs) ≤ 1536 + row_length row
bounded cs row near few = omega (arith, near, few, coded row, length-append (int16 (length cs)) (flat_map cell cs), length-int16 (length cs))

pub tuple_bound : (row : List Value) → AllByRecursion IsValue row → length row ≤ 64 → length (tuple (tuple_of row)) ≤ 1536 + row_length row
tuple_bound row all few = bounded (tuple_of row) row (row_near row all) few

pub after_bound : (old new : List Value) → length old ≡ length new → AllByRecursion IsValue new → length new ≤ 64 → length (tuple (tuple_after old new)) ≤ 1536 + row_length new
after_bound old new same all few = bounded (tuple_after old new) new (after_near old new same all) few

pub key_bound : (columns : List Column) (row : List Value) → AllByRecursion IsValue row → length row ≤ 64 → length (tuple (key_tuple_of columns row)) ≤ 1536 + row_length row
key_bound columns row all few = bounded (key_tuple_of columns row) row (key_near columns row all) few
