-- The cells of a row and the tuples that are made of it fit their fields, with as many cells as the table has columns.
use Rattle.std.proofs.Common.{◌≡◌, ℕ, suc, ◌+◌, ◌*◌, ◌≤◌, Bool, true, false, cond, eqb, leb, List, [], ◌∷◌, length, map, Option, Some, None, refl, sym, ap, ◌∙◌, arith}
use Rattle.std.specs.Prelude.{◌&&◌}
use Rattle.std.specs.List.{flat_map, AllByRecursion}
use Rattle.std.proofs.lemmas.Bool.{eqb-true, leb-true}
use Rattle.std.proofs.lemmas.List.{length-append, length-map}
use Rattle.std.proofs.lemmas.List.Concat.{flat_map-cons}
use Rattle.pqformat.specs.Fields.{int16}
use Rattle.pqformat.proofs.Numbers.{length-int16}
use Rattle.pgoutput.specs.declared.parts.tuple.Cell.{Cell}
use Rattle.pgoutput.specs.declared.parts.tuple.Cell.TheVariants as cells
use Rattle.pgoutput.specs.declared.parts.old_tuple.OldTuple.{OldTuple}
use Rattle.pgoutput.specs.Tuple.{cell, tuple, FitsCell, FitsSentCell, FitsSentTuple, FitsTuple}
use Rattle.pgoutput.specs.OldTuple.{cells_of}
use Rattle.tables.specs.declared.rows.row.TheConstants.{MAX_ROW_LENGTH}
use Rattle.tables.specs.declared.identity.Identity.{Identity}
use Rattle.tables.specs.declared.identity.Identity.TheVariants as identities
use Rattle.tables.specs.declared.column.Column.{Column}
use Rattle.tables.specs.declared.kinds.Value.{Value}
use Rattle.tables.specs.declared.table.Table.{Table}
use Rattle.tables.specs.Kinds.{IsValue, spell_value}
use Rattle.tables.specs.Spelling.{row_length}
use Rattle.tables.specs.Tables.{fits_table}
use Rattle.row_messages.specs.Relations.{FitsTable}
use Rattle.row_messages.specs.Kinds.{cell_of, is_long, same_value}
use Rattle.row_messages.specs.Tuples.{cell_after, changes_key, key_tuple_of, old_by, old_row_of_update, tuple_after, tuple_of}
use Rattle.row_messages.specs.Messages.{stands_in}
use Rattle.tables.proofs.Values.{some_byte}
use Rattle.row_messages.proofs.Values.{cell_fits, sent_cell}

pub both_true : (a b : Bool) → (a && b) ≡ true → (a ≡ true) × (b ≡ true)
both_true true b e = (refl, e)
both_true false b e = absurd cc

-- ---- the cells of a row

-- a cell of a key, which is null where the column isn't in it
record KeyCellFits (is_key : Bool) (v : Value) : Type 0 where
  fits : FitsCell (cond is_key (cell_of v) cells.Null)
  short : length (cell (cond is_key (cell_of v) cells.Null)) ≤ 4 * length (spell_value v)

key_cell_fits : (is_key : Bool) (v : Value) → IsValue v → length (spell_value v) ≤ MAX_ROW_LENGTH → KeyCellFits is_key v
key_cell_fits true v in_range short = let f = cell_fits v in_range short in record { fits = f.fits; short = f.short }
key_cell_fits false v in_range short = record { fits = tt; short = omega (arith, some_byte v) }

record KeyFits (columns : List Column) (row : List Value) : Type 0 where
  count : length (key_tuple_of columns row) ≡ length columns
  fits : AllByRecursion FitsCell (key_tuple_of columns row)
  short : length (flat_map cell (key_tuple_of columns row)) ≤ 4 * length (flat_map spell_value row)

record CellsFit (row : List Value) : Type 0 where
  fits : AllByRecursion FitsCell (map cell_of row)
  short : length (flat_map cell (map cell_of row)) ≤ 4 * length (flat_map spell_value row)

cells_fit : (row : List Value) → AllByRecursion IsValue row → length (flat_map spell_value row) ≤ MAX_ROW_LENGTH → CellsFit row
cells_fit [] in_range short = record { fits = tt; short = omega arith }
cells_fit (v ∷ row) in_range short =
    let spelled : length (flat_map spell_value (v ∷ row)) ≡ length (spell_value v) + length (flat_map spell_value row) = ap length (flat_map-cons spell_value v row) ∙ length-append (spell_value v) (flat_map spell_value row) in
    let told : length (flat_map cell (map cell_of (v ∷ row))) ≡ length (cell (cell_of v)) + length (flat_map cell (map cell_of row)) = ap length (flat_map-cons cell (cell_of v) (map cell_of row)) ∙ length-append (cell (cell_of v)) (flat_map cell (map cell_of row)) in
    let first = cell_fits v in_range.0 (omega arith) in
    let others = cells_fit row in_range.1 (omega arith) in
    record { fits = (first.fits, others.fits); short = omega (arith, first.short, others.short) }

-- a cell of a row that took the place of another one, which isn't sent where it is kept
record KeptCellFits (is_kept : Bool) (v : Value) : Type 0 where
  fits : FitsCell (cond is_kept cells.Unchanged (cell_of v))
  short : length (cell (cond is_kept cells.Unchanged (cell_of v))) ≤ 4 * length (spell_value v)

kept_cell_fits : (is_kept : Bool) (v : Value) → IsValue v → length (spell_value v) ≤ MAX_ROW_LENGTH → KeptCellFits is_kept v
kept_cell_fits true v in_range short = record { fits = tt; short = omega (arith, some_byte v) }
kept_cell_fits false v in_range short = let f = cell_fits v in_range short in record { fits = f.fits; short = f.short }

record BehindFits (old new : List Value) : Type 0 where
  count : length (tuple_after old new) ≡ length new
  fits : AllByRecursion FitsCell (tuple_after old new)
  short : length (flat_map cell (tuple_after old new)) ≤ 4 * length (flat_map spell_value new)

after_fits : (old new : List Value) → length old ≡ length new → AllByRecursion IsValue new → length (flat_map spell_value new) ≤ MAX_ROW_LENGTH → BehindFits old new
after_fits [] [] counts in_range short = record { count = refl; fits = tt; short = omega arith }
after_fits [] (v ∷ new) counts in_range short = absurd cc
after_fits (o ∷ old) [] counts in_range short = absurd cc
after_fits (o ∷ old) (v ∷ new) counts in_range short =
    let spelled : length (flat_map spell_value (v ∷ new)) ≡ length (spell_value v) + length (flat_map spell_value new) = ap length (flat_map-cons spell_value v new) ∙ length-append (spell_value v) (flat_map spell_value new) in
    let first = kept_cell_fits (is_long v && same_value o v) v in_range.0 (omega arith) in
    let others = after_fits old new (omega (arith, counts)) in_range.1 (omega arith) in
    let one = cell_after o v in
    let told : length (flat_map cell (tuple_after (o ∷ old) (v ∷ new))) ≡ length (cell one) + length (flat_map cell (tuple_after old new)) =
    ap length (flat_map-cons cell one (tuple_after old new)) ∙ length-append (cell one) (flat_map cell (tuple_after old new)) in
    record { count = ap suc others.count; fits = (first.fits, others.fits); short = omega (arith, spelled, told, first.short, others.short) }

-- of a row that stands by itself every value is sent
sent_cells : (row : List Value) → AllByRecursion FitsCell (map cell_of row) → AllByRecursion FitsSentCell (map cell_of row)
sent_cells [] fits = tt
sent_cells (v ∷ row) fits = (sent_cell v fits.0, sent_cells row fits.1)

pub sent_fits : (row : List Value) → FitsTuple (tuple_of row) → FitsSentTuple (tuple_of row)
sent_fits row fits = (fits.0, sent_cells row fits.1)

-- ---- tuples

pub record TupleFits (t : Table) (cells : List Cell) : Type 0 where
  pub count : length cells ≡ length t.columns
  pub fits : FitsTuple cells
  pub short : length (tuple cells) ≤ 2 + 4 * MAX_ROW_LENGTH

record Stood (t : Table) (row : List Value) : Type 0 where
  counts : length t.columns ≡ length row
  short : length (flat_map spell_value row) ≤ MAX_ROW_LENGTH

stood : (t : Table) (row : List Value) → stands_in t row ≡ true → Stood t row
stood t row stands =
    let tests = both_true (fits_table t row) (leb (row_length row) MAX_ROW_LENGTH) stands in
    let bound : row_length row ≤ MAX_ROW_LENGTH = leb-true _ _ tests.1 in
    let coded : row_length row ≡ 2 + length (flat_map spell_value row) = length-append (int16 (length row)) (flat_map spell_value row) ∙ ap (λ (n : ℕ). n + length (flat_map spell_value row)) (length-int16 (length row)) in
    record {
      counts = eqb-true (length t.columns) (length row) (both_true (eqb (length t.columns) (length row)) _ tests.0).0;
      short = omega (arith, bound, coded);
    }

whole_row : (t : Table) (row : List Value) → stands_in t row ≡ true → length t.columns ≡ length row
whole_row t row stands = (stood t row stands).counts

cells_short : (cells : List Cell) → length (flat_map cell cells) ≤ 4 * MAX_ROW_LENGTH → length (tuple cells) ≤ 2 + 4 * MAX_ROW_LENGTH
cells_short cells short = omega (arith, short, length-int16 (length cells), length-append (int16 (length cells)) (flat_map cell cells))

pub tuple_fits : (t : Table) (row : List Value) → FitsTable t → AllByRecursion IsValue row → stands_in t row ≡ true → TupleFits t (tuple_of row)
tuple_fits t row table in_range stands =
    let s = stood t row stands in
    let cells = cells_fit row in_range s.short in
    let count : length (tuple_of row) ≡ length t.columns = length-map row cell_of ∙ sym s.counts in
    record { count = count; fits = (omega (arith, count, table.count), cells.fits); short = cells_short (tuple_of row) (omega (arith, cells.short, s.short)) }

pub tuple_after_fits : (t : Table) (old new : List Value) → FitsTable t → AllByRecursion IsValue new → stands_in t old ≡ true → stands_in t new ≡ true → TupleFits t (tuple_after old new)
tuple_after_fits t old new table in_range is_old is_new =
    let s = stood t new is_new in
    let cells = after_fits old new (sym (whole_row t old is_old) ∙ s.counts) in_range s.short in
    let count : length (tuple_after old new) ≡ length t.columns = cells.count ∙ sym s.counts in
    record { count = count; fits = (omega (arith, count, table.count), cells.fits); short = cells_short (tuple_after old new) (omega (arith, cells.short, s.short)) }

-- of a key, each cell is that of the row, or shorter
key_cells_fit : (columns : List Column) (row : List Value) → length columns ≡ length row → AllByRecursion IsValue row → length (flat_map spell_value row) ≤ MAX_ROW_LENGTH → KeyFits columns row
key_cells_fit [] [] counts in_range short = record { count = refl; fits = tt; short = omega arith }
key_cells_fit [] (v ∷ row) counts in_range short = absurd cc
key_cells_fit (c ∷ columns) [] counts in_range short = absurd cc
key_cells_fit (c ∷ columns) (v ∷ row) counts in_range short =
    let spelled : length (flat_map spell_value (v ∷ row)) ≡ length (spell_value v) + length (flat_map spell_value row) = ap length (flat_map-cons spell_value v row) ∙ length-append (spell_value v) (flat_map spell_value row) in
    let first = key_cell_fits c.is_key v in_range.0 (omega arith) in
    let others = key_cells_fit columns row (omega (arith, counts)) in_range.1 (omega arith) in
    let one = cond c.is_key (cell_of v) cells.Null in
    let told : length (flat_map cell (key_tuple_of (c ∷ columns) (v ∷ row))) ≡ length (cell one) + length (flat_map cell (key_tuple_of columns row)) =
    ap length (flat_map-cons cell one (key_tuple_of columns row)) ∙ length-append (cell one) (flat_map cell (key_tuple_of columns row)) in
    record { count = ap suc others.count; fits = (first.fits, others.fits); short = omega (arith, spelled, told, first.short, others.short) }

key_tuple_fits : (t : Table) (row : List Value) → FitsTable t → AllByRecursion IsValue row → stands_in t row ≡ true → TupleFits t (key_tuple_of t.columns row)
key_tuple_fits t row table in_range stands =
    let s = stood t row stands in
    let key = key_cells_fit t.columns row s.counts in_range s.short in
    record { count = key.count; fits = (omega (arith, key.count, table.count), key.fits); short = cells_short (key_tuple_of t.columns row) (omega (arith, key.short, s.short)) }

abbrev pub OldFits : Table → Option OldTuple → Type 0
OldFits t None = Unit {0}
OldFits t (Some old) = TupleFits t (cells_of old)

pub old_fits : (t : Table) (identity : Identity) (old : List Value) → FitsTable t → AllByRecursion IsValue old → stands_in t old ≡ true → OldFits t (old_by identity t old)
old_fits t identities.Default old table in_range stands = key_tuple_fits t old table in_range stands
old_fits t identities.Nothing old table in_range stands = tt
old_fits t identities.Full old table in_range stands = tuple_fits t old table in_range stands

pub replaced_fits : (t : Table) (identity : Identity) (old new : List Value) → FitsTable t → AllByRecursion IsValue old → stands_in t old ≡ true → OldFits t (old_row_of_update identity t old new)
replaced_fits t identities.Default old new table in_range stands = by_change (changes_key t.columns old new)
  where
    by_change : (b : Bool) → OldFits t (cond b (old_by identities.Default t old) None)
    by_change true = key_tuple_fits t old table in_range stands
    by_change false = tt
replaced_fits t identities.Nothing old new table in_range stands = tt
replaced_fits t identities.Full old new table in_range stands = tuple_fits t old table in_range stands
