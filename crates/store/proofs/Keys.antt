-- The lengths of keys, and the part of a key that is still to be spelled.
use Rattle.std.proofs.Common.{◌≡◌, ℕ, zero, suc, ◌+◌, ◌<◌, ◌≤◌, Bool, true, false, cond, List, [], ◌∷◌, ◌++◌, length, get_or, drop, refl, sym, ap, ◌∙◌, arith, add-one, drop-cons, length-append}
use Rattle.std.specs.List.{flat_map}
use Rattle.pqformat.specs.Fields.{int32}
use Rattle.pqformat.proofs.Numbers.{length-int32}
use Rattle.store.specs.declared.places.key.TheConstants.{MAX_KEY_LENGTH}
use Rattle.tables.specs.declared.rows.row.TheConstants.{MAX_ROW_LENGTH}
use Rattle.tables.specs.declared.column.Column.{Column}
use Rattle.tables.specs.declared.kinds.Value.{Value}
use Rattle.store.specs.Rows.{key_text, key_values}
use Rattle.tables.specs.Kinds.{spell_value}
use Rattle.tables.specs.Spelling.{row_length}
use Rattle.tables.proofs.Lengths.{row_length_is}

pub key_length : (oid : ℕ) (key : List Value) → length (key_text (record { oid = oid; values = key })) ≡ 2 + row_length key
key_length oid key = omega (arith, length-append (int32 oid) (flat_map spell_value key), length-int32 oid, row_length_is key)

-- the values of a key are not longer than those of its row
values_le : (columns : List Column) (row : List Value) → length (flat_map spell_value (key_values columns row)) ≤ length (flat_map spell_value row)
values_le [] row = omega arith
values_le (c ∷ columns) [] = omega arith
values_le (c ∷ columns) (v ∷ row) = by_key c.is_key (values_le columns row)
  where
    by_key : (a : Bool) → length (flat_map spell_value (key_values columns row)) ≤ length (flat_map spell_value row) →
        length (flat_map spell_value (cond a (v ∷ key_values columns row) (key_values columns row))) ≤ length (flat_map spell_value (v ∷ row))
    by_key true le =
        omega (arith, le, length-append (spell_value v) (flat_map spell_value (key_values columns row)), length-append (spell_value v) (flat_map spell_value row))
    by_key false le = omega (arith, le, length-append (spell_value v) (flat_map spell_value row))

pub row_key_le : (oid : ℕ) (columns : List Column) (row : List Value) → row_length row ≤ MAX_ROW_LENGTH → length (key_text (record { oid = oid; values = key_values columns row })) ≤ MAX_KEY_LENGTH
row_key_le oid columns row le =
    omega (arith, le, length-append (int32 oid) (flat_map spell_value (key_values columns row)), length-int32 oid, values_le columns row, row_length_is row)

-- the next value is still within the key
pub next_fits : (front rest total : List ℕ) (v : Value) (m : ℕ) → front ++ (spell_value v ++ rest) ≡ total → length total ≤ m → length front + length (spell_value v) ≤ m
next_fits front rest total v m whole le =
    omega (arith, le, ap (λ (t : List ℕ). length t) whole, length-append front (spell_value v ++ rest), length-append (spell_value v) rest)

pub rest_of : (items : List Value) (i : ℕ) (v : Value) → i < length items → v ≡ get_or items i v → flat_map spell_value (drop i items) ≡ spell_value v ++ flat_map spell_value (drop (i + 1) items)
rest_of items i v lt is =
    ap (λ (vs : List Value). flat_map spell_value vs) (drop-cons items i v lt)
    ∙ ap (λ (x : Value). spell_value x ++ flat_map spell_value (drop (suc i) items)) (sym is) ∙ ap (λ (n : ℕ). spell_value v ++ flat_map spell_value (drop n items)) (sym (add-one i))

pub fits_next : (place total : List ℕ) (items : List Value) (i : ℕ) (v : Value) → place ++ flat_map spell_value (drop i items) ≡ total → i < length items → v ≡ get_or items i v →
    length total ≤ MAX_KEY_LENGTH → length place + length (spell_value v) ≤ MAX_KEY_LENGTH
fits_next place total items i v whole lt is le =
    next_fits place (flat_map spell_value (drop (i + 1) items)) total v MAX_KEY_LENGTH (ap (λ (t : List ℕ). place ++ t) (sym (rest_of items i v lt is)) ∙ whole) le

-- one more column
pub key_step : (columns : List Column) (row : List Value) (i : ℕ) (c : Column) (v : Value) → i < length columns → length columns ≡ length row → c ≡ get_or columns i c → v ≡ get_or row i v →
    key_values (drop i columns) (drop i row) ≡ cond c.is_key (v ∷ key_values (drop (i + 1) columns) (drop (i + 1) row)) (key_values (drop (i + 1) columns) (drop (i + 1) row))
key_step columns row i c v lt same c_is v_is =
    let left : drop i columns ≡ c ∷ drop (i + 1) columns = drop-cons columns i c lt ∙ ap (λ (x : Column). x ∷ drop (suc i) columns) (sym c_is) ∙ ap (λ (n : ℕ). c ∷ drop n columns) (sym (add-one i)) in
    let within : i < length row = omega (arith, lt, same) in
    let right : drop i row ≡ v ∷ drop (i + 1) row = drop-cons row i v within ∙ ap (λ (x : Value). x ∷ drop (suc i) row) (sym v_is) ∙ ap (λ (n : ℕ). v ∷ drop n row) (sym (add-one i)) in
    ap (λ (cs : List Column). key_values cs (drop i row)) left ∙ ap (λ (vs : List Value). key_values (c ∷ drop (i + 1) columns) vs) right

pub part_of : (columns : List Column) (row : List Value) (i : ℕ) (c : Column) (v : Value) (place total : List ℕ) → i < length columns → length columns ≡ length row → c ≡ get_or columns i c →
    v ≡ get_or row i v → place ++ flat_map spell_value (key_values (drop i columns) (drop i row)) ≡ total →
    place ++ flat_map spell_value (cond c.is_key (v ∷ key_values (drop (i + 1) columns) (drop (i + 1) row)) (key_values (drop (i + 1) columns) (drop (i + 1) row))) ≡ total
part_of columns row i c v place total lt same c_is v_is whole =
    ap (λ (vs : List Value). place ++ flat_map spell_value vs) (sym (key_step columns row i c v lt same c_is v_is)) ∙ whole

cons_at : (vs : List Value) (i : ℕ) → i < length vs → (v : Value) × (drop i vs ≡ v ∷ drop (suc i) vs)
cons_at [] i lt = absurd (omega (arith, lt))
cons_at (v ∷ vs) zero lt = (v, refl)
cons_at (v ∷ vs) (suc i) lt = cons_at vs i (omega (arith, lt))

-- a column that is not of the key
pub key_skip : (columns : List Column) (row : List Value) (i : ℕ) (c : Column) (place total : List ℕ) → i < length columns → length columns ≡ length row → c ≡ get_or columns i c → c.is_key ≡ false →
    place ++ flat_map spell_value (key_values (drop i columns) (drop i row)) ≡ total → place ++ flat_map spell_value (key_values (drop (i + 1) columns) (drop (i + 1) row)) ≡ total
key_skip columns row i c place total lt same c_is off whole =
    let at = cons_at row i (omega (arith, lt, same)) in
    let left : drop i columns ≡ c ∷ drop (suc i) columns = drop-cons columns i c lt ∙ ap (λ (x : Column). x ∷ drop (suc i) columns) (sym c_is) in
    let step : key_values (drop i columns) (drop i row) ≡ key_values (drop (suc i) columns) (drop (suc i) row) =
    ap (λ (cs : List Column). key_values cs (drop i row)) left ∙ ap (λ (vs : List Value). key_values (c ∷ drop (suc i) columns) vs) at.1
    ∙ ap (λ (a : Bool). cond a (at.0 ∷ key_values (drop (suc i) columns) (drop (suc i) row)) (key_values (drop (suc i) columns) (drop (suc i) row))) off in
    ap (λ (n : ℕ). place ++ flat_map spell_value (key_values (drop n columns) (drop n row))) (add-one i)
    ∙ ap (λ (vs : List Value). place ++ flat_map spell_value vs) (sym step) ∙ whole

-- a value of the key
pub key_more : (columns : List Column) (row : List Value) (i : ℕ) (c : Column) (v : Value) (place total : List ℕ) → i < length columns → length columns ≡ length row → c ≡ get_or columns i c →
    c.is_key ≡ true → v ≡ get_or row i v → place ++ flat_map spell_value (key_values (drop i columns) (drop i row)) ≡ total →
    place ++ (spell_value v ++ flat_map spell_value (key_values (drop (i + 1) columns) (drop (i + 1) row))) ≡ total
key_more columns row i c v place total lt same c_is on v_is whole =
    sym (ap (λ (a : Bool). place ++ flat_map spell_value (cond a (v ∷ key_values (drop (i + 1) columns) (drop (i + 1) row)) (key_values (drop (i + 1) columns) (drop (i + 1) row)))) on)
    ∙ part_of columns row i c v place total lt same c_is v_is whole
