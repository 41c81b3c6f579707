-- What a column list leaves of a table and of its rows.
use Rattle.std.proofs.Common.{◌≡◌, ℕ, zero, suc, ◌+◌, ◌<◌, ◌≤◌, Bool, true, false, cond, eqb, leb, List, [], ◌∷◌, length, drop, get_or, refl, sym, ap, subst, ◌∙◌, arith}
use Rattle.std.specs.Prelude.{◌&&◌, if◌then◌else◌}
use Rattle.std.specs.List.{flat_map, list_all, zip, AllByRecursion}
use Rattle.std.proofs.lemmas.Bool.{leb-true, le-leb, eqb-true, eq-eqb}
use Rattle.std.proofs.lemmas.List.{drop_more, length-append}
use Rattle.std.proofs.lemmas.List.Concat.{flat_map-cons}
use Rattle.std.proofs.lemmas.Slice.Zip.{get_or-zip, length-zip}
use Rattle.pqformat.specs.Fields.{int16}
use Rattle.pqformat.proofs.Numbers.{length-int16}
use Rattle.tables.specs.declared.column.Column.{Column}
use Rattle.tables.specs.declared.table.Table.{Table}
use Rattle.tables.specs.declared.kinds.Value.{Value}
use Rattle.tables.specs.declared.rows.row.TheConstants.{MAX_ROW_LENGTH}
use Rattle.tables.specs.Kinds.{spell_value}
use Rattle.tables.specs.Spelling.{row_length}
use Rattle.tables.specs.Tables.{fits_column, fits_table}
use Rattle.pgoutput.specs.Relation.{FitsName}
use Rattle.publication_config.specs.Published.{is_listed}
use Rattle.row_messages.specs.Relations.{listed_items, table_as_published, FitsTable}
use Rattle.pgoutput.specs.declared.parts.tuple.Cell.{Cell}
use Rattle.pgoutput.specs.declared.parts.tuple.Cell.TheVariants as cells
use Rattle.row_messages.specs.Kinds.{cell_of}
use Rattle.row_messages.specs.Tuples.{cell_after}
use Rattle.row_messages.specs.Messages.{stands_in}
use Rattle.row_messages.proofs.Rows.{both_true}

-- ---- one place after the other

one_more : (i : ℕ) → suc i ≡ i + 1
one_more i = omega arith

front_by : {A : Type 0} (flags : List Bool) (i : ℕ) (x : A) (xs : List A) → listed_items (drop i flags) (x ∷ xs) ≡ cond (is_listed flags i) (x ∷ listed_items (drop (suc i) flags) xs) (listed_items (drop (suc i) flags) xs)
front_by [] zero x xs = refl
front_by [] (suc i) x xs = refl
front_by (listed ∷ flags) zero x xs = refl
front_by (listed ∷ flags) (suc i) x xs = front_by flags i x xs

pub next_by : {A : Type 0} (flags : List Bool) (xs : List A) (i : ℕ) (x : A) → i < length xs → x ≡ get_or xs i x
    → listed_items (drop i flags) (drop i xs) ≡ cond (is_listed flags i) (x ∷ listed_items (drop (i + 1) flags) (drop (i + 1) xs)) (listed_items (drop (i + 1) flags) (drop (i + 1) xs))
next_by flags xs i x lt is =
    let behind : ℕ → List Bool = λ k. drop k flags in
    let P : ℕ → Type 0 = λ k. listed_items (drop i flags) (drop i xs) ≡ cond (is_listed flags i) (x ∷ listed_items (behind k) (drop (i + 1) xs)) (listed_items (behind k) (drop (i + 1) xs)) in
    subst P (one_more i) (ap (listed_items (drop i flags)) (drop_more xs i x lt ∙ ap (λ y. y ∷ drop (i + 1) xs) (sym is)) ∙ front_by flags i x (drop (i + 1) xs))

pub none_left : {A : Type 0} (flags : List Bool) → Path (List A) (listed_items flags []) []
none_left [] = refl
none_left (listed ∷ flags) = refl

-- the cell of a column in a key
abbrev pub key_cell_of : Column × Value → Cell
key_cell_of p = if p.0.is_key then cell_of p.1 else cells.Null

-- the cell of a value beside the one whose place it took
abbrev pub after_cell : Value × Value → Cell
after_cell p = cell_after p.0 p.1

-- ---- two lists beside each other

no_zip : {A B : Type 0} (xs : List A) → Path (List (A × B)) (zip xs []) []
no_zip [] = refl
no_zip (x ∷ xs) = refl

-- the pairs of what is chosen are what is chosen of the pairs
pub zip_chosen : {A B : Type 0} (flags : List Bool) (xs : List A) (ys : List B) → zip (listed_items flags xs) (listed_items flags ys) ≡ listed_items flags (zip xs ys)
zip_chosen [] xs ys = refl
zip_chosen (listed ∷ flags) [] ys = refl
zip_chosen (listed ∷ flags) (x ∷ xs) [] = no_zip (cond listed (x ∷ listed_items flags xs) (listed_items flags xs))
zip_chosen (listed ∷ flags) (x ∷ xs) (y ∷ ys) = by_flag listed (zip_chosen flags xs ys)
  where
    by_flag : (b : Bool) → zip (listed_items flags xs) (listed_items flags ys) ≡ listed_items flags (zip xs ys)
        → zip (cond b (x ∷ listed_items flags xs) (listed_items flags xs)) (cond b (y ∷ listed_items flags ys) (listed_items flags ys)) ≡ cond b ((x, y) ∷ listed_items flags (zip xs ys)) (listed_items flags (zip xs ys))
    by_flag true e = ap (λ l. (x, y) ∷ l) e
    by_flag false e = e

pub beside : {A B : Type 0} (xs : List A) (ys : List B) (i : ℕ) (x : A) (y : B) → i < length xs → length xs ≡ length ys → x ≡ get_or xs i x → y ≡ get_or ys i y → (x, y) ≡ get_or (zip xs ys) i (x, y)
beside xs ys i x y lt same is_x is_y = sym (get_or-zip xs ys i (x, y) lt (omega (arith, lt, same)) ∙ ap (λ z. (z, get_or ys i y)) (sym is_x) ∙ ap (λ z. (x, z)) (sym is_y))

pub paired : {A B : Type 0} (xs : List A) (ys : List B) (i : ℕ) → i < length xs → length xs ≡ length ys → i < length (zip xs ys)
paired xs ys i lt same = subst (λ (n : ℕ). i < n) (sym (length-zip xs ys)) (omega (arith, lt, same))

pub unpaired : {A B : Type 0} (xs : List A) (ys : List B) (i : ℕ) → length xs ≤ i → length (zip xs ys) ≤ i
unpaired xs ys i past = subst (λ (n : ℕ). n ≤ i) (sym (length-zip xs ys)) (omega (arith, past))

-- ---- what stands in a table stands in it with the listed columns alone

pub all_chosen : {A : Type 0} (P : A → Type 0) (flags : List Bool) (xs : List A) → AllByRecursion P xs → AllByRecursion P (listed_items flags xs)
all_chosen P [] xs all = tt
all_chosen P (listed ∷ flags) [] all = tt
all_chosen P (true ∷ flags) (x ∷ xs) all = (all.0, all_chosen P flags xs all.1)
all_chosen P (false ∷ flags) (x ∷ xs) all = all_chosen P flags xs all.1

fewer : {A : Type 0} (flags : List Bool) (xs : List A) → length (listed_items flags xs) ≤ length xs
fewer [] xs = omega arith
fewer (listed ∷ flags) [] = omega arith
fewer (true ∷ flags) (x ∷ xs) = omega (arith, fewer flags xs)
fewer (false ∷ flags) (x ∷ xs) = omega (arith, fewer flags xs)

pub narrowed_fits : (flags : List Bool) (t : Table) → FitsTable t → FitsTable (table_as_published flags t)
narrowed_fits flags t fits = record {
  oid = fits.oid;
  schema = fits.schema;
  schema_length = fits.schema_length;
  name = fits.name;
  name_length = fits.name_length;
  columns = all_chosen (λ c. FitsName c.name × (length c.name ≤ 63)) flags t.columns fits.columns;
  count = omega (arith, fewer flags t.columns, fits.count);
}

test : Column × Value → Bool
test p = fits_column p.0 p.1

record Stays (flags : List Bool) (columns : List Column) (row : List Value) : Type 0 where
  count : length (listed_items flags columns) ≡ length (listed_items flags row)
  fits : list_all (λ p. fits_column p.0 p.1) (zip (listed_items flags columns) (listed_items flags row)) ≡ true
  short : length (flat_map spell_value (listed_items flags row)) ≤ length (flat_map spell_value row)

spelled : (v : Value) (row : List Value) → length (flat_map spell_value (v ∷ row)) ≡ length (spell_value v) + length (flat_map spell_value row)
spelled v row = ap length (flat_map-cons spell_value v row) ∙ length-append (spell_value v) (flat_map spell_value row)

both_are : (a b : Bool) → a ≡ true → b ≡ true → (a && b) ≡ true
both_are true true one other = refl
both_are true false one other = absurd cc
both_are false b one other = absurd cc

stays : (flags : List Bool) (columns : List Column) (row : List Value) → length columns ≡ length row → list_all (λ p. fits_column p.0 p.1) (zip columns row) ≡ true → Stays flags columns row
stays [] columns row counts fits = record { count = refl; fits = refl; short = omega arith }
stays (listed ∷ flags) [] [] counts fits = record { count = refl; fits = refl; short = omega arith }
stays (listed ∷ flags) [] (v ∷ row) counts fits = absurd cc
stays (listed ∷ flags) (c ∷ columns) [] counts fits = absurd cc
stays (true ∷ flags) (c ∷ columns) (v ∷ row) counts fits =
    let tests = both_true (fits_column c v) (list_all (λ p. fits_column p.0 p.1) (zip columns row)) fits in
    let others = stays flags columns row (omega (arith, counts)) tests.1 in
    record {
      count = ap suc others.count;
      fits = both_are (fits_column c v) (list_all (λ p. fits_column p.0 p.1) (zip (listed_items flags columns) (listed_items flags row))) tests.0 others.fits;
      short = omega (arith, others.short, spelled v row, spelled v (listed_items flags row));
    }
stays (false ∷ flags) (c ∷ columns) (v ∷ row) counts fits =
    let tests = both_true (fits_column c v) (list_all (λ p. fits_column p.0 p.1) (zip columns row)) fits in
    let others = stays flags columns row (omega (arith, counts)) tests.1 in
    record { count = others.count; fits = others.fits; short = omega (arith, others.short, spelled v row) }

coded : (row : List Value) → row_length row ≡ 2 + length (flat_map spell_value row)
coded row = length-append (int16 (length row)) (flat_map spell_value row) ∙ ap (λ (n : ℕ). n + length (flat_map spell_value row)) (length-int16 (length row))

-- what is listed of a row is no longer than the row
pub narrowed_shorter : (flags : List Bool) (t : Table) (row : List Value) → fits_table t row ≡ true → row_length (listed_items flags row) ≤ row_length row
narrowed_shorter flags t row is =
    let fits = both_true (eqb (length t.columns) (length row)) (list_all (λ p. fits_column p.0 p.1) (zip t.columns row)) is in
    let s = stays flags t.columns row (eqb-true (length t.columns) (length row) fits.0) fits.1 in
    omega (arith, coded row, coded (listed_items flags row), s.short)

pub narrowed_stands : (flags : List Bool) (t : Table) (row : List Value) → stands_in t row ≡ true → stands_in (table_as_published flags t) (listed_items flags row) ≡ true
narrowed_stands flags t row stands =
    let tests = both_true (fits_table t row) (leb (row_length row) MAX_ROW_LENGTH) stands in
    let fits = both_true (eqb (length t.columns) (length row)) (list_all (λ p. fits_column p.0 p.1) (zip t.columns row)) tests.0 in
    let s = stays flags t.columns row (eqb-true (length t.columns) (length row) fits.0) fits.1 in
    let same : eqb (length (listed_items flags t.columns)) (length (listed_items flags row)) ≡ true = eq-eqb _ _ s.count in
    let short : leb (row_length (listed_items flags row)) MAX_ROW_LENGTH ≡ true =
    le-leb (row_length (listed_items flags row)) MAX_ROW_LENGTH (omega (arith, leb-true (row_length row) MAX_ROW_LENGTH tests.1, coded row, coded (listed_items flags row), s.short)) in
    both_are (fits_table (table_as_published flags t) (listed_items flags row)) (leb (row_length (listed_items flags row)) MAX_ROW_LENGTH)
    (both_are (eqb (length (listed_items flags t.columns)) (length (listed_items flags row))) (list_all (λ p. fits_column p.0 p.1) (zip (listed_items flags t.columns) (listed_items flags row))) same s.fits) short
