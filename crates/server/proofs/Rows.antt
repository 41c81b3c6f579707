-- The rows of answers fit their frames.
use Rattle.std.proofs.Common.{get_or, take, subst, ◌+◌, ◌*◌, ◌^◌, ◌<◌, ◌≤◌, List, [], ◌∷◌, length, Result, Ok, Err, ℕ, ◌≡◌, ◌++◌, ap, sym, ◌∙◌, append-nil, append_assoc, arith}
use Rattle.std.specs.Prelude.{IfOk}
use Rattle.std.specs.Fmt.{decimal}
use Rattle.std.specs.declared.alloc.AllocError.{AllocError}
use Rattle.std.proofs.lemmas.Fmt.{length-decimal-le}
use Rattle.std.specs.List.{flat_map, AllByRecursion}
use Rattle.std.proofs.lemmas.List.{length-append, length-take-le, take_more}
use Rattle.std.proofs.lemmas.List.Concat.{flat_map-cons}
use Rattle.frames.specs.declared.backend.row_description.ColumnDescription.{ColumnDescription}
use Rattle.frames.specs.declared.backend.data_row.DataValue.{DataValue}
use Rattle.frames.specs.declared.backend.data_row.DataValue.TheVariants.{Null, Bytes}
use Rattle.frames.specs.Plain.{counted_items}
use Rattle.frames.specs.RowDescription.{column}
use Rattle.frames.specs.DataRow.{data_value, FitsValue}
use Rattle.frames.proofs.Lengths.{length_column, length_value, length_counted}
use Rattle.server.specs.Said.{IsSmall}
use Rattle.server.specs.TableAnswers.{attribute_row, attribute_rows, further_number, numbers_text}
use Rattle.server.specs.declared.found_table.TableAttribute.{TableAttribute}

short_columns : (columns : List ColumnDescription) → AllByRecursion (λ c. length c.name ≤ 63) columns → length (flat_map column columns) ≤ 82 * length columns
short_columns [] short = omega arith
short_columns (c ∷ columns) short =
    omega (arith, short.0, short_columns columns short.1, length_column c, length-append (column c) (flat_map column columns), ap length (flat_map-cons column c columns))

pub columns_fit : (columns : List ColumnDescription) → length columns ≤ 4 → AllByRecursion (λ c. length c.name ≤ 63) columns → 4 + length (counted_items column columns) < 2 ^ 32
columns_fit columns four short = omega (arith, short_columns columns short, length_counted (length columns) (flat_map column columns))

small_value : (v : DataValue) → IsSmall v → length (data_value v) ≤ 65540
small_value Null small = omega (arith, length_value Null)
small_value (Bytes bytes) small = omega (arith, length_value (Bytes bytes))

small_values : (values : List DataValue) → AllByRecursion IsSmall values → length (flat_map data_value values) ≤ 65540 * length values
small_values [] small = omega arith
small_values (v ∷ values) small =
    omega (arith, small_value v small.0, small_values values small.1, length-append (data_value v) (flat_map data_value values), ap length (flat_map-cons data_value v values))

pub values_fit : (values : List DataValue) → length values ≤ 4 → AllByRecursion IsSmall values → 4 + length (counted_items data_value values) < 2 ^ 32
values_fit values four small = omega (arith, small_values values small, length_counted (length values) (flat_map data_value values))

fits : (v : DataValue) → IsSmall v → FitsValue v
fits Null small = tt
fits (Bytes bytes) small = omega (arith, small)

pub all_fit : (values : List DataValue) → AllByRecursion IsSmall values → AllByRecursion FitsValue values
all_fit [] small = tt
all_fit (v ∷ values) small = (fits v small.0, all_fit values small.1)

-- what holds anyway, holds of what a call gives
pub always_ok : {A E : Type 0} (r : Result A E) (Fact : Type 0) → Fact → IfOk r (λ _. Fact)
always_ok (Ok a) Fact fact = fact
always_ok (Err e) Fact fact = tt

-- the rows of columns up to the next one
pub attributes_more : (number : ℕ) (xs : List TableAttribute) (x : TableAttribute) → attribute_rows number (xs ++ x ∷ []) ≡ attribute_rows number xs ++ attribute_row (number + length xs) x
attributes_more number [] x = append-nil (attribute_row number x) ∙ ap (λ (n : ℕ). attribute_row n x) (zero_more number)
  where
    zero_more : (n : ℕ) → n ≡ n + 0
    zero_more n = omega arith
attributes_more number (y ∷ ys) x =
    ap (λ (l : List ℕ). attribute_row number y ++ l) (attributes_more (number + 1) ys x)
    ∙ sym (append_assoc (attribute_row number y) (attribute_rows (number + 1) ys) (attribute_row (number + 1 + length ys) x))
    ∙ ap (λ (n : ℕ). (attribute_row number y ++ attribute_rows (number + 1) ys) ++ attribute_row n x) (omega arith)

pub attributes_next : (xs : List TableAttribute) (i : ℕ) (x : TableAttribute) → i < length xs → get_or xs i x ≡ x → attribute_rows 1 (take (i + 1) xs) ≡ attribute_rows 1 (take i xs) ++ attribute_row (1 + i) x
attributes_next xs i x within is =
    let short : length (take i xs) ≡ i = length-take-le i xs (omega arith) in
    ap (λ (l : List TableAttribute). attribute_rows 1 l) (take_more xs i x within ∙ ap (λ (y : TableAttribute). take i xs ++ y ∷ []) is)
    ∙ attributes_more 1 (take i xs) x
    ∙ ap (λ (n : ℕ). attribute_rows 1 (take i xs) ++ attribute_row (1 + n) x) short

-- ---- numbers with blanks between

number_short : (n : ℕ) → n < 2 ^ 16 → length (decimal n) ≤ 5
number_short n small = length-decimal-le 5 n (omega arith) (omega arith) (omega arith)

further_short : (numbers : List ℕ) → AllByRecursion (λ n. n < 2 ^ 16) numbers → length (flat_map further_number numbers) ≤ 6 * length numbers
further_short [] small = omega arith
further_short (n ∷ ns) small =
    omega (arith, number_short n small.0, further_short ns small.1, length-append (further_number n) (flat_map further_number ns), ap length (flat_map-cons further_number n ns))

pub numbers_short : (numbers : List ℕ) → length numbers ≤ 64 → AllByRecursion (λ n. n < 2 ^ 16) numbers → length (numbers_text numbers) ≤ 2 ^ 16
numbers_short [] few small = omega arith
numbers_short (n ∷ ns) few small = omega (arith, few, number_short n small.0, further_short ns small.1, length-append (decimal n) (flat_map further_number ns))

pub text_small : (r : Result DataValue AllocError) (text : List ℕ) → IfOk r (λ v. v ≡ Bytes text) → length text ≤ 2 ^ 16 → IfOk r IsSmall
text_small (Ok v) text is short = subst IsSmall (sym is) short
text_small (Err e) text is short = tt
