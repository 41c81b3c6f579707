-- The lengths of numbers, rows and bodies in a spelling.
use Rattle.std.proofs.Common.{◌≡◌, ◌≤◌, ◌<◌, ◌^◌, ◌+◌, ◌*◌, ℕ, List, [], ◌∷◌, ◌++◌, Bool, true, false, ◌&&◌, length, arith, length-append, refl}
use Rattle.std.specs.Prelude.{IsSome, nat_le}
use Rattle.std.specs.List.{AllByRecursion, flat_map}
use Rattle.pqformat.specs.Fields.{int16, int32}
use Rattle.pqformat.proofs.Numbers.{length-int16, length-int32}
use Rattle.tables.specs.declared.kinds.Value.{Value}
use Rattle.tables.specs.declared.table.Table.{Table}
use Rattle.tables.specs.declared.changes.change.Change.{Change}
use Rattle.tables.specs.declared.changes.change.Change.TheVariants as changes
use Rattle.tables.specs.declared.changes.change_body.TheConstants.{MAX_BODY_LENGTH}
use Rattle.tables.specs.declared.rows.row.TheConstants.{MAX_ROW_LENGTH}
use Rattle.tables.specs.declared.changes.message.TheConstants.{MAX_PREFIX_LENGTH}
use Rattle.tables.specs.declared.changes.message.Message.{Message}
use Rattle.std.proofs.lemmas.Bool.{leb-true}
use Rattle.tables.specs.Kinds.{IsCodedValue, IsValue, has_no_zero, spell_value}
use Rattle.tables.specs.Reading.{IsCodedRow, IsCodedMessage, IsCoded}
use Rattle.tables.specs.Tables.{FitsChange, FitsMessage, is_prefix, table_of}
use Rattle.tables.specs.Spelling.{spell_row, row_length, spell_one, body_length, IsShort, IsShortMessage}
use Rattle.tables.proofs.Values.{coded_value, some_byte}

pub row_length_is : (row : List Value) → row_length row ≡ 2 + length (flat_map spell_value row)
row_length_is row = omega (arith, length-append (int16 (length row)) (flat_map spell_value row), length-int16 (length row))

counted : (row : List Value) → length row ≤ length (flat_map spell_value row)
counted [] = omega arith
counted (value ∷ row) = omega (arith, counted row, some_byte value, length-append (spell_value value) (flat_map spell_value row))

-- a row has no more values than its coding has bytes
pub count_le_row_length : (row : List Value) → length row ≤ row_length row
count_le_row_length row = omega (arith, counted row, row_length_is row)

pub one_row_length : (tag oid : ℕ) (row : List Value) → length (spell_one tag oid row) ≡ 5 + row_length row
one_row_length tag oid row = omega (arith, length-append (int32 oid) (spell_row row), length-int32 oid)

pub two_rows_length : (oid : ℕ) (old row : List Value) → body_length (changes.Update oid old row) ≡ 5 + row_length old + row_length row
two_rows_length oid old row = omega (arith, length-append (spell_one 2 oid old) (spell_row row), one_row_length 2 oid old)

oids_length : (oids : List ℕ) → length (flat_map int32 oids) ≡ 4 * length oids
oids_length [] = omega arith
oids_length (x ∷ oids) = omega (arith, length-append (int32 x) (flat_map int32 oids), length-int32 x, oids_length oids)

pub truncate_length : (oids : List ℕ) → body_length (changes.Truncate oids) ≡ 3 + 4 * length oids
truncate_length oids = omega (arith, length-append (int16 (length oids)) (flat_map int32 oids), length-int16 (length oids), oids_length oids)

pub message_length : (message : Message) → body_length (changes.Message message) ≡ 7 + length message.prefix + length message.content
message_length message =
    omega (
      arith,
      length-append (int16 (length message.prefix) ++ message.prefix) (int32 (length message.content) ++ message.content),
      length-append (int16 (length message.prefix)) message.prefix,
      length-append (int32 (length message.content)) message.content,
      length-int16 (length message.prefix),
      length-int32 (length message.content),
    )

coded_values : (row : List Value) → AllByRecursion IsValue row → length (flat_map spell_value row) ≤ MAX_ROW_LENGTH → AllByRecursion IsCodedValue row
coded_values [] fits short = tt
coded_values (value ∷ row) fits short =
    let parts = length-append (spell_value value) (flat_map spell_value row) in
    (coded_value value fits.0 (omega (arith, short, parts)), coded_values row fits.1 (omega (arith, short, parts)))

pub coded_row : (row : List Value) → AllByRecursion IsValue row → row_length row ≤ MAX_ROW_LENGTH → IsCodedRow row
coded_row row fits short =
    (omega (arith, count_le_row_length row, short), coded_values row fits (omega (arith, row_length_is row, short)))

all_numbers : (P : ℕ → Type 0) (oids : List ℕ) → AllByRecursion (λ oid. (oid < 2 ^ 32) × P oid) oids → AllByRecursion (λ oid. oid < 2 ^ 32) oids
all_numbers P [] all = tt
all_numbers P (oid ∷ oids) all = (all.0.0, all_numbers P oids all.1)

both_hold : (a b : Bool) → (a && b) ≡ true → (a ≡ true) × (b ≡ true)
both_hold true b is = (refl, is)
both_hold false b is = absurd cc

-- a prefix is short
pub short_prefix : (text : List ℕ) → is_prefix text ≡ true → length text ≤ MAX_PREFIX_LENGTH
short_prefix text is = leb-true (length text) MAX_PREFIX_LENGTH (both_hold (nat_le (length text) MAX_PREFIX_LENGTH) (has_no_zero text) is).0

pub short_message : (message : Message) → FitsMessage message → IsShortMessage message
short_message message fits = (short_prefix message.prefix fits.prefix, fits.short)

coded_message : (message : Message) → FitsMessage message → IsCodedMessage message
coded_message message fits =
    ((omega (arith, short_prefix message.prefix fits.prefix), fits.in_range), omega (arith, fits.short))

-- what fits the tables can be written
pub short_of_fits : (tables : List Table) (change : Change) → FitsChange tables change → IsShort change
short_of_fits tables (changes.Insert oid row) fits = fits.short
short_of_fits tables (changes.Update oid old row) fits = (fits.0.short, fits.1.short)
short_of_fits tables (changes.Delete oid old) fits = fits.short
short_of_fits tables (changes.Truncate oids) fits = fits.0
short_of_fits tables (changes.Message message) fits = short_message message fits

-- and can be read again
pub coded_of_fits : (tables : List Table) (change : Change) → FitsChange tables change → IsCoded change
coded_of_fits tables (changes.Insert oid row) fits = (fits.number, coded_row row fits.in_range fits.short)
coded_of_fits tables (changes.Update oid old row) fits =
    ((fits.0.number, coded_row old fits.0.in_range fits.0.short), coded_row row fits.1.in_range fits.1.short)
coded_of_fits tables (changes.Delete oid old) fits = (fits.number, coded_row old fits.in_range fits.short)
coded_of_fits tables (changes.Truncate oids) fits = (omega (arith, fits.0), all_numbers (λ oid. IsSome (table_of oid tables)) oids fits.1)
coded_of_fits tables (changes.Message message) fits = coded_message message fits

pub insert_length : (oid : ℕ) (row : List Value) → body_length (changes.Insert oid row) ≡ 5 + row_length row
insert_length oid row = one_row_length 1 oid row

pub delete_length : (oid : ℕ) (row : List Value) → body_length (changes.Delete oid row) ≡ 5 + row_length row
delete_length oid row = one_row_length 3 oid row

-- a short change has a short body
pub body_bounded : (change : Change) → IsShort change → body_length change ≤ MAX_BODY_LENGTH
body_bounded (changes.Insert oid row) short = omega (arith, insert_length oid row, short)
body_bounded (changes.Update oid old row) short = omega (arith, two_rows_length oid old row, short.0, short.1)
body_bounded (changes.Delete oid old) short = omega (arith, delete_length oid old, short)
body_bounded (changes.Truncate oids) short = omega (arith, truncate_length oids, short)
body_bounded (changes.Message message) short = omega (arith, message_length message, short.0, short.1)
