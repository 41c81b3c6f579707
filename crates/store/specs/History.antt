-- The history of a store: the changes that were made and not undone, the oldest first. What stands in the tables, what is
-- held, and which change is refused, is told of the history alone.
use Rattle.std.specs.Prelude.{◌≡◌, ℕ, ◌==◌, ◌∷◌, [], ◌++◌, Bool, false, ◌&&◌, ◌||◌, not, List, length, map, take, suc, zero, Option, Some, None, is_some, nat_lt, if◌then◌else◌}
use Rattle.std.specs.List.{list_all, list_any}
use Rattle.pqformat.specs.Fields.{int32}
use Rattle.tables.specs.declared.rows.row.TheConstants.{MAX_ROW_LENGTH}
use Rattle.tables.specs.declared.changes.change_body.TheConstants.{MAX_TRUNCATED}
use Rattle.tables.specs.declared.changes.message.TheConstants.{MAX_CONTENT_LENGTH}
use Rattle.tables.specs.declared.kinds.Value.{Value}
use Rattle.tables.specs.declared.table.Table.{Table}
use Rattle.tables.specs.declared.changes.change.Change.{Change}
use Rattle.tables.specs.declared.changes.change.Change.TheVariants as changes
use Rattle.store.specs.declared.store_fault.StoreFault.{StoreFault}
use Rattle.store.specs.declared.store_fault.StoreFault.TheVariants as faults
use Rattle.tables.specs.Spelling.{row_length}
use Rattle.tables.specs.Tables.{table_of, fits_table, fits_key, is_prefix, repeats}
use Rattle.store.specs.Rows.{Key, Rows, no_rows, with_row, key_of, key_text}
use Rattle.store.specs.Slots.{same_key}

-- a change, and its transaction while that is live
pub record Made : Type 0 where
  pub top : Option ℕ
  pub change : Change

abbrev pub change_made : ℕ → Change → Made
change_made top change = record { top = Some top; change = change }

-- whether a live transaction is this one, or another one
abbrev pub is_top : ℕ → Option ℕ → Bool
is_top top None = false
is_top top (Some x) = x == top

abbrev pub is_other : ℕ → Option ℕ → Bool
is_other top None = false
is_other top (Some x) = not (x == top)

-- ROWS

-- whether a text begins as those of a table's places do
abbrev pub is_within : List ℕ → List ℕ → Bool
is_within oids text = list_any (λ oid. same_key (take 4 text) (int32 oid)) oids

-- An insert puts its row at its key. An update takes the old key away and puts the new row at its own. A delete takes its
-- key away, and a truncate all keys of its tables. A message changes no row.
abbrev pub rows_with : List Table → Change → Rows → Rows
rows_with tables (changes.Insert oid row) rows = with_row (key_of tables oid row) (Some row) rows
rows_with tables (changes.Update oid old row) rows =
    with_row (key_of tables oid row) (Some row) (with_row (key_of tables oid old) None rows)
rows_with tables (changes.Delete oid old) rows = with_row (key_of tables oid old) None rows
rows_with tables (changes.Truncate oids) rows = λ key. if is_within oids (key_text key) then None else rows key
rows_with tables (changes.Message message) rows = rows

abbrev pub rows_from : List Table → List Made → Rows → Rows
rows_from tables [] rows = rows
rows_from tables (m ∷ ms) rows = rows_from tables ms (rows_with tables m.change rows)

-- the rows after all changes
abbrev pub rows_after : List Table → List Made → Rows
rows_after tables history = rows_from tables history no_rows

-- HOLDS

-- the text of a row's key, and one for the whole table, which is no key's: no value is spelled with this tag
abbrev pub row_place : List Table → ℕ → List Value → List ℕ
row_place tables oid row = key_text (key_of tables oid row)

abbrev pub table_place : ℕ → List ℕ
table_place oid = int32 oid ++ 255 ∷ []

-- what a change holds until its transaction ends or it is undone: keys, old and new, and truncated tables; a message holds nothing
abbrev pub places_of : List Table → Change → List (List ℕ)
places_of tables (changes.Insert oid row) = row_place tables oid row ∷ []
places_of tables (changes.Update oid old row) = row_place tables oid old ∷ row_place tables oid row ∷ []
places_of tables (changes.Delete oid old) = row_place tables oid old ∷ []
places_of tables (changes.Truncate oids) = map table_place oids
places_of tables (changes.Message message) = []

abbrev pub is_among : List ℕ → List (List ℕ) → Bool
is_among place places = list_any (λ p. same_key place p) places

-- another live transaction holds the place
abbrev pub is_held : List Table → ℕ → List Made → List ℕ → Bool
is_held tables top history place = list_any (λ m. is_other top m.top && is_among place (places_of tables m.change)) history

-- another holds the key, or its table
abbrev pub is_key_held : List Table → ℕ → List Made → Key → Bool
is_key_held tables top history key = is_held tables top history (table_place key.oid) || is_held tables top history (key_text key)

-- another holds one of these tables, or a key of one
abbrev pub is_any_held : List Table → ℕ → List Made → List ℕ → Bool
is_any_held tables top history oids =
    list_any (λ m. is_other top m.top && list_any (is_within oids) (places_of tables m.change)) history

-- UNDOING

-- the history without the changes of a transaction after its first ones
abbrev pub history_after_rollback : ℕ → ℕ → List Made → List Made
history_after_rollback top n [] = []
history_after_rollback top zero (m ∷ ms) = if is_top top m.top then history_after_rollback top zero ms else m ∷ history_after_rollback top zero ms
history_after_rollback top (suc n) (m ∷ ms) = if is_top top m.top then m ∷ history_after_rollback top n ms else m ∷ history_after_rollback top (suc n) ms

-- how many changes a transaction has made
abbrev pub count_of : ℕ → List Made → ℕ
count_of top [] = 0
count_of top (m ∷ ms) = if is_top top m.top then suc (count_of top ms) else count_of top ms

-- the history once a transaction has ended: its changes are nobody's
abbrev pub owner_after_end : ℕ → Option ℕ → Option ℕ
owner_after_end top owner = if is_top top owner then None else owner

abbrev pub change_after_end : ℕ → Made → Made
change_after_end top m = record m { top = owner_after_end top m.top }

abbrev pub history_after_end : ℕ → List Made → List Made
history_after_end top history = map (change_after_end top) history

-- REFUSALS, judged in the order S1 (table), S2 (shape), S6 (length), S5 (held), S4 (not there), S3 (there)

abbrev pub of_table : Option Table → (Table → Option StoreFault) → Option StoreFault
of_table None other = Some faults.UnknownTable
of_table (Some table) other = other table

abbrev pub unless : Bool → StoreFault → Option StoreFault → Option StoreFault
unless bad fault other = if bad then Some fault else other

-- what is said of a call by its arguments, whether another holds its keys, and which rows are there
abbrev pub insert_fault : List Table → ℕ → List Value → Bool → Bool → Option StoreFault
insert_fault tables oid row held there =
    of_table (table_of oid tables) (λ table. unless (not (fits_table table row)) faults.RowShape (
    unless (nat_lt MAX_ROW_LENGTH (row_length row)) faults.TooLarge (unless held faults.KeyHeld (unless there faults.DuplicateKey None))))

abbrev pub delete_fault : List Table → Key → Bool → Bool → Option StoreFault
delete_fault tables key held there =
    of_table (table_of key.oid tables) (λ table. unless (not (fits_key table key.values)) faults.RowShape (
    unless held faults.KeyHeld (unless (not there) faults.NoSuchRow None)))

abbrev pub update_fault : List Table → Key → List Value → Bool → Bool → Bool → Option StoreFault
update_fault tables key row held there taken =
    of_table (table_of key.oid tables) (λ table. unless (not (fits_key table key.values && fits_table table row)) faults.RowShape (
    unless (nat_lt MAX_ROW_LENGTH (row_length row)) faults.TooLarge (unless held faults.KeyHeld (
    unless (not there) faults.NoSuchRow (unless taken faults.DuplicateKey None)))))

-- S2 is of a list that is empty or names a table twice; S6 is of more tables than a body has room for
abbrev pub truncate_fault : List Table → List ℕ → Bool → Option StoreFault
truncate_fault tables oids held =
    unless (not (list_all (λ oid. is_some (table_of oid tables)) oids)) faults.UnknownTable (
    unless ((length oids == 0) || repeats oids) faults.RowShape (
    unless (nat_lt MAX_TRUNCATED (length oids)) faults.TooLarge (unless held faults.KeyHeld None)))

-- S13 is of a prefix that no message has, S6 of a content that is too long
abbrev pub message_fault : List ℕ → List ℕ → Option StoreFault
message_fault prefix content = unless (not (is_prefix prefix)) faults.BadPrefix (unless (nat_lt MAX_CONTENT_LENGTH (length content)) faults.TooLarge None)

abbrev pub is_there : List Table → List Made → Key → Bool
is_there tables history key = is_some (rows_after tables history key)

abbrev pub insert_refusal : List Table → List Made → ℕ → ℕ → List Value → Option StoreFault
insert_refusal tables history top oid row =
    insert_fault tables oid row (is_key_held tables top history (key_of tables oid row)) (is_there tables history (key_of tables oid row))

abbrev pub delete_refusal : List Table → List Made → ℕ → Key → Option StoreFault
delete_refusal tables history top key = delete_fault tables key (is_key_held tables top history key) (is_there tables history key)

-- S5 is asked of both keys, S3 only where the key changes
abbrev pub update_refusal : List Table → List Made → ℕ → Key → List Value → Option StoreFault
update_refusal tables history top key row =
    update_fault tables key row (is_key_held tables top history key || is_key_held tables top history (key_of tables key.oid row))
    (is_there tables history key)
    (not (same_key (key_text key) (row_place tables key.oid row)) && is_there tables history (key_of tables key.oid row))

abbrev pub truncate_refusal : List Table → List Made → ℕ → List ℕ → Option StoreFault
truncate_refusal tables history top oids = truncate_fault tables oids (is_any_held tables top history oids)

-- the change that a call made, with the row that was there
pub record Deletes (tables : List Table) (history : List Made) (key : Key) (change : Change) : Type 0 where
  pub old : List Value
  pub was : rows_after tables history key ≡ Some old
  pub made : change ≡ changes.Delete key.oid old

pub record Updates (tables : List Table) (history : List Made) (key : Key) (row : List Value) (change : Change) : Type 0 where
  pub old : List Value
  pub was : rows_after tables history key ≡ Some old
  pub made : change ≡ changes.Update key.oid old row
