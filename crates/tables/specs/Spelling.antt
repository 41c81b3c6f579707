-- How the log keeps a change: a row is a count of two bytes and its values. The body of a change is a tag, the table's OID and its
-- rows, of an update the old one first; of a truncate a count of two bytes and the OIDs; of a message its prefix after a length of
-- two bytes, and its content after one of four.
use Rattle.std.specs.Prelude.{ℕ, ◌≤◌, List, ◌∷◌, ◌++◌, length}
use Rattle.std.specs.List.{flat_map}
use Rattle.pqformat.specs.Fields.{int16, int32}
use Rattle.tables.specs.declared.changes.change_body.TheConstants.{INSERT_TAG, UPDATE_TAG, DELETE_TAG, TRUNCATE_TAG, MESSAGE_TAG, MAX_TRUNCATED}
use Rattle.tables.specs.declared.changes.message.TheConstants.{MAX_PREFIX_LENGTH, MAX_CONTENT_LENGTH}
use Rattle.tables.specs.declared.changes.message.Message.{Message}
use Rattle.tables.specs.declared.rows.row.TheConstants.{MAX_ROW_LENGTH}
use Rattle.tables.specs.declared.kinds.Value.{Value}
use Rattle.tables.specs.declared.changes.change.Change.{Change}
use Rattle.tables.specs.declared.changes.change.Change.TheVariants as changes
use Rattle.tables.specs.Kinds.{spell_value}

abbrev pub spell_row : List Value → List ℕ
spell_row row = int16 (length row) ++ flat_map spell_value row

abbrev pub row_length : List Value → ℕ
row_length row = length (spell_row row)

abbrev pub spell_one : ℕ → ℕ → List Value → List ℕ
spell_one tag oid row = tag ∷ (int32 oid ++ spell_row row)

abbrev pub spell_oids : List ℕ → List ℕ
spell_oids oids = int16 (length oids) ++ flat_map int32 oids

abbrev pub spell_message : Message → List ℕ
spell_message message = (int16 (length message.prefix) ++ message.prefix) ++ (int32 (length message.content) ++ message.content)

abbrev pub spell_body : Change → List ℕ
spell_body (changes.Insert oid row) = spell_one INSERT_TAG oid row
spell_body (changes.Update oid old row) = spell_one UPDATE_TAG oid old ++ spell_row row
spell_body (changes.Delete oid old) = spell_one DELETE_TAG oid old
spell_body (changes.Truncate oids) = TRUNCATE_TAG ∷ spell_oids oids
spell_body (changes.Message message) = MESSAGE_TAG ∷ spell_message message

abbrev pub body_length : Change → ℕ
body_length change = length (spell_body change)

abbrev pub IsShortMessage : Message → Type 0
IsShortMessage message = (length message.prefix ≤ MAX_PREFIX_LENGTH) × (length message.content ≤ MAX_CONTENT_LENGTH)

-- what may be written: rows of at most 8,000 bytes, at most 256 tables, and messages of at most 63 and 8,000 bytes
abbrev pub IsShort : Change → Type 0
IsShort (changes.Insert oid row) = row_length row ≤ MAX_ROW_LENGTH
IsShort (changes.Update oid old row) = (row_length old ≤ MAX_ROW_LENGTH) × (row_length row ≤ MAX_ROW_LENGTH)
IsShort (changes.Delete oid old) = row_length old ≤ MAX_ROW_LENGTH
IsShort (changes.Truncate oids) = length oids ≤ MAX_TRUNCATED
IsShort (changes.Message message) = IsShortMessage message
