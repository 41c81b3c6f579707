-- Each message as the list of its fields (PostgreSQL 15, 55.9), and what may stand in a body where the next field is due: it
-- isn't there whole (O1), it is another letter, flag, count or length (O3), or a text that isn't UTF-8 (O4).
use Rattle.std.specs.Prelude.{◌≡◌, ℕ, ◌^◌, ◌<◌, ◌≤◌, ◌==◌, false, List, [], ◌∷◌, ◌++◌, length, Option, Some, None}
use Rattle.std.specs.List.{flat_map, list_any}
use Rattle.std.specs.Int.{w32, w64, cast_unsigned}
use Rattle.std.specs.Str.{is_utf8}
use Rattle.pqformat.specs.Fields.{int16, int32, int64, string, has_zero}
use Rattle.pgoutput.specs.declared.fault.PgoutputError.{PgoutputError}
use Rattle.pgoutput.specs.declared.fault.PgoutputError.TheVariants.{Short, BadMark, BadText}
use Rattle.pgoutput.specs.declared.messages.begin.Begin.{Begin}
use Rattle.pgoutput.specs.declared.messages.commit.Commit.{Commit}
use Rattle.pgoutput.specs.declared.messages.commit.TheConstants.{COMMIT_FLAGS}
use Rattle.pgoutput.specs.declared.messages.relation.Relation.{Relation}
use Rattle.pgoutput.specs.declared.messages.relation.Column.{Column}
use Rattle.pgoutput.specs.declared.messages.relation.TheConstants.{IDENTITY_DEFAULT, IDENTITY_NOTHING, IDENTITY_FULL, IDENTITY_INDEX, KEY_FLAG, NO_FLAG}
use Rattle.pgoutput.specs.declared.parts.tuple.Cell.{Cell}
use Rattle.pgoutput.specs.declared.parts.tuple.Cell.TheVariants as cells
use Rattle.pgoutput.specs.declared.parts.tuple.TheConstants.{NULL, UNCHANGED, TEXT}
use Rattle.pgoutput.specs.declared.parts.old_tuple.OldTuple.{OldTuple}
use Rattle.pgoutput.specs.declared.parts.old_tuple.OldTuple.TheVariants.{Key, Full}
use Rattle.pgoutput.specs.declared.parts.old_tuple.TheConstants.{KEY, OLD}
use Rattle.pgoutput.specs.declared.messages.insert.Insert.{Insert}
use Rattle.pgoutput.specs.declared.messages.insert.TheConstants.{NEW}
use Rattle.pgoutput.specs.declared.messages.update.Update.{Update}
use Rattle.pgoutput.specs.declared.messages.delete.Delete.{Delete}
use Rattle.pgoutput.specs.declared.messages.truncate.Truncate.{Truncate}
use Rattle.pgoutput.specs.declared.messages.truncate.TheConstants.{NO_OPTIONS, CASCADE, RESTART_IDENTITY, CASCADE_AND_RESTART_IDENTITY}
use Rattle.pgoutput.specs.declared.messages.message.Message.{Message}
use Rattle.pgoutput.specs.declared.messages.message.TheConstants.{TRANSACTIONAL, NOT_TRANSACTIONAL}
use Rattle.pgoutput.specs.declared.logical.Logical.{Logical}
use Rattle.pgoutput.specs.declared.logical.Logical.TheVariants as logical
use Rattle.pgoutput.specs.Relation.{identity_letter, key_flag}
use Rattle.pgoutput.specs.Truncate.{options_letter}
use Rattle.pgoutput.specs.Message.{message_flags}
use Rattle.pgoutput.specs.Logical.{kind_byte, FitsLogical}

-- a number, of which any bytes are one; a letter or a flag, one of those that may stand there; a count or a length with no top
-- bit; a name, that a zero byte ends; a text, or any bytes, as many as the length before
-- them says
pub data Field : Type 0 where
  Number : (bytes : List ℕ) → Field
  Letter : (letters : List ℕ) → (letter : ℕ) → Field
  Count16 : (count : ℕ) → Field
  Count32 : (count : ℕ) → Field
  Name : (name : List ℕ) → Field
  Text : (text : List ℕ) → Field
  Bytes : (bytes : List ℕ) → Field

abbrev pub spell_field : Field → List ℕ
spell_field (Number bytes) = bytes
spell_field (Letter letters letter) = letter ∷ []
spell_field (Count16 count) = int16 count
spell_field (Count32 count) = int32 count
spell_field (Name name) = string name
spell_field (Text text) = text
spell_field (Bytes bytes) = bytes

abbrev pub spell_fields : List Field → List ℕ
spell_fields fields = flat_map spell_field fields

-- ---- The fields of each message.

-- a letter that is always the same
abbrev pub mark : ℕ → Field
mark letter = Letter (letter ∷ []) letter

abbrev pub begin_fields : Begin → List Field
begin_fields m = Number (int64 m.position) ∷ Number (int64 (cast_unsigned w64 m.time)) ∷ Number (int32 m.xid) ∷ []

abbrev pub commit_fields : Commit → List Field
commit_fields m = mark COMMIT_FLAGS ∷ Number (int64 m.position) ∷ Number (int64 m.end) ∷ Number (int64 (cast_unsigned w64 m.time)) ∷ []

abbrev pub flags : List ℕ
flags = KEY_FLAG ∷ NO_FLAG ∷ []

abbrev pub column_fields : Column → List Field
column_fields c = Letter flags (key_flag c.is_key) ∷ Name c.name ∷ Number (int32 c.kind) ∷ Number (int32 (cast_unsigned w32 c.modifier)) ∷ []

abbrev pub identities : List ℕ
identities = IDENTITY_DEFAULT ∷ IDENTITY_NOTHING ∷ IDENTITY_FULL ∷ IDENTITY_INDEX ∷ []

abbrev pub relation_fields : Relation → List Field
relation_fields m =
    Number (int32 m.oid) ∷ Name m.namespace ∷ Name m.name ∷ Letter identities (identity_letter m.identity)
    ∷ Count16 (length m.columns) ∷ flat_map column_fields m.columns

abbrev pub cell_letters : List ℕ
cell_letters = NULL ∷ UNCHANGED ∷ TEXT ∷ []

abbrev pub cell_fields : Cell → List Field
cell_fields cells.Null = Letter cell_letters NULL ∷ []
cell_fields cells.Unchanged = Letter cell_letters UNCHANGED ∷ []
cell_fields (cells.Text text) = Letter cell_letters TEXT ∷ Count32 (length text) ∷ Text text ∷ []

abbrev pub tuple_fields : List Cell → List Field
tuple_fields cells = Count16 (length cells) ∷ flat_map cell_fields cells

-- Of an Insert every value is sent.
abbrev pub sent_letters : List ℕ
sent_letters = NULL ∷ TEXT ∷ []

abbrev pub sent_cell_fields : Cell → List Field
sent_cell_fields cells.Null = Letter sent_letters NULL ∷ []
sent_cell_fields cells.Unchanged = Letter sent_letters UNCHANGED ∷ []
sent_cell_fields (cells.Text text) = Letter sent_letters TEXT ∷ Count32 (length text) ∷ Text text ∷ []

abbrev pub sent_fields : List Cell → List Field
sent_fields cells = Count16 (length cells) ∷ flat_map sent_cell_fields cells

abbrev pub insert_fields : Insert → List Field
insert_fields m = Number (int32 m.oid) ∷ mark NEW ∷ sent_fields m.new

abbrev pub row_letters : List ℕ
row_letters = NEW ∷ KEY ∷ OLD ∷ []

-- the rows of an Update, the old one only where it is sent
abbrev pub row_fields : Option OldTuple → List Cell → List Field
row_fields None new = Letter row_letters NEW ∷ tuple_fields new
row_fields (Some (Key old)) new = Letter row_letters KEY ∷ (tuple_fields old ++ mark NEW ∷ tuple_fields new)
row_fields (Some (Full old)) new = Letter row_letters OLD ∷ (tuple_fields old ++ mark NEW ∷ tuple_fields new)

abbrev pub update_fields : Update → List Field
update_fields m = Number (int32 m.oid) ∷ row_fields m.old m.new

abbrev pub old_letters : List ℕ
old_letters = KEY ∷ OLD ∷ []

abbrev pub old_fields : OldTuple → List Field
old_fields (Key cells) = Letter old_letters KEY ∷ tuple_fields cells
old_fields (Full cells) = Letter old_letters OLD ∷ tuple_fields cells

abbrev pub delete_fields : Delete → List Field
delete_fields m = Number (int32 m.oid) ∷ old_fields m.old

abbrev pub options : List ℕ
options = NO_OPTIONS ∷ CASCADE ∷ RESTART_IDENTITY ∷ CASCADE_AND_RESTART_IDENTITY ∷ []

abbrev pub oid_field : ℕ → List Field
oid_field oid = Number (int32 oid) ∷ []

abbrev pub truncate_fields : Truncate → List Field
truncate_fields m = Count32 (length m.oids) ∷ Letter options (options_letter m.options) ∷ flat_map oid_field m.oids

abbrev pub transactional_flags : List ℕ
transactional_flags = TRANSACTIONAL ∷ NOT_TRANSACTIONAL ∷ []

abbrev pub message_fields : Message → List Field
message_fields m =
    Letter transactional_flags (message_flags m.is_transactional) ∷ Number (int64 m.position) ∷ Name m.prefix
    ∷ Count32 (length m.content) ∷ Bytes m.content ∷ []

abbrev pub fields_after : Logical → List Field
fields_after (logical.Begin m) = begin_fields m
fields_after (logical.Commit m) = commit_fields m
fields_after (logical.Relation m) = relation_fields m
fields_after (logical.Insert m) = insert_fields m
fields_after (logical.Update m) = update_fields m
fields_after (logical.Delete m) = delete_fields m
fields_after (logical.Truncate m) = truncate_fields m
fields_after (logical.Message m) = message_fields m

-- The kind byte is judged by itself, as O2.
abbrev pub fields_of : Logical → List Field
fields_of m = Number (kind_byte m ∷ []) ∷ fields_after m

-- ---- What stands where a field is due.

-- The field isn't there whole.
abbrev pub IsOpen : Field → List ℕ → Type 0
IsOpen (Name name) rest = has_zero rest ≡ false
IsOpen field rest = length rest < length (spell_field field)

-- another letter or flag, or a count or length with its top bit
abbrev pub IsOther : Field → List ℕ → Type 0
IsOther (Letter letters letter) rest = (b : ℕ) × (more : List ℕ) × (rest ≡ b ∷ more) × (list_any (λ l. b == l) letters ≡ false)
IsOther (Count16 count) rest = (n : ℕ) × (more : List ℕ) × (rest ≡ int16 n ++ more) × (2 ^ 15 ≤ n) × (n < 2 ^ 16)
IsOther (Count32 count) rest = (n : ℕ) × (more : List ℕ) × (rest ≡ int32 n ++ more) × (2 ^ 31 ≤ n) × (n < 2 ^ 32)
IsOther field rest = ⊥

-- a whole text that isn't UTF-8
abbrev pub IsNoText : Field → List ℕ → Type 0
IsNoText (Name name) rest = (bad more : List ℕ) × (rest ≡ string bad ++ more) × (has_zero bad ≡ false) × (is_utf8 bad ≡ false)
IsNoText (Text text) rest = (bad more : List ℕ) × (rest ≡ bad ++ more) × (length bad ≡ length text) × (is_utf8 bad ≡ false)
IsNoText field rest = ⊥

abbrev pub IsAtFault : PgoutputError → Field → List ℕ → Type 0
IsAtFault Short field rest = IsOpen field rest
IsAtFault BadMark field rest = IsOther field rest
IsAtFault BadText field rest = IsNoText field rest
IsAtFault _ field rest = ⊥

-- The bytes begin with whole fields of some value in range, and what stands after them is at fault where its next field is due.
pub record Stops {A : Type 0} (fields : A → List Field) (Fits : A → Type 0) (e : PgoutputError) (bytes : List ℕ) : Type 0 where
  pub value : A
  pub in_range : Fits value
  pub before : List Field
  pub next : Field
  pub after : List Field
  pub rest : List ℕ
  pub parts : fields value ≡ before ++ next ∷ after
  pub text : bytes ≡ spell_fields before ++ rest
  pub at_fault : IsAtFault e next rest

-- The same of a message: the fields before the fault are those of a message, and the next one of that message doesn't stand there.
abbrev pub StopsIn : PgoutputError → List ℕ → Type 0
StopsIn e bytes = Stops fields_of FitsLogical e bytes
