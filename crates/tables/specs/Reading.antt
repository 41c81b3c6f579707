-- How a change is read from its body: one field after the other, up to the first fault.
use Rattle.std.specs.Prelude.{◌≡◌, ◌⊎◌, ℕ, ◌^◌, ◌<◌, ◌==◌, Bool, true, ◌||◌, List, ◌∷◌, ◌++◌, length, IsSomeAnd, Result, Ok, Err, IsOk, if◌then◌else◌}
use Rattle.std.specs.List.{AllByRecursion}
use Rattle.std.specs.Int.{w16, w32}
use Rattle.std.specs.Str.{is_utf8}
use Rattle.pqformat.specs.Fields.{byte_at, bytes_at, number_at, int16, int32}
use Rattle.pqformat.specs.Steps.{◌>>=◌, repeat_at}
use Rattle.tables.specs.declared.changes.change_body.TheConstants.{INSERT_TAG, UPDATE_TAG, DELETE_TAG, TRUNCATE_TAG, MESSAGE_TAG}
use Rattle.tables.specs.declared.fault.BodyFault.{BodyFault}
use Rattle.tables.specs.declared.fault.BodyFault.TheVariants.{UnknownTag, BadText, Trailing, Memory}
use Rattle.tables.specs.declared.kinds.Value.{Value}
use Rattle.tables.specs.declared.changes.change.Change.{Change}
use Rattle.tables.specs.declared.changes.change.Change.TheVariants as changes
use Rattle.tables.specs.declared.changes.message.Message.{Message}
use Rattle.tables.specs.Kinds.{IsCodedValue, short, sized_at, spell_value, value_at}
use Rattle.tables.specs.Spelling.{spell_message, spell_body}

-- WHAT HAS A BODY

abbrev pub IsCodedRow : List Value → Type 0
IsCodedRow row = (length row < 2 ^ 16) × AllByRecursion IsCodedValue row

abbrev pub IsCodedOids : List ℕ → Type 0
IsCodedOids oids = (length oids < 2 ^ 16) × AllByRecursion (λ oid. oid < 2 ^ 32) oids

abbrev pub IsCodedMessage : Message → Type 0
IsCodedMessage message = ((length message.prefix < 2 ^ 16) × (is_utf8 message.prefix ≡ true)) × (length message.content < 2 ^ 32)

abbrev pub IsCoded : Change → Type 0
IsCoded (changes.Insert oid row) = (oid < 2 ^ 32) × IsCodedRow row
IsCoded (changes.Update oid old row) = ((oid < 2 ^ 32) × IsCodedRow old) × IsCodedRow row
IsCoded (changes.Delete oid old) = (oid < 2 ^ 32) × IsCodedRow old
IsCoded (changes.Truncate oids) = IsCodedOids oids
IsCoded (changes.Message message) = IsCodedMessage message

-- the bytes are the one spelling of the change
pub record SpellsBody (bytes : List ℕ) (change : Change) : Type 0 where
  pub in_range : IsCoded change
  pub text : bytes ≡ spell_body change

-- READING

unfoldable pub row_at : List ℕ → Result (List Value × List ℕ) BodyFault
row_at bytes = short (number_at w16 bytes) >>= λ n. repeat_at value_at n.0 n.1

-- an OID and a row
unfoldable pub insert_at : List ℕ → Result ((ℕ × List Value) × List ℕ) BodyFault
insert_at bytes = short (number_at w32 bytes) >>= λ oid. row_at oid.1 >>= λ row. Ok ((oid.0, row.0), row.1)

abbrev pub oid_at : List ℕ → Result (ℕ × List ℕ) BodyFault
oid_at bytes = short (number_at w32 bytes)

unfoldable pub oids_at : List ℕ → Result (List ℕ × List ℕ) BodyFault
oids_at bytes = short (number_at w16 bytes) >>= λ n. repeat_at oid_at n.0 n.1

unfoldable pub update_at : List ℕ → Result (((ℕ × List Value) × List Value) × List ℕ) BodyFault
update_at bytes = insert_at bytes >>= λ m. row_at m.1 >>= λ row. Ok ((m.0, row.0), row.1)

-- a text after its length in two bytes
abbrev pub prefix_sized_at : List ℕ → Result (List ℕ × List ℕ) BodyFault
prefix_sized_at bytes = short (number_at w16 bytes) >>= λ n. short (bytes_at n.0 n.1)

unfoldable pub prefix_at : List ℕ → Result (List ℕ × List ℕ) BodyFault
prefix_at bytes = prefix_sized_at bytes >>= λ text. if is_utf8 text.0 then Ok text else Err BadText

-- a prefix, and a content after its length in four bytes
unfoldable pub message_at : List ℕ → Result (Message × List ℕ) BodyFault
message_at bytes = prefix_at bytes >>= λ prefix. sized_at prefix.1 >>= λ content. Ok (record { prefix = prefix.0; content = content.0 }, content.1)

abbrev pub change_tagged : ℕ → List ℕ → Result (Change × List ℕ) BodyFault
change_tagged tag bytes =
    if tag == INSERT_TAG then insert_at bytes >>= (λ m. Ok (changes.Insert m.0.0 m.0.1, m.1))
    else (if tag == UPDATE_TAG then update_at bytes >>= (λ m. Ok (changes.Update m.0.0.0 m.0.0.1 m.0.1, m.1))
    else (if tag == DELETE_TAG then insert_at bytes >>= (λ m. Ok (changes.Delete m.0.0 m.0.1, m.1))
    else (if tag == TRUNCATE_TAG then oids_at bytes >>= (λ m. Ok (changes.Truncate m.0, m.1))
    else (if tag == MESSAGE_TAG then message_at bytes >>= (λ m. Ok (changes.Message m.0, m.1)) else Err UnknownTag))))

unfoldable pub change_at : List ℕ → Result (Change × List ℕ) BodyFault
change_at bytes = short (byte_at bytes) >>= λ tag. change_tagged tag.0 tag.1

-- the whole body
unfoldable pub body_at : List ℕ → Result (Change × List ℕ) BodyFault
body_at bytes = change_at bytes >>= λ change. if length change.1 == 0 then Ok change else Err Trailing

-- WHERE MEMORY IS WANTED

-- a row's count of at least one, and its first value, spelled right
pub record BeginsRow (bytes : List ℕ) : Type 0 where
  pub count : ℕ
  pub value : Value
  pub rest : List ℕ
  pub some : 0 < count
  pub few : count < 2 ^ 16
  pub in_range : IsCodedValue value
  pub text : bytes ≡ int16 count ++ (spell_value value ++ rest)

abbrev pub is_row_tag : ℕ → Bool
is_row_tag tag = (tag == INSERT_TAG) || ((tag == UPDATE_TAG) || (tag == DELETE_TAG))

-- There is something to keep: the first value of a row,
pub record HoldsRow (bytes : List ℕ) : Type 0 where
  pub tag : ℕ
  pub oid : ℕ
  pub row : List ℕ
  pub is_row : is_row_tag tag ≡ true
  pub begins : BeginsRow row
  pub text : bytes ≡ tag ∷ (int32 oid ++ row)

-- of an update the first value of the new row, where the old one has none,
pub record HoldsNewRow (bytes : List ℕ) : Type 0 where
  pub oid : ℕ
  pub row : List ℕ
  pub begins : BeginsRow row
  pub text : bytes ≡ UPDATE_TAG ∷ (int32 oid ++ (int16 0 ++ row))

-- a truncate's count of at least one, and its first OID,
pub record HoldsOid (bytes : List ℕ) : Type 0 where
  pub count : ℕ
  pub oid : ℕ
  pub rest : List ℕ
  pub some : 0 < count
  pub few : count < 2 ^ 16
  pub in_range : oid < 2 ^ 32
  pub text : bytes ≡ TRUNCATE_TAG ∷ (int16 count ++ (int32 oid ++ rest))

-- or a message.
pub record HoldsMessage (bytes : List ℕ) : Type 0 where
  pub message : Message
  pub rest : List ℕ
  pub in_range : IsCodedMessage message
  pub text : bytes ≡ MESSAGE_TAG ∷ (spell_message message ++ rest)

abbrev pub HoldsPart : List ℕ → Type 0
HoldsPart bytes = HoldsRow bytes ⊎ (HoldsNewRow bytes ⊎ (HoldsOid bytes ⊎ HoldsMessage bytes))

-- the same said of the reader: a row, or a row after an OID, of which the first value is read
abbrev pub RowHasValue : List ℕ → Type 0
RowHasValue bytes = IsSomeAnd (number_at w16 bytes) (λ n. (0 < n.0) × IsOk (value_at n.1))

abbrev pub InsertHasValue : List ℕ → Type 0
InsertHasValue bytes = IsSomeAnd (number_at w32 bytes) (λ oid. RowHasValue oid.1)

pub record SecondHasValue (bytes : List ℕ) : Type 0 where
  pub first : ℕ × List Value
  pub rest : List ℕ
  pub read : insert_at bytes ≡ Ok (first, rest)
  pub value : RowHasValue rest

abbrev pub UpdateHasValue : List ℕ → Type 0
UpdateHasValue bytes = InsertHasValue bytes ⊎ SecondHasValue bytes

abbrev pub OidsHaveOne : List ℕ → Type 0
OidsHaveOne bytes = IsSomeAnd (number_at w16 bytes) (λ n. (0 < n.0) × IsOk (oid_at n.1))

abbrev pub KindHasPart : ℕ → List ℕ → Type 0
KindHasPart tag bytes =
    ((tag ≡ INSERT_TAG) × InsertHasValue bytes) ⊎ (((tag ≡ UPDATE_TAG) × UpdateHasValue bytes)
    ⊎ (((tag ≡ DELETE_TAG) × InsertHasValue bytes) ⊎ (((tag ≡ TRUNCATE_TAG) × OidsHaveOne bytes)
    ⊎ ((tag ≡ MESSAGE_TAG) × IsOk (message_at bytes)))))

abbrev pub ChangeHasPart : List ℕ → Type 0
ChangeHasPart bytes = IsSomeAnd (byte_at bytes) (λ tag. KindHasPart tag.0 tag.1)

-- WHAT A READER ANSWERS

abbrev pub Fails : {Y : Type 0} → BodyFault → Result Y BodyFault → Type 0
Fails Memory read = Unit {0}
Fails fault read = read ≡ Err fault

-- the value and what is left after it, or the fault, unless memory was refused
abbrev pub Gives : {X : Type 0} → Result X BodyFault → List ℕ → Result (X × List ℕ) BodyFault → Type 0
Gives (Ok x) rest read = read ≡ Ok (x, rest)
Gives (Err fault) rest read = Fails fault read
