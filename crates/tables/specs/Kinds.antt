-- The kinds of columns, and all that is said of each: which values are of it, its name in a configuration, and how the log keeps a
-- value, as a tag and its bytes. A further kind is a line in each of these.
use Rattle.std.specs.Prelude.{◌≡◌, ℕ, ◌+◌, ◌*◌, ◌^◌, ◌<◌, ◌==◌, Bool, true, false, not, List, [], ◌∷◌, ◌++◌, length, codes, FitsSigned, Option, Some, None, option_map, Result, Ok, Err, if◌then◌else◌}
use Rattle.std.specs.List.{list_all}
use Rattle.std.specs.Option.{ok_or}
use Rattle.std.specs.Int.{w16, w32, w64, w128, cast_unsigned, from_be_bytes, to_be_bytes}
use Rattle.std.specs.Str.{bytes_eq, is_utf8}
use Rattle.uuid.specs.Text.{parsed_hyphenated}
use Rattle.data_types.specs.declared.data_type.DataType.{DataType}
use Rattle.data_types.specs.DataTypes.{has_one_text}
use Rattle.data_types.specs.Names.{type_named}
use Rattle.data_types.specs.Sent.{is_sent_text}
use Rattle.pqformat.specs.Fields.{byte_at, bytes_at, number_at, int16, int32, int64}
use Rattle.pqformat.specs.Steps.{◌>>=◌, letter_at, signed_at}
use Rattle.tables.specs.declared.kinds.Kind.{Kind}
use Rattle.tables.specs.declared.kinds.Kind.TheVariants as kinds
use Rattle.tables.specs.declared.kinds.Value.{Value}
use Rattle.tables.specs.declared.kinds.Value.TheVariants as values
use Rattle.tables.specs.declared.kinds.ValueRef.{ValueRef}
use Rattle.tables.specs.declared.kinds.ValueRef.TheVariants as refs
use Rattle.tables.specs.declared.kinds.TheConstants.{NULL_TAG, BOOL_TAG, INT2_TAG, INT4_TAG, INT8_TAG, TEXT_TAG, UUID_TAG}
use Rattle.tables.specs.declared.fault.BodyFault.{BodyFault}
use Rattle.tables.specs.declared.fault.BodyFault.TheVariants.{Short, UnknownTag, BadBool, BadText}

-- the kind of this name
abbrev pub kind_named : List ℕ → Option Kind
kind_named name =
    if bytes_eq name (codes "bool") then Some kinds.Bool
    else if bytes_eq name (codes "int2") then Some kinds.Int2
    else if bytes_eq name (codes "int4") then Some kinds.Int4
    else if bytes_eq name (codes "int8") then Some kinds.Int8
    else if bytes_eq name (codes "text") then Some kinds.Text
    else if bytes_eq name (codes "uuid") then Some kinds.Uuid
    else option_map kinds.AsText (type_named name)

-- VALUES

-- what a value of Rust is: a number of its width, and a text in UTF-8
abbrev pub IsValue : Value → Type 0
IsValue (values.Int2 n) = FitsSigned w16 n
IsValue (values.Int4 n) = FitsSigned w32 n
IsValue (values.Int8 n) = FitsSigned w64 n
IsValue (values.Text text) = is_utf8 text ≡ true
IsValue (values.Uuid n) = n < 2 ^ 128
IsValue value = Unit {0}

abbrev pub is_bool : Value → Bool
is_bool (values.Bool b) = true
is_bool value = false

abbrev pub is_int2 : Value → Bool
is_int2 (values.Int2 n) = true
is_int2 value = false

abbrev pub is_int4 : Value → Bool
is_int4 (values.Int4 n) = true
is_int4 value = false

abbrev pub is_int8 : Value → Bool
is_int8 (values.Int8 n) = true
is_int8 value = false

-- no zero byte stands in the text
abbrev pub has_no_zero : List ℕ → Bool
has_no_zero text = list_all (λ b. not (b == 0)) text

-- a text has no zero byte
abbrev pub is_text : Value → Bool
is_text (values.Text text) = has_no_zero text
is_text value = false

abbrev pub is_uuid : Value → Bool
is_uuid (values.Uuid n) = true
is_uuid value = false

-- the text is one that PostgreSQL sends of a value of this type
abbrev pub is_sent : DataType → Value → Bool
is_sent data_type (values.Text text) = is_sent_text data_type text
is_sent data_type value = false

abbrev pub is_of_kind : Kind → Value → Bool
is_of_kind kinds.Bool value = is_bool value
is_of_kind kinds.Int2 value = is_int2 value
is_of_kind kinds.Int4 value = is_int4 value
is_of_kind kinds.Int8 value = is_int8 value
is_of_kind kinds.Text value = is_text value
is_of_kind kinds.Uuid value = is_uuid value
is_of_kind (kinds.AsText data_type) value = is_sent data_type value

-- values of the kind are equal only if they are the same here
abbrev pub identifies : Kind → Bool
identifies (kinds.AsText data_type) = has_one_text data_type
identifies kind = true

-- the UUID of a text: 32 hex digits, in either case, of which 8, 4, 4, 4 and 12 stand between hyphens
unfoldable pub uuid_of_text : List ℕ → Option ℕ
uuid_of_text text = option_map (λ bytes. from_be_bytes w128 bytes) (parsed_hyphenated text)

-- the value that is read where it lies
abbrev pub value_of : ValueRef → Value
value_of refs.Null = values.Null
value_of (refs.Bool b) = values.Bool b
value_of (refs.Int2 n) = values.Int2 n
value_of (refs.Int4 n) = values.Int4 n
value_of (refs.Int8 n) = values.Int8 n
value_of (refs.Text text) = values.Text text.now
value_of (refs.Uuid high low) = values.Uuid (high * 2 ^ 64 + low)

-- HOW THE LOG KEEPS THEM

-- the sixteen bytes of a UUID (RFC 9562)
unfoldable pub uuid_bytes : ℕ → List ℕ
uuid_bytes n = to_be_bytes w128 n

abbrev pub spell_value : Value → List ℕ
spell_value values.Null = NULL_TAG ∷ []
spell_value (values.Bool b) = BOOL_TAG ∷ (if b then 1 else 0) ∷ []
spell_value (values.Int2 n) = INT2_TAG ∷ int16 (cast_unsigned w16 n)
spell_value (values.Int4 n) = INT4_TAG ∷ int32 (cast_unsigned w32 n)
spell_value (values.Int8 n) = INT8_TAG ∷ int64 (cast_unsigned w64 n)
spell_value (values.Text text) = TEXT_TAG ∷ (int32 (length text) ++ text)
spell_value (values.Uuid n) = UUID_TAG ∷ uuid_bytes n

abbrev pub IsCodedValue : Value → Type 0
IsCodedValue (values.Int2 n) = FitsSigned w16 n
IsCodedValue (values.Int4 n) = FitsSigned w32 n
IsCodedValue (values.Int8 n) = FitsSigned w64 n
IsCodedValue (values.Text text) = (length text < 2 ^ 32) × (is_utf8 text ≡ true)
IsCodedValue (values.Uuid n) = n < 2 ^ 128
IsCodedValue value = Unit {0}

abbrev pub short : {A : Type 0} → Option A → Result A BodyFault
short o = ok_or o Short

abbrev pub bool_of : ℕ → Option Bool
bool_of b = if b == 0 then Some false else (if b == 1 then Some true else None)

-- so many bytes as the four in front of them say
abbrev pub sized_at : List ℕ → Result (List ℕ × List ℕ) BodyFault
sized_at bytes = short (number_at w32 bytes) >>= λ n. short (bytes_at n.0 n.1)

unfoldable pub text_at : List ℕ → Result (List ℕ × List ℕ) BodyFault
text_at bytes = sized_at bytes >>= λ text. if is_utf8 text.0 then Ok text else Err BadText

abbrev pub uuid_at : List ℕ → Result (ℕ × List ℕ) BodyFault
uuid_at bytes = short (number_at w128 bytes)

abbrev pub tagged_at : ℕ → List ℕ → Result (Value × List ℕ) BodyFault
tagged_at tag bytes =
    if tag == NULL_TAG then Ok (values.Null, bytes)
    else (if tag == BOOL_TAG then letter_at Short BadBool bool_of bytes >>= (λ b. Ok (values.Bool b.0, b.1))
    else (if tag == INT4_TAG then signed_at Short w32 bytes >>= (λ n. Ok (values.Int4 n.0, n.1))
    else (if tag == INT8_TAG then signed_at Short w64 bytes >>= (λ n. Ok (values.Int8 n.0, n.1))
    else (if tag == TEXT_TAG then text_at bytes >>= (λ t. Ok (values.Text t.0, t.1))
    else (if tag == INT2_TAG then signed_at Short w16 bytes >>= (λ n. Ok (values.Int2 n.0, n.1))
    else (if tag == UUID_TAG then uuid_at bytes >>= (λ n. Ok (values.Uuid n.0, n.1))
    else Err UnknownTag))))))

-- the value at the front of the bytes, and what stands after it
unfoldable pub value_at : List ℕ → Result (Value × List ℕ) BodyFault
value_at bytes = short (byte_at bytes) >>= λ tag. tagged_at tag.0 tag.1
