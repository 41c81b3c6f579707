-- What holds of the values of every kind: how long they are in the log, and that one that is read was spelled so.
use Rattle.std.proofs.Common.{◌≡◌, ℕ, ◌^◌, ◌<◌, ◌≤◌, ◌+◌, arith, Bool, true, false, cond, eqb, List, [], ◌∷◌, ◌++◌, length, length-append, Option, Some, None, Ok, refl, sym, ◌∙◌}
use Rattle.std.specs.Option.{ok_or}
use Rattle.std.specs.Int.{w128, from_be_bytes}
use Rattle.std.specs.Prelude.{option_map}
use Rattle.uuid.specs.Text.{parsed, parsed_hyphenated}
use Rattle.std.specs.Str.{is_utf8}
use Rattle.std.proofs.lemmas.Bool.{eqb-true}
use Rattle.pqformat.specs.Fields.{byte_at, bytes_at, int32}
use Rattle.pqformat.specs.Steps.{◌>>=◌, letter_at}
use Rattle.pqformat.proofs.Codec.{Codec, with_range, tested, counted, Chooses, no_choice, choice, choice_codec}
use Rattle.pqformat.proofs.Numbers.{number_codec, length-int16, length-int32, length-int64, number32, bytes_codec, nothing_codec, letter_codec, signed16, signed32, signed64}
use Rattle.tables.specs.declared.rows.row.TheConstants.{MAX_ROW_LENGTH}
use Rattle.tables.specs.declared.kinds.TheConstants.{NULL_TAG, BOOL_TAG, INT2_TAG, INT4_TAG, INT8_TAG, TEXT_TAG, UUID_TAG}
use Rattle.tables.specs.declared.fault.BodyFault.TheVariants.{Short, UnknownTag, BadBool, BadText}
use Rattle.tables.specs.declared.kinds.Value.{Value}
use Rattle.tables.specs.declared.kinds.Value.TheVariants as values
use Rattle.tables.proofs.Wide.{wide128}
use Rattle.tables.specs.Kinds.{IsCodedValue, IsValue, bool_of, sized_at, spell_value, tagged_at, text_at, uuid_at, uuid_bytes, uuid_of_text, value_at}

pub length-uuid : (n : ℕ) → length (uuid_bytes n) ≡ 16
unfolding uuid_bytes
length-uuid n = refl

pub ruleset lengths = (length-int16, length-int32, length-int64, length-uuid)

pub length-text : (text : List ℕ) → length (spell_value (values.Text text)) ≡ 5 + length text
length-text text = omega (arith, length-append (int32 (length text)) text, length-int32 (length text))

-- a value has at least its tag
pub some_byte : (value : Value) → 1 ≤ length (spell_value value)
some_byte values.Null = omega arith
some_byte (values.Bool b) = omega arith
some_byte (values.Int2 n) = omega arith
some_byte (values.Int4 n) = omega arith
some_byte (values.Int8 n) = omega arith
some_byte (values.Text text) = omega arith
some_byte (values.Uuid n) = omega arith

-- a value that a short row holds can be read again
pub coded_value : (value : Value) → IsValue value → length (spell_value value) ≤ MAX_ROW_LENGTH → IsCodedValue value
coded_value values.Null fits short = tt
coded_value (values.Bool b) fits short = tt
coded_value (values.Int2 n) fits short = fits
coded_value (values.Int4 n) fits short = fits
coded_value (values.Int8 n) fits short = fits
coded_value (values.Text text) fits short = (omega (arith, short, length-text text), fits)
coded_value (values.Uuid n) fits short = fits

-- and one that can be read is one of Rust
pub value_is : (v : Value) → IsCodedValue v → IsValue v
value_is values.Null is = tt
value_is (values.Bool b) is = tt
value_is (values.Int2 n) is = is
value_is (values.Int4 n) is = is
value_is (values.Int8 n) is = is
value_is (values.Text text) is = is.1
value_is (values.Uuid n) is = is

pub sized_codec : Codec sized_at (λ text. int32 (length text) ++ text) (λ text. length text < 2 ^ 32)
sized_codec = with_range (λ text. length text < 2 ^ 32) (counted (number32 Short) length (λ n bytes. ok_or (bytes_at n bytes) Short) (λ text. text) (λ _. Unit {0})
    (λ n. with_range (λ text. (length text ≡ n) × Unit {0}) (bytes_codec Short n) (λ text is. (is, tt)) (λ text is. is.0)))
    (λ text fits. fits.0) (λ text fits. (fits, tt))

text_codec : Codec text_at (λ text. int32 (length text) ++ text) (λ text. (length text < 2 ^ 32) × (is_utf8 text ≡ true))
unfolding text_at
text_codec = tested sized_codec is_utf8 BadText

abbrev letter : Bool → ℕ
letter b = cond b 1 0

letter_of : (b : ℕ) (x : Bool) → bool_of b ≡ Some x → letter x ≡ b
letter_of b x is = by_zero (eqb b 0) (eqb b 1) (λ same. eqb-true b 0 same) (λ same. eqb-true b 1 same) x is
  where
    by_zero : (zero_is one_is : Bool) → (zero_is ≡ true → b ≡ 0) → (one_is ≡ true → b ≡ 1) → (x : Bool) →
        cond zero_is (Some false) (cond one_is (Some true) None) ≡ Some x → letter x ≡ b
    by_zero true one_is first second true is = absurd cc
    by_zero true one_is first second false is = sym (first refl)
    by_zero false true first second true is = sym (second refl)
    by_zero false true first second false is = absurd cc
    by_zero false false first second x is = absurd cc

letter_again : (x : Bool) → bool_of (letter x) ≡ Some x
letter_again true = refl
letter_again false = refl

bool_codec : Codec (letter_at Short BadBool bool_of) (λ b. letter b ∷ []) (λ _. Unit {0})
bool_codec = letter_codec Short BadBool bool_of letter letter_of letter_again

uuid_codec : Codec uuid_at uuid_bytes (λ n. n < 2 ^ 128)
unfolding uuid_bytes
uuid_codec = number_codec Short w128 (2 ^ 128) wide128

values_choose : Chooses tagged_at spell_value IsCodedValue
values_choose =
    choice NULL_TAG nothing_codec (λ _. values.Null) spell_value IsCodedValue (λ _. refl) (λ _ fits. fits)
    (choice BOOL_TAG bool_codec values.Bool spell_value IsCodedValue (λ _. refl) (λ _ fits. fits)
    (choice INT4_TAG (signed32 Short) values.Int4 spell_value IsCodedValue (λ _. refl) (λ _ fits. fits)
    (choice INT8_TAG (signed64 Short) values.Int8 spell_value IsCodedValue (λ _. refl) (λ _ fits. fits)
    (choice TEXT_TAG text_codec values.Text spell_value IsCodedValue (λ _. refl) (λ _ fits. fits)
    (choice INT2_TAG (signed16 Short) values.Int2 spell_value IsCodedValue (λ _. refl) (λ _ fits. fits)
    (choice UUID_TAG uuid_codec values.Uuid spell_value IsCodedValue (λ _. refl) (λ _ fits. fits)
    (no_choice UnknownTag spell_value IsCodedValue)))))))

value_again : (x : Value) (rest : List ℕ) → IsCodedValue x → (ok_or (byte_at (spell_value x ++ rest)) Short >>= λ tag. tagged_at tag.0 tag.1) ≡ Ok (x, rest)
value_again values.Null rest fits = refl
value_again (values.Bool b) rest fits = rw (bool_codec.again b rest fits) refl
value_again (values.Int2 n) rest fits = rw ((signed16 Short).again n rest fits) refl
value_again (values.Int4 n) rest fits = rw ((signed32 Short).again n rest fits) refl
value_again (values.Int8 n) rest fits = rw ((signed64 Short).again n rest fits) refl
value_again (values.Text text) rest fits = rw (text_codec.again text rest fits) refl
value_again (values.Uuid n) rest fits = rw (uuid_codec.again n rest fits) refl

pub value_codec : Codec value_at spell_value IsCodedValue
unfolding value_at
value_codec = choice_codec Short values_choose value_again

-- a text that spells no UUID in any form spells none in the plain one
pub none_spelled : (text : List ℕ) → length text ≡ 36 → ((bytes : List ℕ) → parsed text ≡ Some bytes → ⊥) → None ≡ uuid_of_text text
unfolding uuid_of_text
none_spelled text len never = by_read (parsed_hyphenated text) refl
  where
    whole : parsed text ≡ parsed_hyphenated text
    whole = rw len refl

    by_read : (o : Option (List ℕ)) → parsed_hyphenated text ≡ o → None ≡ option_map (λ bytes. from_be_bytes w128 bytes) o
    by_read None is = refl
    by_read (Some bytes) is = absurd (never bytes (whole ∙ is))
