-- What holds of the values and types of every kind: a value's cell fits a message, and is hardly longer than the value in the log.
use Rattle.std.proofs.Common.{◌≡◌, ℕ, ℤ, zero, suc, ◌+◌, ◌*◌, ◌≤◌, ◌<◌, ◌^◌, Bool, true, false, cond, ltb, List, [], ◌∷◌, ◌++◌, length, inl, refl, arith}
use Rattle.std.specs.Prelude.{FitsSigned, ◌&&◌, codes}
use Rattle.std.specs.List.{list_all}
use Rattle.std.specs.Int.{w16, w32, w64, cast_unsigned}
use Rattle.std.specs.Str.{IsAscii, is_utf8}
use Rattle.std.specs.Fmt.{signed_decimal}
use Rattle.std.proofs.lemmas.Bool.{ltb-true}
use Rattle.std.proofs.lemmas.Fmt.{IsAscii-signed, length_signed_le}
use Rattle.std.proofs.lemmas.List.{length-append}
use Rattle.std.proofs.lemmas.Str.{IsUtf8-from_ascii, is_utf8-from_IsUtf8}
use Rattle.pqformat.specs.Fields.{int32}
use Rattle.pqformat.proofs.Numbers.{length-int16, length-int32, length-int64}
use Rattle.pgoutput.specs.Tuple.{FitsCell, FitsSentCell, cell}
use Rattle.tables.specs.declared.rows.row.TheConstants.{MAX_ROW_LENGTH}
use Rattle.tables.specs.declared.kinds.Kind.{Kind}
use Rattle.tables.specs.declared.kinds.Kind.TheVariants as kinds
use Rattle.tables.specs.declared.kinds.Value.{Value}
use Rattle.tables.specs.declared.kinds.Value.TheVariants as values
use Rattle.tables.specs.Kinds.{IsValue, spell_value, uuid_bytes}
use Rattle.tables.proofs.Values.{length-uuid}
use Rattle.data_types.proofs.Told.{modifier_in_range, oid_fits}
use Rattle.uuid.specs.Text.{lower}
use Rattle.uuid.proofs.TextLemmas.{by_index_length, hyphenated_ascii}
use Rattle.row_messages.specs.Kinds.{cell_of, type_modifier, type_oid, uuid_text}

pub type_fits : (k : Kind) → type_oid k < 2 ^ 32
type_fits kinds.Bool = omega arith
type_fits kinds.Int2 = omega arith
type_fits kinds.Int4 = omega arith
type_fits kinds.Int8 = omega arith
type_fits kinds.Text = omega arith
type_fits kinds.Uuid = omega arith
type_fits (kinds.AsText data_type) = oid_fits data_type

pub modifier_fits : (k : Kind) → FitsSigned w32 (type_modifier k)
modifier_fits kinds.Bool = record { sfits = omega arith }
modifier_fits kinds.Int2 = record { sfits = omega arith }
modifier_fits kinds.Int4 = record { sfits = omega arith }
modifier_fits kinds.Int8 = record { sfits = omega arith }
modifier_fits kinds.Text = record { sfits = omega arith }
modifier_fits kinds.Uuid = record { sfits = omega arith }
modifier_fits (kinds.AsText data_type) = modifier_in_range data_type

both_true : (a b : Bool) → (a && b) ≡ true → (a ≡ true) × (b ≡ true)
both_true true b e = (refl, e)
both_true false b e = absurd cc

pub length-uuid_text : (n : ℕ) → length (uuid_text n) ≡ 36
unfolding uuid_text
length-uuid_text n = by_index_length 36 _

uuid_text_fits : (n : ℕ) → is_utf8 (uuid_text n) ≡ true
unfolding uuid_text
uuid_text_fits n = is_utf8-from_IsUtf8 (uuid_text n) (IsUtf8-from_ascii (uuid_text n) (hyphenated_ascii lower (uuid_bytes n) (inl refl)))

-- a cell is at most 24 bytes longer than the value in the log
pub cell_near : (v : Value) → IsValue v → length (cell (cell_of v)) ≤ 24 + length (spell_value v)
cell_near values.Null in_range = omega arith
cell_near (values.Bool true) in_range = omega (arith, length-append (int32 1) (codes "t"), length-int32 1)
cell_near (values.Bool false) in_range = omega (arith, length-append (int32 1) (codes "f"), length-int32 1)
cell_near (values.Int2 z) in_range =
    let six : length (signed_decimal z) ≤ 6 = length_signed_le 5 z (omega (arith, in_range.sfits)) (omega (arith, in_range.sfits)) in
    omega (arith, six, length-append (int32 (length (signed_decimal z))) (signed_decimal z), length-int32 (length (signed_decimal z)), length-int16 (cast_unsigned w16 z))
cell_near (values.Int4 z) in_range =
    let eleven : length (signed_decimal z) ≤ 11 = length_signed_le 10 z (omega (arith, in_range.sfits)) (omega (arith, in_range.sfits)) in
    omega (arith, eleven, length-append (int32 (length (signed_decimal z))) (signed_decimal z), length-int32 (length (signed_decimal z)), length-int32 (cast_unsigned w32 z))
cell_near (values.Int8 z) in_range =
    let twenty : length (signed_decimal z) ≤ 20 = length_signed_le 19 z (omega (arith, in_range.sfits)) in_range.sfits in
    omega (arith, twenty, length-append (int32 (length (signed_decimal z))) (signed_decimal z), length-int32 (length (signed_decimal z)), length-int64 (cast_unsigned w64 z))
cell_near (values.Text text) in_range = omega (arith, length-append (int32 (length text)) text, length-int32 (length text))
cell_near (values.Uuid n) in_range = omega (arith, length-uuid n, length-uuid_text n, length-append (int32 (length (uuid_text n))) (uuid_text n), length-int32 (length (uuid_text n)))

decimal_text : (z : ℤ) → FitsSigned w64 z → (length (signed_decimal z) ≤ 20) × (is_utf8 (signed_decimal z) ≡ true)
decimal_text z fits =
    (length_signed_le 19 z (omega (arith, fits.sfits)) fits.sfits, is_utf8-from_IsUtf8 (signed_decimal z) (IsUtf8-from_ascii (signed_decimal z) (IsAscii-signed z fits.sfits)))

-- a cell fits, and is at most four times as long as the value in the log
pub record CellFits (v : Value) : Type 0 where
  pub fits : FitsCell (cell_of v)
  pub short : length (cell (cell_of v)) ≤ 4 * length (spell_value v)

ascii_at : (text : List ℕ) → list_all (λ b. ltb b 128) text ≡ true → IsAscii text
ascii_at [] test i = omega arith
ascii_at (b ∷ text) test zero = ltb-true b 128 (both_true (ltb b 128) (list_all (λ b. ltb b 128) text) test).0
ascii_at (b ∷ text) test (suc i) = ascii_at text (both_true (ltb b 128) (list_all (λ b. ltb b 128) text) test).1 i

ascii_fits : (text : List ℕ) → list_all (λ b. ltb b 128) text ≡ true → is_utf8 text ≡ true
ascii_fits text test = is_utf8-from_IsUtf8 text (IsUtf8-from_ascii text (ascii_at text test))

letter_fits : (b : Bool) → is_utf8 (cond b (codes "t") (codes "f")) ≡ true
letter_fits true = ascii_fits (codes "t") refl
letter_fits false = ascii_fits (codes "f") refl

pub cell_fits : (v : Value) → IsValue v → length (spell_value v) ≤ MAX_ROW_LENGTH → CellFits v
cell_fits values.Null in_range short = record { fits = tt; short = omega arith }
cell_fits (values.Bool true) in_range short = record { fits = (omega arith, letter_fits true); short = omega (arith, length-append (int32 1) (codes "t"), length-int32 1) }
cell_fits (values.Bool false) in_range short = record { fits = (omega arith, letter_fits false); short = omega (arith, length-append (int32 1) (codes "f"), length-int32 1) }
cell_fits (values.Int2 z) in_range short =
    let wide : FitsSigned w64 z = record { sfits = omega (arith, in_range.sfits) } in
    let d = decimal_text z wide in
    let six : length (signed_decimal z) ≤ 6 = length_signed_le 5 z (omega (arith, in_range.sfits)) (omega (arith, in_range.sfits)) in
    record { fits = (omega (arith, d.0), d.1); short = omega (arith, six, length-append (int32 (length (signed_decimal z))) (signed_decimal z), length-int32 (length (signed_decimal z)), length-int16 (cast_unsigned w16 z)) }
cell_fits (values.Int4 z) in_range short =
    let wide : FitsSigned w64 z = record { sfits = omega (arith, in_range.sfits) } in
    let d = decimal_text z wide in
    let eleven : length (signed_decimal z) ≤ 11 = length_signed_le 10 z (omega (arith, in_range.sfits)) (omega (arith, in_range.sfits)) in
    record { fits = (omega (arith, d.0), d.1); short = omega (arith, eleven, length-append (int32 (length (signed_decimal z))) (signed_decimal z), length-int32 (length (signed_decimal z)), length-int32 (cast_unsigned w32 z)) }
cell_fits (values.Int8 z) in_range short =
    let d = decimal_text z in_range in
    record { fits = (omega (arith, d.0), d.1); short = omega (arith, d.0, length-append (int32 (length (signed_decimal z))) (signed_decimal z), length-int32 (length (signed_decimal z)), length-int64 (cast_unsigned w64 z)) }
cell_fits (values.Text text) in_range short =
    let len : length (int32 (length text) ++ text) ≡ 4 + length text = omega (arith, length-append (int32 (length text)) text, length-int32 (length text)) in
    record { fits = (omega (arith, len, short), in_range); short = omega (arith, len) }
cell_fits (values.Uuid n) in_range short =
    record { fits = (omega (arith, length-uuid_text n), uuid_text_fits n); short = omega (arith, length-uuid n, length-uuid_text n, length-append (int32 (length (uuid_text n))) (uuid_text n), length-int32 (length (uuid_text n))) }

pub sent_cell : (v : Value) → FitsCell (cell_of v) → FitsSentCell (cell_of v)
sent_cell values.Null fits = tt
sent_cell (values.Bool b) fits = fits
sent_cell (values.Int2 z) fits = fits
sent_cell (values.Int4 z) fits = fits
sent_cell (values.Int8 z) fits = fits
sent_cell (values.Text text) fits = fits
sent_cell (values.Uuid n) fits = fits
