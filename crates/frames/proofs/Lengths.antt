-- How long parts of bodies are.
use Rattle.std.proofs.Common.{◌≡◌, ℕ, ◌+◌, List, [], ◌∷◌, ◌++◌, length, arith}
use Rattle.std.specs.Int.{w16, w32, cast_unsigned}
use Rattle.std.proofs.lemmas.List.{length-append}
use Rattle.frames.specs.declared.backend.row_description.ColumnDescription.{ColumnDescription}
use Rattle.frames.specs.declared.backend.data_row.DataValue.{DataValue}
use Rattle.frames.specs.declared.backend.data_row.DataValue.TheVariants.{Null, Bytes}
use Rattle.pqformat.specs.Fields.{int16, int32, string}
use Rattle.frames.specs.RowDescription.{column, column_type}
use Rattle.frames.specs.DataRow.{data_value, no_length}
use Rattle.pqformat.proofs.Numbers.{length-int16, length-int32}

five : (a b c d e : List ℕ) → length (a ++ (b ++ (c ++ (d ++ e)))) ≡ length a + length b + length c + length d + length e
five a b c d e = omega (arith, length-append a (b ++ (c ++ (d ++ e))), length-append b (c ++ (d ++ e)), length-append c (d ++ e), length-append d e)

three : (a b c : List ℕ) → length (a ++ (b ++ c)) ≡ length a + length b + length c
three a b c = omega (arith, length-append a (b ++ c), length-append b c)

pub length_column : (c : ColumnDescription) → length (column c) ≡ length c.name + 19
length_column c =
    let t = c.data_type in
    omega (
      arith,
      five (string c.name) (int32 c.table) (int16 (cast_unsigned w16 c.attribute)) (column_type t) (int16 c.format),
      three (int32 t.oid) (int16 (cast_unsigned w16 t.size)) (int32 (cast_unsigned w32 t.modifier)),
      length-append c.name (0 ∷ []),
      length-int32 c.table,
      length-int16 (cast_unsigned w16 c.attribute),
      length-int16 c.format,
      length-int32 t.oid,
      length-int16 (cast_unsigned w16 t.size),
      length-int32 (cast_unsigned w32 t.modifier),
    )

abbrev pub value_length : DataValue → ℕ
value_length Null = 4
value_length (Bytes bytes) = 4 + length bytes

pub length_value : (v : DataValue) → length (data_value v) ≡ value_length v
length_value Null = length-int32 no_length
length_value (Bytes bytes) = omega (arith, length-append (int32 (length bytes)) bytes, length-int32 (length bytes))

pub length_zero : length (int32 0) ≡ 4
length_zero = length-int32 0

pub length_key : (process key : ℕ) → length (int32 process ++ int32 key) ≡ 8
length_key process key = omega (arith, length-append (int32 process) (int32 key), length-int32 process, length-int32 key)

pub length_counted : (n : ℕ) (items : List ℕ) → length (int16 n ++ items) ≡ 2 + length items
length_counted n items = omega (arith, length-append (int16 n) items, length-int16 n)

pub ruleset body_lengths = (length_zero, length_key, length_counted, length-append)
