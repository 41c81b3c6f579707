-- DataRow (PostgreSQL 15, 55.7): the values of one row, each with its length before it; the length -1 is a null.
use Rattle.std.specs.Prelude.{ℕ, ◌^◌, ◌<◌, ◌==◌, nat_lt, List, ◌++◌, length, Result, Ok, Err, if◌then◌else◌}
use Rattle.std.specs.Int.{w32}
use Rattle.frames.specs.declared.backend.data_row.DataValue.{DataValue}
use Rattle.frames.specs.declared.backend.data_row.DataValue.TheVariants.{Null, Bytes}
use Rattle.pqformat.specs.Fields.{int32, bytes_at, number_at}
use Rattle.pqformat.specs.Steps.{◌>>=◌}
use Rattle.frames.specs.Body.{there}

-- -1 in two's complement
abbrev pub no_length : ℕ
no_length = 4294967295

abbrev pub data_value : DataValue → List ℕ
data_value Null = int32 no_length
data_value (Bytes bytes) = int32 (length bytes) ++ bytes

abbrev pub FitsValue : DataValue → Type 0
FitsValue Null = Unit {0}
FitsValue (Bytes bytes) = length bytes < 2 ^ 31

abbrev pub sized_value : ℕ → List ℕ → Result (DataValue × List ℕ) (Unit {0})
sized_value n bytes =
    if n == no_length then Ok (Null, bytes)
    else if nat_lt n (2 ^ 31) then (there (bytes_at n bytes) >>= λ b. Ok (Bytes b.0, b.1))
    else Err tt

unfoldable pub value_at : List ℕ → Result (DataValue × List ℕ) (Unit {0})
value_at bytes = there (number_at w32 bytes) >>= λ n. sized_value n.0 n.1
