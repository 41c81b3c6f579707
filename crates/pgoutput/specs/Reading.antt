-- Reading a message field by field, up to its leftmost fault: Short where a field isn't there whole, BadMark and BadText
-- where it is there and is none of its kind.
use Rattle.std.specs.Prelude.{◌≡◌, ℕ, ℤ, ◌^◌, ◌==◌, Bool, true, false, List, Option, Some, None, Result, Ok, Err, if◌then◌else◌}
use Rattle.std.specs.Option.{ok_or}
use Rattle.std.specs.Str.{is_utf8}
use Rattle.std.specs.Int.{w16, w32, w64}
use Rattle.pqformat.specs.Fields.{string_at, bytes_at}
use Rattle.pqformat.specs.Steps.{◌>>=◌, mark_at, letter_at, count_at, signed_at}
use Rattle.pgoutput.specs.declared.fault.PgoutputError.{PgoutputError}
use Rattle.pgoutput.specs.declared.fault.PgoutputError.TheVariants.{Short, BadMark, BadText, Memory}

abbrev pub short : {A : Type 0} → Option A → Result A PgoutputError
short found = ok_or found Short

-- this letter and no other
abbrev pub expected_letter : ℕ → List ℕ → Result (Unit {0} × List ℕ) PgoutputError
expected_letter letter bytes = mark_at Short BadMark letter bytes

-- a letter that stands for a value
abbrev pub one_of : {X : Type 0} → (ℕ → Option X) → List ℕ → Result (X × List ℕ) PgoutputError
one_of value_of bytes = letter_at Short BadMark value_of bytes

-- a byte that says whether
abbrev pub flag_of : ℕ → Option Bool
flag_of b = if b == 1 then Some true else if b == 0 then Some false else None

-- counts and lengths, with no top bit
abbrev pub count16_at : List ℕ → Result (ℕ × List ℕ) PgoutputError
count16_at bytes = count_at Short BadMark w16 (2 ^ 15) bytes

abbrev pub count32_at : List ℕ → Result (ℕ × List ℕ) PgoutputError
count32_at bytes = count_at Short BadMark w32 (2 ^ 31) bytes

abbrev pub signed32_at : List ℕ → Result (ℤ × List ℕ) PgoutputError
signed32_at bytes = signed_at Short w32 bytes

abbrev pub signed64_at : List ℕ → Result (ℤ × List ℕ) PgoutputError
signed64_at bytes = signed_at Short w64 bytes

abbrev pub as_text : List ℕ × List ℕ → Result (List ℕ × List ℕ) PgoutputError
as_text found = if is_utf8 found.0 then Ok found else Err BadText

-- a name, and the zero byte that ends it
unfoldable pub name_at : List ℕ → Result (List ℕ × List ℕ) PgoutputError
name_at bytes = short (string_at bytes) >>= λ found. as_text found

-- a length, and that many bytes of text
unfoldable pub text_at : List ℕ → Result (List ℕ × List ℕ) PgoutputError
text_at bytes = count32_at bytes >>= λ n. short (bytes_at n.0 n.1) >>= λ found. as_text found

-- ---- A call that answers what reading gives, unless memory ran out.

abbrev pub Fails : {Y : Type 0} → PgoutputError → Result Y PgoutputError → Type 0
Fails Memory read = Unit {0}
Fails e read = read ≡ Err e

abbrev pub Answers : {X : Type 0} → Result X PgoutputError → Result X PgoutputError → Type 0
Answers (Ok x) read = read ≡ Ok x
Answers (Err e) read = Fails e read

-- the same of a call that goes on from what it read to the rest
abbrev pub Gives : {X : Type 0} → Result X PgoutputError → List ℕ → Result (X × List ℕ) PgoutputError → Type 0
Gives (Ok x) rest read = read ≡ Ok (x, rest)
Gives (Err e) rest read = Fails e read
