-- The short frames of a server (PostgreSQL 15, 55.7): AuthenticationOk, BackendKeyData, ReadyForQuery, CopyBothResponse.
use Rattle.std.specs.Prelude.{ℕ, ◌^◌, ◌==◌, List, [], ◌∷◌, ◌++◌, length, Option, Some, None, Result, Ok, Err, if◌then◌else◌}
use Rattle.std.specs.List.{flat_map}
use Rattle.std.specs.Int.{w16, w32}
use Rattle.frames.specs.declared.backend.ready_for_query.TransactionStatus.{TransactionStatus}
use Rattle.frames.specs.declared.backend.ready_for_query.TransactionStatus.TheVariants.{Idle, InTransaction, Failed}
use Rattle.frames.specs.declared.backend.copy_both_response.CopyBothResponse.{CopyBothResponse}
use Rattle.pqformat.specs.Fields.{int16, int32, byte_at, number_at}
use Rattle.pqformat.specs.Steps.{◌>>=◌, letter_at, count_at, repeat_at}
use Rattle.frames.specs.Body.{there}

-- the number 0: nothing is asked of the client
abbrev pub authentication_at : List ℕ → Result (ℕ × List ℕ) (Unit {0})
authentication_at bytes = there (number_at w32 bytes) >>= λ n. if n.0 == 0 then Ok n else Err tt

-- the process and the key of a backend
abbrev pub backend_key : ℕ × ℕ → List ℕ
backend_key m = int32 m.0 ++ int32 m.1

unfoldable pub backend_key_at : List ℕ → Result ((ℕ × ℕ) × List ℕ) (Unit {0})
backend_key_at bytes = do
  process ← there (number_at w32 bytes)
  key ← there (number_at w32 process.1)
  Ok ((process.0, key.0), key.1)

-- whether a transaction block is open: I, T and E
abbrev pub status_letter : TransactionStatus → ℕ
status_letter Idle = 73
status_letter InTransaction = 84
status_letter Failed = 69

abbrev pub status_of : ℕ → Option TransactionStatus
status_of b = if b == 73 then Some Idle else if b == 84 then Some InTransaction else if b == 69 then Some Failed else None

abbrev pub status_at : List ℕ → Result (TransactionStatus × List ℕ) (Unit {0})
status_at bytes = letter_at tt tt status_of bytes

-- a count whose top bit isn't set, and as many items
abbrev pub counted_items : {A : Type 0} → (A → List ℕ) → List A → List ℕ
counted_items text xs = int16 (length xs) ++ flat_map text xs

abbrev pub counted_at : {A : Type 0} → (List ℕ → Result (A × List ℕ) (Unit {0})) → List ℕ → Result (List A × List ℕ) (Unit {0})
counted_at f bytes = count_at tt tt w16 (2 ^ 15) bytes >>= λ n. repeat_at f n.0 n.1

abbrev pub format_at : List ℕ → Result (ℕ × List ℕ) (Unit {0})
format_at bytes = there (number_at w16 bytes)

-- the format of the stream, and that of each column
abbrev pub copy_both : CopyBothResponse → List ℕ
copy_both m = m.format ∷ [] ++ counted_items int16 m.formats

unfoldable pub copy_both_at : List ℕ → Result (CopyBothResponse × List ℕ) (Unit {0})
copy_both_at bytes = do
  format ← there (byte_at bytes)
  formats ← counted_at format_at format.1
  Ok (record { format = format.0; formats = formats.0 }, formats.1)
