-- Message (PostgreSQL 15, 55.9): M, its flags (1: transactional), the position of its record, its prefix, and its content after the
-- length.
use Rattle.std.specs.Prelude.{ℕ, ◌<◌, ◌^◌, ◌==◌, Bool, true, false, List, [], ◌∷◌, ◌++◌, length, Option, Some, None, Result, Ok, if◌then◌else◌}
use Rattle.std.specs.Int.{w64}
use Rattle.pqformat.specs.Fields.{int32, int64, string, bytes_at, number_at}
use Rattle.pqformat.specs.Steps.{◌>>=◌}
use Rattle.pgoutput.specs.Reading.{short, one_of, count32_at, name_at}
use Rattle.pgoutput.specs.Relation.{FitsName}
use Rattle.pgoutput.specs.declared.fault.PgoutputError.{PgoutputError}
use Rattle.pgoutput.specs.declared.messages.message.Message.{Message}
use Rattle.pgoutput.specs.declared.messages.message.TheConstants.{TRANSACTIONAL, NOT_TRANSACTIONAL}

abbrev pub message_flags : Bool → ℕ
message_flags true = TRANSACTIONAL
message_flags false = NOT_TRANSACTIONAL

-- bytes after their length
abbrev pub content : List ℕ → List ℕ
content bytes = int32 (length bytes) ++ bytes

abbrev pub message : Message → List ℕ
message m = (message_flags m.is_transactional ∷ []) ++ (int64 m.position ++ (string m.prefix ++ content m.content))

abbrev pub FitsContent : List ℕ → Type 0
FitsContent bytes = length bytes < 2 ^ 31

abbrev pub FitsMessage : Message → Type 0
FitsMessage m = (m.position < 2 ^ 64) × (FitsName m.prefix × FitsContent m.content)

-- what a writer asks: the length fits its field
abbrev pub HasShortContent : Message → Type 0
HasShortContent m = FitsContent m.content

abbrev pub is_transactional_of : ℕ → Option Bool
is_transactional_of b = if b == TRANSACTIONAL then Some true else if b == NOT_TRANSACTIONAL then Some false else None

unfoldable pub content_at : List ℕ → Result (List ℕ × List ℕ) PgoutputError
content_at bytes = count32_at bytes >>= λ n. short (bytes_at n.0 n.1)

unfoldable pub message_at : List ℕ → Result (Message × List ℕ) PgoutputError
message_at bytes = do
  is_transactional ← one_of is_transactional_of bytes
  position ← short (number_at w64 is_transactional.1)
  prefix ← name_at position.1
  content ← content_at prefix.1
  Ok (record { is_transactional = is_transactional.0; position = position.0; prefix = prefix.0; content = content.0 }, content.1)
