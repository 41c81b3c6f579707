-- The fields of which every message is made (PostgreSQL 15, 55.6 Message Data Types): bytes, numbers of two, four and
-- eight bytes with the highest first, and texts that end in a zero byte. Each field is spelled by a function of its
-- value, and read from the front of a list: its value with what follows it, or None where it isn't there.
use Rattle.std.specs.Prelude.{◌≡◌, ℕ, ◌+◌, ◌==◌, List, [], ◌∷◌, ◌++◌, length, take, drop, position, Option, Some, None, option_map, nat_lt, Bool, if◌then◌else◌}
use Rattle.std.specs.List.{list_any}
use Rattle.std.specs.Int.{Width, w16, w32, w64, byte_len, to_be_bytes, from_be_bytes}

-- Int16, Int32 and Int64
unfoldable pub int16 : ℕ → List ℕ
int16 n = to_be_bytes w16 n

unfoldable pub int32 : ℕ → List ℕ
int32 n = to_be_bytes w32 n

unfoldable pub int64 : ℕ → List ℕ
int64 n = to_be_bytes w64 n

-- a text that can't be a String, since a zero byte ends it
abbrev pub has_zero : List ℕ → Bool
has_zero text = list_any (λ b. b == 0) text

-- String
abbrev pub string : List ℕ → List ℕ
string text = text ++ 0 ∷ []

-- Byte1
abbrev pub byte_at : List ℕ → Option (ℕ × List ℕ)
byte_at [] = None
byte_at (b ∷ bytes) = Some (b, bytes)

-- the next n bytes
abbrev pub bytes_at : ℕ → List ℕ → Option (List ℕ × List ℕ)
bytes_at n bytes = if nat_lt (length bytes) n then None else Some (take n bytes, drop n bytes)

abbrev pub number_at : Width → List ℕ → Option (ℕ × List ℕ)
number_at w bytes = if nat_lt (length bytes) (byte_len w) then None else Some (from_be_bytes w (take (byte_len w) bytes), drop (byte_len w) bytes)

-- the bytes before the first zero byte
abbrev pub string_at : List ℕ → Option (List ℕ × List ℕ)
string_at bytes = option_map (λ i. (take i bytes, drop (i + 1) bytes)) (position (λ b. b == 0) bytes)

-- A call of a cursor: it answered what is read and moved past it, or, exactly where it isn't there, moved nothing.
abbrev pub Moves : {X Y : Type 0} → (X → Y) → Option X → List ℕ → List ℕ → Option (Y × List ℕ) → Type 0
Moves view None old new read = (read ≡ None) × (new ≡ old)
Moves view (Some x) old new read = read ≡ Some (view x, new)
