-- Bytes as text in base64 (RFC 4648, 4), with its padding and without bits left over.
use Rattle.std.specs.Prelude.{ℕ, ◌==◌, List, length, Option, Some, None, if◌then◌else◌}
use Rattle.std.specs.Option.{option_and_then}
use Rattle.base64.specs.Engines.{standard}
use Rattle.base64.specs.GeneralPurpose.{encode_of, decoded_of}

unfoldable pub base64 : List ℕ → List ℕ
base64 bytes = encode_of standard bytes

-- the bytes that a text spells, if they are so many
unfoldable pub spelled : ℕ → List ℕ → Option (List ℕ)
spelled count text = option_and_then (λ bytes. if length bytes == count then Some bytes else None) (decoded_of standard text)
