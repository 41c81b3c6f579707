-- HMAC over SHA-256, whose blocks have 64 bytes (RFC 2104, 2).
use Rattle.std.specs.Prelude.{ℕ, List, ◌++◌, ◌-◌, length, map, replicate, bit_xor, nat_le, if◌then◌else◌}
use Rattle.sha2.specs.Sha256.{sha256}

abbrev pub filled_up : List ℕ → List ℕ
filled_up key = key ++ replicate (64 - length key) 0

-- "Applications that use keys longer than B bytes will first hash the key"
abbrev pub block_key : List ℕ → List ℕ
block_key key = if nat_le (length key) 64 then filled_up key else filled_up (sha256 key)

abbrev pub padded : ℕ → List ℕ → List ℕ
padded pad block = map (λ byte. bit_xor pad byte) block

-- "H(K XOR opad, H(K XOR ipad, text))"
unfoldable pub hmac : List ℕ → List ℕ → List ℕ
hmac key text = sha256 (padded 0x5c (block_key key) ++ sha256 (padded 0x36 (block_key key) ++ text))
