-- What the definitions say of a worked arena of three chunks.
use Rattle.std.proofs.Common.{◌≡◌, [], ◌∷◌, refl}
use Rattle.chgarena.specs.Fill.{filled, fill}

-- 16,380 bytes and 1 byte take two chunks, and 5 bytes are used of the second
first : filled (16380 ∷ 1 ∷ []) ≡ (2, 5)
first = refl

second : filled (1 ∷ []) ≡ (1, 5)
second = refl

-- 16,376 bytes more need a chunk, and 16,375 do not
over : fill (1 ∷ 16376 ∷ []) ≡ 2
over = refl

within : filled (1 ∷ 16375 ∷ []) ≡ (1, 16384)
within = refl

-- no entries take no chunk, and the first one always takes one
none : fill [] ≡ 0
none = refl

empty_entry : fill (0 ∷ []) ≡ 1
empty_entry = refl
