-- Where two digests differ.
use Rattle.std.specs.Prelude.{ℕ, List, fold, bit_or, bit_xor}
use Rattle.std.specs.List.{zip}

-- the bits in which two bytes differ, beside those of bytes before them
abbrev pub gathered : ℕ → (ℕ × ℕ) → ℕ
gathered bits pair = bit_or bits (bit_xor pair.0 pair.1)

abbrev pub differing_bits : List ℕ → List ℕ → ℕ
differing_bits left right = fold gathered 0 (zip left right)
