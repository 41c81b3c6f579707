-- How many chunks entries take. An entry costs its length and 4 bytes more, and lies in one chunk of 16,384 bytes.
use Rattle.std.specs.Prelude.{ℕ, ◌+◌, List, length, map, nat_le, if◌then◌else◌}
use Rattle.std.specs.List.{fold}

-- from the chunks that are begun and the bytes used of the last of them, the same with an entry of this length more
abbrev pub with_size : ℕ × ℕ → ℕ → ℕ × ℕ
with_size at size = if nat_le (at.1 + (size + 4)) 16384 then (at.0, at.1 + (size + 4)) else (at.0 + 1, size + 4)

-- the chunks that entries of these lengths take, in order, and the bytes used of the last; where there is none, nothing is left of it
abbrev pub filled : List ℕ → ℕ × ℕ
filled sizes = fold with_size (0, 16384) sizes

-- the number of chunks for entries of these lengths, in order
abbrev pub fill : List ℕ → ℕ
fill sizes = (filled sizes).0

-- the lengths of entries
abbrev pub sizes : List (List ℕ) → List ℕ
sizes entries = map (λ entry. length entry) entries
