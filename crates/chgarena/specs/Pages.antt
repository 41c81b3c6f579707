-- The entries of each chunk, as they lie in its bytes: one after another from its front on, and from its end down a directory, which has a
-- line of four bytes for each entry.
use Rattle.std.specs.Prelude.{◌≡◌, ℕ, ◌+◌, ◌-◌, ◌*◌, ◌<◌, ◌≤◌, ◌^◌, Option, Some, List, [], ◌++◌, drop, get_or, length, map, sum_by, take, unwrap_or}
use Rattle.std.specs.Int.{w16, from_be_bytes, to_be_bytes}
use Rattle.std.specs.List.{range_with_len}
use Rattle.chgarena.specs.Places.{with_bytes}

-- how many bytes of a chunk entries take
abbrev pub bytes_taken : List (List ℕ) → ℕ
bytes_taken entries = sum_by (λ entry. length entry + 4) entries

-- where the k-th entry begins
abbrev pub begins : List (List ℕ) → ℕ → ℕ
begins entries k = sum_by (λ entry. length entry) (take k entries)

-- where the directory has the line of the k-th entry
abbrev pub line_place : ℕ → ℕ
line_place k = 16384 - (k + 1) * 4

-- the line of an entry: where it begins, and how long it is, in two bytes each
abbrev pub line_of : ℕ → ℕ → List ℕ
line_of from size = to_be_bytes w16 from ++ to_be_bytes w16 size

abbrev pub known : List (Option ℕ) → List ℕ
known places = map (λ place. unwrap_or place 0) places

-- the entry that has this line
abbrev pub entry_of : List (Option ℕ) → List ℕ → List ℕ
entry_of places line = known (take (from_be_bytes w16 (drop 2 line)) (drop (from_be_bytes w16 (take 2 line)) places))

abbrev pub entry_in : List (Option ℕ) → ℕ → List ℕ
entry_in places k = entry_of places (known (take 4 (drop (line_place k) places)))

-- a chunk of so many entries whose places are these
abbrev pub page : ℕ → List (Option ℕ) → List (List ℕ)
page count places = map (entry_in places) (range_with_len 0 count)

-- the places of a chunk
abbrev pub places_of : List (Option ℕ) → ℕ → List (Option ℕ)
places_of places chunk = take 16384 (drop (chunk * 16384) places)

abbrev pub pages : List (Option ℕ) → List ℕ → List (List (List ℕ))
pages places counts = map (λ chunk. page (get_or counts chunk 0) (places_of places chunk)) (range_with_len 0 (length counts))

-- an entry lies there from one place on, and its line as the k-th
pub record Lies (places : List (Option ℕ)) (k from : ℕ) (entry : List ℕ) : Type 0 where
  pub line : take 4 (drop (line_place k) places) ≡ map (λ byte. Some byte) (line_of from (length entry))
  pub bytes : take (length entry) (drop from places) ≡ map (λ byte. Some byte) entry

-- the places of a chunk hold its entries
pub record IsPage (used count : ℕ) (places : List (Option ℕ)) : Type 0 where
  pub fits : used ≤ 16384
  pub long : bytes_taken (page count places) ≡ used
  pub lies : (k : ℕ) → k < count → Lies places k (begins (page count places) k) (get_or (page count places) k [])

pub record IsPages (places : List (Option ℕ)) (used counts : List ℕ) : Type 0 where
  pub counted : length counts ≡ length used
  pub room : length places ≡ length used * 16384
  pub few : length used < 2 ^ 32
  pub each : (c : ℕ) → c < length used → IsPage (get_or used c 0) (get_or counts c 0) (places_of places c)

-- an entry written from a place of a chunk on, and its line as the k-th
abbrev pub with_entry : List (Option ℕ) → ℕ → ℕ → ℕ → List ℕ → List (Option ℕ)
with_entry places chunk k from entry = with_bytes (with_bytes places (chunk * 16384 + from) entry) (chunk * 16384 + line_place k) (line_of from (length entry))
