-- Which chunks belong to which strand. A strand goes by its first chunk, and a number that is not below `chunks` stands for none.
use Rattle.std.specs.Prelude.{◌≡◌, ℕ, zero, suc, ◌+◌, ◌<◌, List, [], ◌∷◌, length, get_or, nat_lt, if◌then◌else◌, sum_by, Contains}

pub record Books : Type 0 where
  pub chunks : ℕ
  -- of a chunk, the strand that has it
  pub owner : List ℕ
  -- of a chunk, the one after it in its strand
  pub next : List ℕ
  -- of a chunk, how many stand before it in its strand
  pub rank : List ℕ
  -- of a strand, its last chunk
  pub last : List ℕ
  pub free : List ℕ

abbrev pub at : List ℕ → ℕ → ℕ
at xs i = get_or xs i 0

-- a strand has the chunk, and so many of its chunks stand before it
abbrev pub IsOwned : Books → ℕ → ℕ → ℕ → Type 0
IsOwned b strand rank chunk = (chunk < b.chunks) × (at b.owner chunk ≡ strand) × (at b.rank chunk ≡ rank)

-- from the chunk on, which has this rank, the strand has `more` chunks after it, the final one of them `last`
abbrev pub IsRun : Books → ℕ → ℕ → ℕ → ℕ → ℕ → Type 0
IsRun b strand last rank zero chunk = IsOwned b strand rank chunk × (chunk ≡ last)
IsRun b strand last rank (suc more) chunk = IsOwned b strand rank chunk × IsRun b strand last (rank + 1) more (at b.next chunk)

-- the chunk, and `more` after it
abbrev pub run : List ℕ → ℕ → ℕ → List ℕ
run next zero chunk = chunk ∷ []
run next (suc more) chunk = chunk ∷ run next more (at next chunk)

-- the chunks of a strand whose last chunk is this one
abbrev pub count_to : Books → ℕ → ℕ
count_to b last = if nat_lt last b.chunks then at b.rank last + 1 else 0

-- the chunks of a strand, in order
abbrev pub chunks_of : Books → ℕ → List ℕ
chunks_of b strand = run b.next (at b.rank (at b.last strand)) strand

-- the strand is there, and the chunk is one of its chunks
abbrev pub IsHeld : Books → ℕ → ℕ → Type 0
IsHeld b strand chunk = (at b.last strand < b.chunks) × Contains (chunks_of b strand) chunk

pub record IsBooks (b : Books) : Type 0 where
  pub owners : length b.owner ≡ b.chunks
  pub nexts : length b.next ≡ b.chunks
  pub ranks : length b.rank ≡ b.chunks
  pub lasts : length b.last ≡ b.chunks
  -- a free chunk belongs to no strand, and is free once
  pub free : (i : ℕ) → i < length b.free → (at b.free i < b.chunks) × (at b.owner (at b.free i) ≡ b.chunks)
  pub apart : (i j : ℕ) → i < length b.free → j < length b.free → at b.free i ≡ at b.free j → i ≡ j
  pub strands : (h : ℕ) → h < b.chunks → at b.last h < b.chunks → IsRun b h (at b.last h) 0 (at b.rank (at b.last h)) h
  -- a chunk that belongs to a strand is one of its chunks
  pub held : (x : ℕ) → x < b.chunks → at b.owner x < b.chunks → IsHeld b (at b.owner x) x
  -- each chunk is free or a strand's
  pub all : length b.free + sum_by (count_to b) b.last ≡ b.chunks
