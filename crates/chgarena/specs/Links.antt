-- What links say, as books of plain lists, and how each call changes them.
use Rattle.std.specs.Prelude.{◌≡◌, ℕ, ◌+◌, ◌-◌, ◌<◌, ◌≤◌, List, length, set, take, vec_capacity}
use Rattle.chgarena.specs.Books.{Books, IsBooks, at}
use Rattle.chgarena.specs.declared.links.Links.{Links}

abbrev pub books : Links → Books
books l = record { chunks = l.chunks; owner = l.owner.items; next = l.next.items; rank = l.rank.items; last = l.last.items; free = l.free.items }

-- they are in order, and have room for all chunks to be free
pub record IsLinks (l : Links) : Type 0 where
  pub books : IsBooks (books l)
  pub room : l.chunks ≤ vec_capacity l.free

-- the chunk is the one that is taken when one is taken
abbrev pub IsPopped : Books → ℕ → Type 0
IsPopped b chunk = (0 < length b.free) × (at b.free (length b.free - 1) ≡ chunk)

abbrev rest : Books → List ℕ
rest b = take (length b.free - 1) b.free

-- the chunk is a strand of its own
abbrev pub books_with_strand : Books → ℕ → Books
books_with_strand b chunk = record b { owner = set b.owner chunk chunk; rank = set b.rank chunk 0; last = set b.last chunk chunk; free = rest b }

-- the chunk is the last of this strand
abbrev pub books_with_chunk : Books → ℕ → ℕ → Books
books_with_chunk b head chunk = let last = at b.last head in
    record b { owner = set b.owner chunk head; next = set b.next last chunk; rank = set b.rank chunk (at b.rank last + 1); last = set b.last head chunk; free = rest b }

-- the strand is gone, and every other stays
abbrev pub IsReleased : Books → ℕ → Books → Type 0
IsReleased b head new = (new.chunks ≡ b.chunks) × (new.next ≡ b.next) × (new.rank ≡ b.rank) × (new.last ≡ set b.last head b.chunks)
