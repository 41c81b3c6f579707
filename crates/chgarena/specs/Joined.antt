-- The strands of an arena, as its books and the entries of its chunks have them.
use Rattle.std.specs.Prelude.{◌≡◌, ℕ, ◌+◌, ◌<◌, ◌^◌, Option, Some, None, List, [], ◌∷◌, length, get_or, map, nat_lt, if◌then◌else◌}
use Rattle.std.specs.List.{flat_map, range_with_len}
use Rattle.chgarena.specs.Books.{Books, at, chunks_of}
use Rattle.chgarena.specs.Fill.{filled, sizes}
use Rattle.chgarena.specs.Links.{IsLinks, books}
use Rattle.chgarena.specs.Pages.{bytes_taken}
use Rattle.chgarena.specs.declared.links.Links.{Links}

-- the entries of chunks, one chunk after another
abbrev pub joined_entries : List (List (List ℕ)) → List ℕ → List (List ℕ)
joined_entries pages chunks = flat_map (λ chunk. get_or pages chunk []) chunks

abbrev pub strand_at : Books → List (List (List ℕ)) → ℕ → Option (List (List ℕ))
strand_at b pages head = if nat_lt (at b.last head) b.chunks then Some (joined_entries pages (chunks_of b head)) else None

abbrev pub strands : Books → List (List (List ℕ)) → List (Option (List (List ℕ)))
strands b pages = map (strand_at b pages) (range_with_len 0 b.chunks)

-- the chunks of a strand are as many as its entries need, and its last one has as much left
abbrev pub IsFilled : Books → List (List (List ℕ)) → ℕ → Type 0
IsFilled b pages head = filled (sizes (joined_entries pages (chunks_of b head))) ≡ (at b.rank (at b.last head) + 1, bytes_taken (get_or pages (at b.last head) []))

-- `before` has for each of these chunks how many entries stand before it, where n stand before the first
abbrev pub AreCounted : List (List (List ℕ)) → List ℕ → ℕ → List ℕ → Type 0
AreCounted pages before n [] = Unit {0}
AreCounted pages before n (chunk ∷ chunks) = (at before chunk ≡ n) × AreCounted pages before (n + length (get_or pages chunk [])) chunks

pub record IsArena (l : Links) (ps : List (List (List ℕ))) (before : List ℕ) : Type 0 where
  pub links : IsLinks l
  pub few : l.chunks < 2 ^ 32
  pub pages : length ps ≡ l.chunks
  pub befores : length before ≡ l.chunks
  pub filled : (head : ℕ) → head < l.chunks → at (books l).last head < l.chunks → IsFilled (books l) ps head
  pub counted : (head : ℕ) → head < l.chunks → at (books l).last head < l.chunks → AreCounted ps before 0 (chunks_of (books l) head)
