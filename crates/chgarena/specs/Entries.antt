-- The entries of a strand that are still to come while it is read.
use Rattle.std.specs.Prelude.{◌≡◌, ℕ, zero, suc, ◌<◌, ◌≤◌, List, [], ◌++◌, get_or, length}
use Rattle.chgarena.specs.Books.{at}
use Rattle.chgarena.specs.Links.{IsLinks, books}
use Rattle.chgarena.specs.declared.links.Links.{Links}

-- the entries of so many chunks from this one on
abbrev pub from_on : List ℕ → List (List (List ℕ)) → ℕ → ℕ → List (List ℕ)
from_on next pages zero chunk = []
from_on next pages (suc left) chunk = get_or pages chunk [] ++ from_on next pages left (at next chunk)

-- there are these chunks
abbrev pub AreBelow : ℕ → List ℕ → ℕ → ℕ → Type 0
AreBelow chunks next zero chunk = Unit {0}
AreBelow chunks next (suc left) chunk = (chunk < chunks) × AreBelow chunks next left (at next chunk)

-- so many entries of the chunk were given
pub record IsReading (l : Links) (ps : List (List (List ℕ))) (chunk left given : ℕ) : Type 0 where
  pub links : IsLinks l
  pub pages : length ps ≡ l.chunks
  pub chunks : AreBelow l.chunks (books l).next left chunk
  pub within : given ≤ length (get_or ps chunk [])
