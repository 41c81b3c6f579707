-- The book of a history, and what a step on its word does.
use Rattle.std.specs.Prelude.{◌≡◌, ℕ, ◌<◌, ◌==◌, true, List, [], ◌∷◌, ◌++◌, length, MatchBool}
use mathlib.Core.List.{IsPrefix}
use Rattle.logbook.specs.Pages.{Cell, Book, Named, Step, View}
use Rattle.shared_log.specs.declared.histories.entry.Entry.{Entry}

-- the first word is the length of the history; the book's second word is not used
pub record IsKept (cells : List Cell) (history : List Entry) : Type 0 where
  pub words : cells ≡ (length history, true) ∷ (0, true) ∷ []

abbrev pub head_of : Book → Named
head_of b = record { tracked = true; key = 0; book = b }

-- the entry was added to all that had been seen; or the history was longer, and was seen
abbrev pub Adds : Step Entry → View Entry ℕ → ℕ → View Entry ℕ → Type 0
Adds s v found w = MatchBool (found == s.old) (w.0 ≡ v.0 ++ s.ask ∷ []) (length w.0 ≡ found)

abbrev pub IsLonger : List Entry → List Entry → Type 0
IsLonger old new = IsPrefix old new × (length old < length new)
