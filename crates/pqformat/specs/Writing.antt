-- What a writer does to a slice that has room.
use Rattle.std.specs.Prelude.{◌≡◌, ℕ, ◌+◌, ◌<◌, ◌≤◌, ◌^◌, List, ◌++◌, length, take}

-- The text stands at the place, after what stood before it there, and ends here. Nothing is told of what stands after it.
pub record Writes (at to : ℕ) (old new text : List ℕ) : Type 0 where
  pub ends : to ≡ at + length text
  pub front : take to new ≡ take at old ++ text
  pub same : length new ≡ length old

-- There is room for the text from the place on, in a slice whose length fits a field.
abbrev pub FitsRoom : ℕ → List ℕ → List ℕ → Type 0
FitsRoom at out text = (at + length text ≤ length out) × (length out < 2 ^ 31)
