-- A writer that works in place: on Ok the text stands at the end; refused, what stood before still stands at the front,
-- so that the caller can cut the rest off.
use Rattle.std.specs.Prelude.{◌≡◌, ℕ, List, ◌++◌, length, take, Result, Ok, Err}
use Rattle.std.specs.declared.alloc.AllocError.{AllocError}

abbrev pub Extends : List ℕ → List ℕ → Type 0
Extends old new = take (length old) new ≡ old

abbrev pub Puts : Result (Unit {0}) AllocError → List ℕ → List ℕ → List ℕ → Type 0
Puts (Ok u) old new text = new ≡ old ++ text
Puts (Err e) old new text = Extends old new
