-- Writers in place, one part after the other.
use Rattle.std.proofs.Common.{◌≡◌, ℕ, List, ◌++◌, Result, Ok, Err, ap, ◌∙◌, append_assoc}
use Rattle.std.specs.Prelude.{OnOk, OnErr}
use Rattle.std.specs.declared.alloc.AllocError.{AllocError}
use Rattle.pqformat.specs.Putting.{Puts}
use Rattle.pqformat.proofs.Putting.{extends_back, extends_itself}

-- what stands after a part that was put
pub puts_after : (r : Result (Unit {0}) AllocError) (old mid new a b : List ℕ) → mid ≡ old ++ a → Puts r mid new b → Puts r old new (a ++ b)
puts_after (Ok u) old mid new a b first rest = rest ∙ ap (λ (l : List ℕ). l ++ b) first ∙ append_assoc old a b
puts_after (Err e) old mid new a b first rest = extends_back old a new (rw first at rest)

-- the last part, put at once or not at all
pub puts_last : (r : Result (Unit {0}) AllocError) (old new text : List ℕ) → OnOk r (new ≡ old ++ text) → OnErr r (new ≡ old) → Puts r old new text
puts_last (Ok u) old new text ok err = ok
puts_last (Err e) old new text ok err = rw err (extends_itself old)
