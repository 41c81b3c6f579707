-- Texts that are added one after the other.
use Rattle.std.proofs.Common.{◌≡◌, ℕ, List, ◌++◌, Result, Ok, Err, ap, ◌∙◌, append_assoc}
use Rattle.std.specs.declared.alloc.AllocError.{AllocError}
use Rattle.pqformat.specs.Putting.{Puts}
use Rattle.pqformat.proofs.Putting.{extends_back}

-- what was added before, and what the last call adds
pub after : (r : Result (Unit {0}) AllocError) (old mid new a b : List ℕ) → mid ≡ old ++ a → Puts r mid new b → Puts r old new (a ++ b)
after (Ok u) old mid new a b first last = last ∙ ap (λ (l : List ℕ). l ++ b) first ∙ append_assoc old a b
after (Err e) old mid new a b first last = extends_back old a new (rw first at last)
