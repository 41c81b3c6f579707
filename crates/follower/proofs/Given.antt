-- What is given to a writer piece by piece.
use Rattle.std.specs.Prelude.{IfOk, OnErr, Result, Ok, Err}
use Rattle.std.proofs.Common.{◌≡◌, ℕ, ◌+◌, List, ◌++◌, [], Option, Some, None, length, take, drop, sym, subst, ◌∙◌}
use Rattle.std.proofs.Math.Seq.{take-add}
use Rattle.std.specs.Io.KnownBytes.{Appends, Keeps}
use Rattle.std.proofs.lemmas.List.{append-nil}
use Rattle.std.proofs.KnownBytes.{Appends-nil, Appends-trans}

pub more_given : (a b c : Option (List ℕ)) (bytes : List ℕ) (taken n : ℕ) → Appends a b (take taken bytes) → Appends b c (take n (drop taken bytes)) → Appends a c (take (taken + n) bytes)
more_given a b c bytes taken n p q = subst (Appends a c) (sym (take-add taken n bytes)) (Appends-trans a b c _ _ p q)

-- what keeps what is known after what grew it
pub as_given : (a b c : Option (List ℕ)) (bytes : List ℕ) → Appends a b bytes → Keeps b c → Appends a c bytes
as_given None b c bytes p q = tt
as_given (Some x) None c bytes p q = absurd p
as_given (Some x) (Some y) None bytes p q = absurd q
as_given (Some x) (Some y) (Some z) bytes p q = q ∙ p

pub none_given : (a b : Option (List ℕ)) → Appends a b [] → Keeps a b
none_given None b p = tt
none_given (Some x) None p = absurd p
none_given (Some x) (Some y) p = p ∙ append-nil x

pub kept_given : (a b : Option (List ℕ)) → Keeps a b → Appends a b []
kept_given a b p = as_given a a b [] (Appends-nil a) p

pub come : {E : Type 0} (old new : List ℕ) (r : Result ℕ E) → IfOk r (λ count. (more : List ℕ) × (length more ≡ count) × (new ≡ old ++ more)) → OnErr r (new ≡ old) → (more : List ℕ) × (new ≡ old ++ more)
come old new (Ok count) p q = (p.0, p.2)
come old new (Err e) p q = ([], q ∙ sym (append-nil old))
