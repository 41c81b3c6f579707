-- A write that is tried again until it is done.
use Rattle.std.proofs.Common.{◌≡◌, ℕ, true, List, ◌++◌, take, Option, Some, None, Result, Ok, Err, ap, ◌∙◌}
use Rattle.std.specs.Result.{is_err}
use Rattle.std.specs.Io.KnownBytes.{Appends, Keeps, WriteAppends}
use Rattle.std.proofs.KnownBytes.{Keeps-trans}

-- one that failed wrote nothing
pub wrote_nothing : {E : Type 0} (a b c : Option (List ℕ)) (r : Result ℕ E) (bytes : List ℕ) → Keeps a b → WriteAppends b c r bytes → is_err r ≡ true → Keeps a c
wrote_nothing a b c (Ok count) bytes kept writes failed = absurd cc
wrote_nothing a b c (Err fault) bytes kept writes failed = Keeps-trans a b c kept writes

appended_still : (a b c : Option (List ℕ)) (bytes : List ℕ) → Keeps a b → Appends b c bytes → Appends a c bytes
appended_still None b c bytes kept appends = tt
appended_still (Some x) None c bytes kept appends = absurd kept
appended_still (Some x) (Some y) None bytes kept appends = absurd appends
appended_still (Some x) (Some y) (Some z) bytes kept appends = appends ∙ ap (λ (l : List ℕ). l ++ bytes) kept

-- the last one counts
pub wrote_last : {E : Type 0} (a b c : Option (List ℕ)) (r : Result ℕ E) (bytes : List ℕ) → Keeps a b → WriteAppends b c r bytes → WriteAppends a c r bytes
wrote_last a b c (Ok count) bytes kept writes = appended_still a b c (take count bytes) kept writes
wrote_last a b c (Err fault) bytes kept writes = Keeps-trans a b c kept writes
