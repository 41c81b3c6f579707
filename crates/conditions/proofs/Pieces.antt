-- The runs of bytes of a class, of which tokens are made, as they are read and as they are spelled.
use Rattle.std.proofs.Common.{◌≡◌, ℕ, Bool, true, false, cond, List, [], ◌∷◌, ◌++◌, refl, ap, ◌∙◌, arith}
use Rattle.pqformat.specs.Quoting.{begins}
use Rattle.pqformat.proofs.Quoting.{if_true, if_false}
use Rattle.conditions.specs.declared.words.class.Class.{Class}
use Rattle.conditions.specs.Tokens.{Each}
use Rattle.conditions.specs.Lexing.{is_of, run_of, after_run}

pub record RunTaken (class : Class) (bytes run rest : List ℕ) : Type 0 where
  pub parts : bytes ≡ run ++ rest
  pub each : Each (is_of class) run
  pub end : begins (is_of class) rest ≡ false

pub run_takes : (class : Class) (bytes : List ℕ) → RunTaken class bytes (run_of class bytes) (after_run class bytes)
run_takes class [] = record { parts = refl; each = tt; end = refl }
run_takes class (b ∷ bytes) = by_test (is_of class b) refl (run_takes class bytes)
  where
    by_test : (t : Bool) → is_of class b ≡ t → RunTaken class bytes (run_of class bytes) (after_run class bytes)
        → RunTaken class (b ∷ bytes) (cond t (b ∷ run_of class bytes) []) (cond t (after_run class bytes) (b ∷ bytes))
    by_test true is inner = record { parts = ap (λ (l : List ℕ). b ∷ l) inner.parts; each = (is, inner.each); end = inner.end }
    by_test false is inner = record { parts = refl; each = tt; end = is }

pub run_again : (class : Class) (w rest : List ℕ) → Each (is_of class) w → begins (is_of class) rest ≡ false → (run_of class (w ++ rest) ≡ w) × (after_run class (w ++ rest) ≡ rest)
run_again class [] [] each end = (refl, refl)
run_again class [] (b ∷ rest) each end = (if_false (is_of class b) (b ∷ run_of class rest) [] end, if_false (is_of class b) (after_run class rest) (b ∷ rest) end)
run_again class (b ∷ w) rest each end =
    let inner = run_again class w rest each.1 end in (
      if_true (is_of class b) (b ∷ run_of class (w ++ rest)) [] each.0 ∙ ap (λ (l : List ℕ). b ∷ l) inner.0,
      if_true (is_of class b) (after_run class (w ++ rest)) (b ∷ (w ++ rest)) each.0 ∙ inner.1,
    )
